-- A job that is read can be written: what it holds breaks no rule of writing where there is room.
use Rattle.std.proofs.Common.{ℕ, ◌*◌, ◌+◌, ◌≤◌, ◌≡◌, List, arith, length, le-ltb, eq-eqb, ne_eqb}
use Rattle.refusals.specs.Tables.{first_of}
use Rattle.refusals.specs.Answers.{fine}
use Rattle.circuit.specs.Rules.{first_bad_gate, first_bad_vector, bad_lines, bad_counts}
use Rattle.job.specs.Image.{lines_in, classes_in, gates_in, vectors_in, gate_words, vector_words, gate_count, image}
use Rattle.job.specs.Rules.{bad_classes, read_rows, write_rows, content_rows}
use Rattle.number_bytes.proofs.ByteLaws.{length-words}
use Rattle.job.proofs.WriteLaws.{JobOk}
use Rattle.job.proofs.ReadLaws.{read_ok}

pub ok_write : (n k : ℕ) (words xs : List ℕ) (room : ℕ) → JobOk n k words xs → length (image n k words xs) ≤ room
    → fine ≡ first_of (write_rows n k words xs room) fine
unfolding write_rows content_rows bad_lines bad_classes bad_counts
ok_write n k words xs room ok h =
    rw (
      le-ltb n 1 ok.some_lines,
      le-ltb 32 n ok.lines_fit,
      ne_eqb k 0 (λ e. omega arith),
      le-ltb 15 k ok.classes_fit,
      le-ltb 1024 (gate_count words) ok.gates_fit,
      le-ltb 2048 (length xs) ok.vectors_fit,
      eq-eqb (first_bad_gate n words) 0 ok.gates_good,
      eq-eqb (first_bad_vector n xs) 0 ok.vectors_good,
      le-ltb room (length (image n k words xs)) h,
    )

read_job_ok : (bytes : List ℕ) (gate_room vector_room : ℕ) → fine ≡ first_of (read_rows bytes gate_room vector_room) fine
    → JobOk (lines_in bytes) (classes_in bytes) (gate_words bytes) (vector_words bytes)
unfolding gate_count gate_words vector_words
read_job_ok bytes gate_room vector_room e =
    let ok = read_ok bytes gate_room vector_room e in
    let gates = length-words (3 * gates_in bytes) bytes 28 in
    let many = length-words (vectors_in bytes) bytes (28 + 12 * gates_in bytes) in
    record {
      some_lines = ok.head.some_lines;
      lines_fit = ok.head.lines_fit;
      some_classes = ok.head.some_classes;
      classes_fit = ok.head.classes_fit;
      gates_fit = omega (arith, ok.head.gates_fit);
      vectors_fit = omega (arith, ok.head.vectors_fit);
      gates_good = ok.gates_good;
      vectors_good = ok.vectors_good;
    }

pub written_read_fine : (bytes : List ℕ) (gate_room vector_room room : ℕ) → fine ≡ first_of (read_rows bytes gate_room vector_room) fine
    → length (image (lines_in bytes) (classes_in bytes) (gate_words bytes) (vector_words bytes)) ≤ room
    → fine ≡ first_of (write_rows (lines_in bytes) (classes_in bytes) (gate_words bytes) (vector_words bytes) room) fine
written_read_fine bytes gate_room vector_room room e h = ok_write _ _ _ _ room (read_job_ok bytes gate_room vector_room e) h
