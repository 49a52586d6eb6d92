-- Laws of reading: what a job that is read and breaks no rule is.
use Rattle.std.proofs.Common.{ℕ, ◌*◌, ◌/◌, ◌≤◌, ◌≡◌, ◌∙◌, Bool, not, List, [], ◌∷◌, ◌++◌, length, eqb, ltb}
use Rattle.std.proofs.Common.{refl, sym, arith, length-take-le, le-ltb, eq-eqb, ne_eqb, ltb-false}
use Rattle.basics.proofs.Tests.{or_neither}
use Rattle.refusals.specs.Tables.{first_of}
use Rattle.refusals.specs.Answers.{fine}
use Rattle.refusals.proofs.Places.{told_none}
use Rattle.refusals.proofs.Tables.{fine_on, fine_row, turns, fine-parts, calls}
use Rattle.circuit.specs.Rules.{first_bad_gate, first_bad_vector, circuit_set_rows, set_rows}
use Rattle.circuit.proofs.RuleLaws.{VectorsOk, vectors_ok, lines_good, counts_good, set_gates}
use Rattle.number_bytes.specs.Bytes.{number_at}
use Rattle.job.specs.Image.{header_length, past_gates, past_vectors, lines_in, classes_in, gates_in, vectors_in, gate_words, vector_words}
use Rattle.job.specs.Rules.{bad_classes, bad_sizes, bad_room, header_rows, content_rows, content_rows_in, room_rows, read_rows}
use Rattle.job.proofs.ImageLaws.{length-gate_words, length-vector_words, gates_front, vectors_front}
use Rattle.job.proofs.HeaderLaws.{HeaderOk, same, header_ok}

-- what the check of a job that is read is proved by
pub ruleset read_steps = (turns, header_ok, gates_front, vectors_front, length-take-le)

-- a job that is read and breaks no rule
pub record ReadOk (bytes : List ℕ) (words vectors : ℕ) : Type 0 where
  pub head : HeaderOk bytes
  pub gates_good : first_bad_gate (lines_in bytes) (gate_words bytes) ≡ 0
  pub vectors_good : first_bad_vector (lines_in bytes) (vector_words bytes) ≡ 0
  pub gates_room : 3 * gates_in bytes ≤ words
  pub vectors_room : vectors_in bytes ≤ vectors

pub read_ok : (bytes : List ℕ) (words vectors : ℕ) → fine ≡ first_of (read_rows bytes words vectors) fine → ReadOk bytes words vectors
unfolding read_rows content_rows
read_ok bytes words vectors e =
    let w = fine-parts (header_rows bytes) (content_rows_in bytes ++ room_rows bytes words vectors) e in
    let e7 = fine_row (not (eqb (first_bad_gate (lines_in bytes) (gate_words bytes)) 0)) 7 _ _ w.1 in
    let e8 = fine_row (not (eqb (first_bad_vector (lines_in bytes) (vector_words bytes)) 0)) 8 _ _ e7.1 in
    let e10 = fine_row (bad_room bytes words vectors) 10 0 fine e8.1 in
    let room = or_neither (ltb words (3 * gates_in bytes)) (ltb vectors (vectors_in bytes)) e10.0 in
    record {
      head = header_ok bytes w.0;
      gates_good = same (first_bad_gate (lines_in bytes) (gate_words bytes)) 0 e7.0;
      vectors_good = same (first_bad_vector (lines_in bytes) (vector_words bytes)) 0 e8.0;
      gates_room = ltb-false words (3 * gates_in bytes) room.0;
      vectors_room = ltb-false vectors (vectors_in bytes) room.1;
    }

pub ok_read : (bytes : List ℕ) (words vectors : ℕ) → ReadOk bytes words vectors → fine ≡ first_of (read_rows bytes words vectors) fine
unfolding read_rows header_rows content_rows bad_classes bad_sizes
ok_read bytes words vectors ok =
    let h = ok.head in
    rw (
      le-ltb (length bytes) header_length h.long,
      eq-eqb (number_at 2 bytes 0) 1 h.form,
      lines_good (lines_in bytes) h.some_lines h.lines_fit,
      ne_eqb (classes_in bytes) 0 (λ e. omega arith),
      le-ltb 15 (classes_in bytes) h.classes_fit,
      eq-eqb (number_at 2 bytes 6) 0 h.nothing,
      counts_good (gates_in bytes) (vectors_in bytes) h.gates_fit h.vectors_fit,
      eq-eqb (number_at 4 bytes 16) header_length h.gates_at,
      eq-eqb (number_at 4 bytes 20) (past_gates (gates_in bytes)) h.vectors_at,
      eq-eqb (number_at 4 bytes 24) (past_vectors (gates_in bytes) (vectors_in bytes)) h.end_at,
      eq-eqb (length bytes) (past_vectors (gates_in bytes) (vectors_in bytes)) h.whole,
      eq-eqb (first_bad_gate (lines_in bytes) (gate_words bytes)) 0 ok.gates_good,
      eq-eqb (first_bad_vector (lines_in bytes) (vector_words bytes)) 0 ok.vectors_good,
      le-ltb words (3 * gates_in bytes) ok.gates_room,
      le-ltb vectors (vectors_in bytes) ok.vectors_room,
    )

-- what the call that reads a job is proved by
pub ruleset job_steps = (calls, read_ok)

-- its circuit and its set of vectors break no rule of theirs
pub read_set : (bytes : List ℕ) (words vectors : ℕ) → ReadOk bytes words vectors
    → VectorsOk (lines_in bytes) (gate_words bytes) (vector_words bytes)
unfolding set_rows
read_set bytes words vectors ok =
    let n = lines_in bytes in
    let m = length (vector_words bytes) in
    let lines = lines_good n ok.head.some_lines ok.head.lines_fit in
    let counts = counts_good (length (gate_words bytes) / 3) m (omega (arith, length-gate_words bytes, ok.head.gates_fit))
    (omega (arith, length-vector_words bytes, ok.head.vectors_fit)) in
    let circuit = told_none 7 (first_bad_gate n (gate_words bytes)) ok.gates_good ∙ set_gates n (gate_words bytes) m lines counts in
    vectors_ok n (gate_words bytes) (vector_words bytes)
    (rw (fine_on (circuit_set_rows n (gate_words bytes) m) _ fine circuit, eq-eqb (first_bad_vector n (vector_words bytes)) 0 ok.vectors_good))
