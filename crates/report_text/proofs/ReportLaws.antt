-- Laws of the whole report: its text in parts, and what bytes that are read say of it.
use Prim.Native.Nat.{ℕ, ◌*◌, ◌/◌, ◌^◌, ◌<◌, ◌≤◌}
use mathlib.Core.Path.{◌≡◌, refl, ap, sym, ◌∙◌}
use mathlib.Core.Bool.{false}
use mathlib.Core.List.{List, [], ◌∷◌, ◌++◌, append_assoc, append-nil}
use native.Mathlib.Omega.{arith}
use lib.ListN.{length, take, drop, replicate}
use Rattle.basics.specs.Choice.{choice}
use lib.Seq.{sets, take-append_seam, length-sets}
use borrow.Author.Tests.{le-ltb}
use Rattle.basics.specs.Lists.{each, All}
use Rattle.refusals.specs.Tables.{Row, Told, first_of}
use Rattle.refusals.specs.Tables.Told.{answered, refused}
use Rattle.refusals.specs.Answers.{fine}
use Rattle.refusals.proofs.Tables.{refused_on, fine_on, fine-parts, refused_all, after-refused, after-fine, answered-fine, refused_rows, Small, refused_small_on}
use Rattle.circuit.specs.Limits.{most_gates, most_vectors}
use Rattle.circuit.specs.Rules.{first_bad_gate, first_bad_vector}
use Rattle.circuit.specs.Sound.{Sound}
use Rattle.circuit.proofs.GateLaws.{gates_count}
use Rattle.circuit.proofs.RuleLaws.{VectorsOk, first_bad-le, first_vector_le}
use Rattle.job.specs.Image.{lines_in, classes_in, gates_in, vectors_in, gate_words, vector_words}
use Rattle.job.specs.Promises.{read_tells, read_leaves_gates, read_leaves_vectors}
use Rattle.std.specs.Prelude.{Result, Ok, ltb}
use Rattle.refusals.specs.Answers.{told}
use Rattle.refusals.specs.declared.Refusal.{Refusal}
use Rattle.job.specs.Answers.{job_values}
use Rattle.job.specs.declared.Job.{Job}
use Rattle.job.specs.Rules.{read_rows, header_rows, content_rows, content_rows_in, room_rows}
use Rattle.basics.proofs.PutLaws.{sets_front}
use Rattle.job.proofs.ImageLaws.{gates_front, vectors_front, length-gate_words, length-vector_words}
use Rattle.job.proofs.HeaderLaws.{header_ok}
use Rattle.job.proofs.ReadLaws.{read_ok, read_set}
use Rattle.report_text.specs.Lines.{spaced, line}
use Rattle.report_text.specs.Report.{job_line, class_lines, job_text, refused_text, job_rows, text_of, report_text, longest_report}
use Rattle.report_text.specs.Rules.{report_rows}
use Rattle.report_text.specs.Promises.{report_tells, report_leaves}
use Rattle.report_text.specs.Parts.{ok_text, numbers_line}
use Rattle.report_text.proofs.LengthLaws.{job-fits, refused-fits}

-- ---- the text of a refused job, and of any other

bare : (letter : ℕ) (numbers : List ℕ) → numbers_line letter numbers false ≡ line letter (each spaced numbers)
unfolding numbers_line ok_text
bare letter numbers = ap (line letter) (append-nil (each spaced numbers))

pub refused_line : (number place : ℕ) → numbers_line 69 (number ∷ place ∷ []) false ≡ refused_text number place
unfolding refused_text
refused_line number place = bare 69 (number ∷ place ∷ [])

pub job_line_lem : (n : ℕ) (words xs : List ℕ) → numbers_line 74 (n ∷ length words / 3 ∷ length xs ∷ []) false ≡ job_line n words xs
job_line_lem n words xs = rw (gates_count words) (bare 74 (n ∷ length words / 3 ∷ length xs ∷ []))

pub job_parts : (n classes : ℕ) (words xs : List ℕ) → job_line n words xs ++ class_lines n classes words xs ≡ job_text n classes words xs
unfolding job_text
job_parts n classes words xs = refl

-- ---- what a reading tells

pub report_refused : (bytes : List ℕ) (k p gate_room vector_room : ℕ) (answer : List ℕ) → gate_room ≡ 3 * most_gates → vector_room ≡ most_vectors
    → refused k p ≡ first_of (read_rows bytes gate_room vector_room) (answered answer) → refused_text k p ≡ report_text bytes
unfolding report_text
report_refused bytes k p gate_room vector_room answer g v e = rw (← g, ← v, ← refused_rows (read_rows bytes gate_room vector_room) k p answer e)

report_job : (bytes : List ℕ) → fine ≡ first_of (job_rows bytes) fine
    → job_text (lines_in bytes) (classes_in bytes) (gate_words bytes) (vector_words bytes) ≡ report_text bytes
unfolding report_text
report_job bytes e = rw (← e)

-- ---- a job that is read

-- it breaks no rule of the judge
job-set : (bytes : List ℕ) → fine ≡ first_of (job_rows bytes) fine → VectorsOk (lines_in bytes) (gate_words bytes) (vector_words bytes)
job-set bytes e = read_set bytes (3 * most_gates) most_vectors (read_ok bytes (3 * most_gates) most_vectors e)

-- what a reading that answers leaves in the lists
pub record JobRead (bytes gates vectors : List ℕ) (n k d m : ℕ) : Type 0 where
  pub passed : fine ≡ first_of (job_rows bytes) fine
  pub lines_are : n ≡ lines_in bytes
  pub classes_are : k ≡ classes_in bytes
  pub gates_are : take (3 * d) gates ≡ gate_words bytes
  pub vectors_are : take m vectors ≡ vector_words bytes
  pub gates_in : 3 * d ≤ 3 * most_gates
  pub vectors_in : m ≤ most_vectors

-- what the call's promise says of a job that it answers
pub job_read : (r : Result Job Refusal) (bytes oldGates oldVectors gates vectors : List ℕ) (n k d m : ℕ)
    → r ≡ Ok (record { lines = n; classes = k; gates = d; vectors = m })
    → (told job_values r ≡ read_tells bytes oldGates oldVectors)
    × ((gates ≡ read_leaves_gates bytes oldGates oldVectors) × (vectors ≡ read_leaves_vectors bytes oldGates oldVectors))
    → length oldGates ≡ 3 * most_gates → length oldVectors ≡ most_vectors → JobRead bytes gates vectors n k d m
job_read r bytes oldGates oldVectors gates vectors n k d m is promise p q =
    let rows = read_rows bytes (length oldGates) (length oldVectors) in
    let answer : answered (n ∷ k ∷ d ∷ m ∷ []) ≡ read_tells bytes oldGates oldVectors = sym (ap (told job_values) is) ∙ promise.0 in
    let w = answered-fine rows _ _ answer in
    let fits = read_ok bytes (length oldGates) (length oldVectors) w.1 in
    let same : d ≡ gates_in bytes = cc in
    let many : m ≡ vectors_in bytes = cc in
    record {
      passed = rw (p, q) at w.1;
      lines_are = cc;
      classes_are = cc;
      gates_are = gates_front bytes gates _ d (promise.1.0 ∙ sym (after-fine rows _ _ w.1)) same;
      vectors_are = vectors_front bytes vectors _ m (promise.1.1 ∙ sym (after-fine rows _ _ w.1)) many;
      gates_in = omega (arith, same, fits.gates_room);
      vectors_in = omega (arith, many, fits.vectors_room);
    }

module _ (bytes gates vectors : List ℕ) (n k d m : ℕ) (w : JobRead bytes gates vectors n k d m) where
  -- it breaks no rule of the judge
  pub job_sound : Sound n (take (3 * d) gates) × (length (take m vectors) ≤ most_vectors)
  job_sound = let ok = job-set bytes w.passed in
      rw (w.lines_are, w.gates_are, w.vectors_are) (ok.set.circuit, ok.set.vectors_fit)

  pub job_text_lem : job_text n k (take (3 * d) gates) (take m vectors) ≡ report_text bytes
  job_text_lem = rw (w.lines_are, w.classes_are, w.gates_are, w.vectors_are) (report_job bytes w.passed)

-- ---- the call

-- there is room for the longest
abbrev room : List ℕ → List Row
room bytes = room_rows bytes (3 * most_gates) most_vectors

-- a job's refusals have small numbers, and places of a gate or a vector, or the next
header_small : (bytes : List ℕ) → All (Small (10 ^ 10)) (header_rows bytes)
unfolding header_rows
header_small bytes =
    let row : (k : ℕ) → k ≤ 6 → (k < 10 ^ 10) × (0 < 10 ^ 10) = λ k h. (omega arith, omega arith) in
    (row 1 (omega arith), (row 2 (omega arith), (row 3 (omega arith), (row 4 (omega arith), (row 5 (omega arith), (row 6 (omega arith), tt))))))

content_small : (bytes : List ℕ) → fine ≡ first_of (header_rows bytes) fine → All (Small (10 ^ 10)) (content_rows_in bytes ++ room bytes)
unfolding content_rows
content_small bytes e =
    let h = header_ok bytes e in
    let n = lines_in bytes in
    let xs = vector_words bytes in
    let gate : first_bad_gate n (gate_words bytes) < 10 ^ 10 = omega (arith, first_bad-le n (gate_words bytes), length-gate_words bytes, h.gates_fit) in
    let vector : first_bad_vector n xs < 10 ^ 10 = omega (arith, first_vector_le n xs, length-vector_words bytes, h.vectors_fit) in
    ((omega arith, gate), ((omega arith, vector), ((omega arith, omega arith), tt)))

job_small : (bytes : List ℕ) (k p : ℕ) → refused k p ≡ first_of (job_rows bytes) fine → (k < 10 ^ 10) × (p < 10 ^ 10)
unfolding read_rows
job_small bytes k p e =
    refused_small_on (10 ^ 10) (header_rows bytes) (content_rows_in bytes ++ room bytes) k p (header_small bytes) (content_small bytes) e

text_of-fits : (bytes : List ℕ) (told : Told) → told ≡ first_of (job_rows bytes) fine
    → length (text_of told (job_text (lines_in bytes) (classes_in bytes) (gate_words bytes) (vector_words bytes))) ≤ longest_report
text_of-fits bytes (refused number place) e =
    let w = job_small bytes number place e in
    refused-fits number place w.0 w.1
text_of-fits bytes (answered values) e =
    let ok = job-set bytes (answered-fine (job_rows bytes) values [] e).1 in
    job-fits (lines_in bytes) (classes_in bytes) (gate_words bytes) (vector_words bytes) ok.set.circuit ok.set.vectors_fit

-- the longest report
pub report_fits : (bytes : List ℕ) → length (report_text bytes) ≤ longest_report
unfolding report_text
report_fits bytes = text_of-fits bytes (first_of (job_rows bytes) fine) refl

-- the text in an array that is long enough
pub text_end : (bytes last : List ℕ) (end : ℕ) → end ≡ length (report_text bytes) → last ≡ sets (replicate longest_report 0) 0 (report_text bytes)
    → (end ≤ length last) × (take end last ≡ report_text bytes)
text_end bytes last end e f =
    let fits = report_fits bytes in (
      rw (f, length-sets (replicate longest_report 0) 0 (report_text bytes)) (omega (arith, fits, e)),
      rw (f, e, sets_front (replicate longest_report 0) (report_text bytes) (omega (arith, fits))) (take-append_seam (report_text bytes) _),
    )

module _ (bytes out : List ℕ) (end : ℕ) (is : end ≡ length (report_text bytes)) where
  pub report_short : (k p : ℕ) → refused k p ≡ choice (ltb (length out) end) (refused 10 0) fine
      → (refused k p ≡ report_tells bytes out) × (out ≡ report_leaves bytes out)
  unfolding report_rows
  report_short k p e =
      let row : refused k p ≡ first_of (report_rows bytes (length out)) fine = rw (← is) e in
      (refused_all (report_rows bytes (length out)) _ k p row, after-refused (report_rows bytes (length out)) _ _ k p row)

  pub report_put : end ≤ length out → (front : List ℕ) → front ≡ report_text bytes
      → (answered (end ∷ []) ≡ report_tells bytes out) × (front ++ drop end out ≡ report_leaves bytes out)
  unfolding report_rows
  report_put h front e = rw (le-ltb (length out) (length (report_text bytes)) (omega arith), is, e) (refl, refl)

-- ---- what callers may lean on

-- a report that is told is no longer than the longest
pub told_fits : (bytes : List ℕ) (room end : ℕ) → answered (end ∷ []) ≡ first_of (report_rows bytes room) (answered (length (report_text bytes) ∷ []))
    → end ≤ longest_report
told_fits bytes room end e =
    let w = (answered-fine (report_rows bytes room) (end ∷ []) (length (report_text bytes) ∷ []) e).0 in
    let same : end ≡ length (report_text bytes) = cc in
    omega (arith, same, report_fits bytes)

-- a job is refused by rules 1 to 8 alone
in_parts : (bytes : List ℕ) → job_rows bytes ≡ (header_rows bytes ++ content_rows_in bytes) ++ room bytes
unfolding read_rows
in_parts bytes = sym (append_assoc (header_rows bytes) (content_rows_in bytes) (room bytes))

room_fine : (bytes : List ℕ) → fine ≡ first_of (header_rows bytes) fine → first_of (room bytes) fine ≡ fine
room_fine bytes e =
    let h = header_ok bytes e in
    rw (le-ltb (3 * most_gates) (3 * gates_in bytes) (omega (arith, h.gates_fit)), le-ltb most_vectors (vectors_in bytes) h.vectors_fit)

by_told : (bytes : List ℕ) (told : Told) → told ≡ first_of (header_rows bytes ++ content_rows_in bytes) fine
    → told ≡ first_of ((header_rows bytes ++ content_rows_in bytes) ++ room bytes) fine
by_told bytes (refused k p) e = refused_on (header_rows bytes ++ content_rows_in bytes) (room bytes) fine k p e
by_told bytes (answered values) e =
    let passed = (answered-fine (header_rows bytes ++ content_rows_in bytes) values [] e).1 in
    let header = (fine-parts (header_rows bytes) (content_rows_in bytes) passed).0 in
    e ∙ sym passed ∙ sym (fine_on (header_rows bytes ++ content_rows_in bytes) (room bytes) fine passed ∙ room_fine bytes header)

pub rules_1_to_8 : (bytes : List ℕ) → first_of (job_rows bytes) fine ≡ first_of (header_rows bytes ++ content_rows_in bytes) fine
rules_1_to_8 bytes = rw (in_parts bytes) (sym (by_told bytes (first_of (header_rows bytes ++ content_rows_in bytes) fine) refl))
