-- Laws of the header: what a header that breaks no rule is.
use Rattle.std.proofs.Common.{ℕ, ◌≤◌, ◌≡◌, false, not, ◌||◌, List, arith, length, eqb, ltb, ltb-false, eqb-true}
use Rattle.std.proofs.lemmas.Bool.{eqb-false, not-false}
use Rattle.basics.proofs.Tests.{or_neither}
use Rattle.refusals.specs.Tables.{first_of}
use Rattle.refusals.specs.Answers.{fine}
use Rattle.refusals.proofs.Tables.{fine_row}
use Rattle.circuit.specs.Limits.{most_lines, most_gates, most_vectors}
use Rattle.circuit.specs.Rules.{bad_lines, bad_counts}
use Rattle.circuit.proofs.RuleLaws.{lines_right, counts_right}
use Rattle.number_bytes.specs.Bytes.{number_at}
use Rattle.job.specs.Image.{header_length, past_gates, past_vectors, lines_in, classes_in, gates_in, vectors_in}
use Rattle.job.specs.Rules.{bad_classes, bad_sizes, header_rows}

pub record HeaderOk (bytes : List ℕ) : Type 0 where
  pub long : header_length ≤ length bytes
  pub form : number_at 2 bytes 0 ≡ 1
  pub some_lines : 1 ≤ lines_in bytes
  pub lines_fit : lines_in bytes ≤ most_lines
  pub some_classes : 1 ≤ classes_in bytes
  pub classes_fit : classes_in bytes ≤ 15
  pub nothing : number_at 2 bytes 6 ≡ 0
  pub gates_fit : gates_in bytes ≤ most_gates
  pub vectors_fit : vectors_in bytes ≤ most_vectors
  pub gates_at : number_at 4 bytes 16 ≡ header_length
  pub vectors_at : number_at 4 bytes 20 ≡ past_gates (gates_in bytes)
  pub end_at : number_at 4 bytes 24 ≡ past_vectors (gates_in bytes) (vectors_in bytes)
  pub whole : length bytes ≡ past_vectors (gates_in bytes) (vectors_in bytes)

-- a negated equality test that fails
pub same : (a b : ℕ) → not (eqb a b) ≡ false → a ≡ b
same a b e = eqb-true a b (not-false (eqb a b) e)

pub classes_right : (k : ℕ) → bad_classes k ≡ false → (1 ≤ k) × (k ≤ 15)
unfolding bad_classes
classes_right k e =
    let w = or_neither (eqb k 0) (ltb 15 k) e in
    let some = eqb-false k 0 w.0 in
    (omega arith, ltb-false 15 k w.1)

pub header_ok : (bytes : List ℕ) → fine ≡ first_of (header_rows bytes) fine → HeaderOk bytes
unfolding header_rows bad_sizes
header_ok bytes e0 =
    let e1 = fine_row (ltb (length bytes) header_length) 1 0 _ e0 in
    let e2 = fine_row (not (eqb (number_at 2 bytes 0) 1)) 2 0 _ e1.1 in
    let e3 = fine_row (bad_lines (lines_in bytes)) 3 0 _ e2.1 in
    let e4 = fine_row (bad_classes (classes_in bytes) || not (eqb (number_at 2 bytes 6) 0)) 4 0 _ e3.1 in
    let e5 = fine_row (bad_counts (gates_in bytes) (vectors_in bytes)) 5 0 _ e4.1 in
    let e6 = fine_row (bad_sizes bytes) 6 0 fine e5.1 in
    let lines = lines_right (lines_in bytes) e3.0 in
    let nothing = or_neither (bad_classes (classes_in bytes)) (not (eqb (number_at 2 bytes 6) 0)) e4.0 in
    let classes = classes_right (classes_in bytes) nothing.0 in
    let counts = counts_right (gates_in bytes) (vectors_in bytes) e5.0 in
    let s1 = or_neither (not (eqb (number_at 4 bytes 16) header_length)) _ e6.0 in
    let s2 = or_neither (not (eqb (number_at 4 bytes 20) (past_gates (gates_in bytes)))) _ s1.1 in
    let s3 = or_neither (not (eqb (number_at 4 bytes 24) (past_vectors (gates_in bytes) (vectors_in bytes)))) _ s2.1 in
    record {
      long = ltb-false (length bytes) header_length e1.0;
      form = same (number_at 2 bytes 0) 1 e2.0;
      some_lines = lines.0;
      lines_fit = lines.1;
      some_classes = classes.0;
      classes_fit = classes.1;
      nothing = same (number_at 2 bytes 6) 0 nothing.1;
      gates_fit = counts.0;
      vectors_fit = counts.1;
      gates_at = same (number_at 4 bytes 16) header_length s1.0;
      vectors_at = same (number_at 4 bytes 20) (past_gates (gates_in bytes)) s2.0;
      end_at = same (number_at 4 bytes 24) (past_vectors (gates_in bytes) (vectors_in bytes)) s3.0;
      whole = same (length bytes) (past_vectors (gates_in bytes) (vectors_in bytes)) s3.1;
    }
