-- Laws of writing: what a job that is written and breaks none is.
use Rattle.std.proofs.Common.{ℕ, ◌≤◌, ◌≡◌, not, List, length, eqb, ltb, ltb-false}
use Rattle.refusals.specs.Tables.{first_of}
use Rattle.refusals.specs.Answers.{fine}
use Rattle.refusals.proofs.Tables.{fine_row, turns, calls}
use Rattle.circuit.specs.Limits.{most_lines, most_gates, most_vectors}
use Rattle.circuit.specs.Rules.{bad_lines, bad_counts, first_bad_gate, first_bad_vector}
use Rattle.circuit.proofs.RuleLaws.{lines_right, counts_right}
use Rattle.job.specs.Image.{gate_count, image}
use Rattle.job.specs.Rules.{bad_classes, content_rows, write_rows}
use Rattle.job.proofs.ImageLaws.{length-image}
use Rattle.job.proofs.HeaderLaws.{same, classes_right}

-- what the check of a job that is written is proved by
pub ruleset write_steps = (turns, lines_right, counts_right, length-image)

-- a job that breaks no rule
pub record JobOk (n k : ℕ) (words xs : List ℕ) : Type 0 where
  pub some_lines : 1 ≤ n
  pub lines_fit : n ≤ most_lines
  pub some_classes : 1 ≤ k
  pub classes_fit : k ≤ 15
  pub gates_fit : gate_count words ≤ most_gates
  pub vectors_fit : length xs ≤ most_vectors
  pub gates_good : first_bad_gate n words ≡ 0
  pub vectors_good : first_bad_vector n xs ≡ 0

-- and has room for its image
pub record WriteOk (n k : ℕ) (words xs : List ℕ) (room : ℕ) : Type 0 where
  pub job : JobOk n k words xs
  pub bytes_room : length (image n k words xs) ≤ room

pub write_ok : (n k : ℕ) (words xs : List ℕ) (room : ℕ) → fine ≡ first_of (write_rows n k words xs room) fine → WriteOk n k words xs room
unfolding write_rows content_rows
write_ok n k words xs room e0 =
    let e3 = fine_row (bad_lines n) 3 0 _ e0 in
    let e4 = fine_row (bad_classes k) 4 0 _ e3.1 in
    let e5 = fine_row (bad_counts (gate_count words) (length xs)) 5 0 _ e4.1 in
    let e7 = fine_row (not (eqb (first_bad_gate n words) 0)) 7 _ _ e5.1 in
    let e8 = fine_row (not (eqb (first_bad_vector n xs) 0)) 8 _ _ e7.1 in
    let e10 = fine_row (ltb room (length (image n k words xs))) 10 0 fine e8.1 in
    let lines = lines_right n e3.0 in
    let classes = classes_right k e4.0 in
    let counts = counts_right (gate_count words) (length xs) e5.0 in
    record {
      job = record {
        some_lines = lines.0;
        lines_fit = lines.1;
        some_classes = classes.0;
        classes_fit = classes.1;
        gates_fit = counts.0;
        vectors_fit = counts.1;
        gates_good = same (first_bad_gate n words) 0 e7.0;
        vectors_good = same (first_bad_vector n xs) 0 e8.0;
      };
      bytes_room = ltb-false room (length (image n k words xs)) e10.0;
    }

-- what the call that writes a job is proved by
pub ruleset job_steps = (calls, write_ok)
