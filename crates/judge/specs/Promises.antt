-- What each public call of this crate tells: the first rule of its table that is broken, or else the answer; and the coverage that is handed back.
use Rattle.std.specs.Prelude.{ℕ, List}
use Rattle.refusals.specs.Tables.{Told, first_of, after}
use Rattle.refusals.specs.Answers.{fine}
use Rattle.circuit.specs.Gates.{gates_of}
use Rattle.faults.specs.Classes.{class_faults}
use Rattle.judge.specs.Coverages.{with_vector, is_marked}
use Rattle.judge.specs.Judging.{verdict, set_verdict}
use Rattle.judge.specs.Rules.{judge_rows, count_rows, add_rows}
use Rattle.judge.specs.declared.coverage.Coverage.{Coverage}

-- `judge`, and `cover` by way of a coverage: the verdict on a set for a class
abbrev pub judge_tells : ℕ → List ℕ → List ℕ → ℕ → Told
judge_tells n words xs class = first_of (judge_rows n words xs class) (set_verdict n (gates_of words) xs class)

-- `Coverage::count`: the verdict on a coverage for a class
abbrev pub count_tells : Coverage → ℕ → List ℕ → ℕ → Told
count_tells c n words class = first_of (count_rows n words class) (verdict (is_marked c) (class_faults n (gates_of words) class))

-- `Coverage::with_vector`: the refusal, if there is one, and the coverage with the vector added, or else the same
abbrev pub with_vector_tells : ℕ → List ℕ → ℕ → Told
with_vector_tells n words x = first_of (add_rows n words x) fine

abbrev pub with_vector_gives : Coverage → ℕ → List ℕ → ℕ → Coverage
with_vector_gives c n words x = after (add_rows n words x) (with_vector c n (gates_of words) x) c
