-- The rules of judging a set, and of counting a coverage, for a class.
use Rattle.std.specs.Prelude.{ℕ, not, List, [], ◌∷◌, ◌++◌}
use Rattle.refusals.specs.Tables.{Row}
use Rattle.refusals.specs.Tables.Row.{refuse◌at◌when◌}
use Rattle.circuit.specs.Rules.{circuit_rows, vector_rows, set_rows}
use Rattle.faults.specs.Classes.{is_class}

-- a class that is asked alone
unfoldable pub class_rows : ℕ → List Row
class_rows class = refuse 9 at 1 when not (is_class class) ∷ []

-- one vector more for a coverage
abbrev pub add_rows : ℕ → List ℕ → ℕ → List Row
add_rows n words x = circuit_rows n words ++ vector_rows n x

unfoldable pub judge_rows : ℕ → List ℕ → List ℕ → ℕ → List Row
judge_rows n words xs class = set_rows n words xs ++ class_rows class

unfoldable pub count_rows : ℕ → List ℕ → ℕ → List Row
count_rows n words class = circuit_rows n words ++ class_rows class
