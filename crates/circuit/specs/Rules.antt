-- The rules of a circuit, of a state and of a level, in the order of their numbers.
use Rattle.std.specs.Prelude.{ℕ, ◌%◌, ◌^◌, Bool, false, not, ◌||◌, List, [], ◌∷◌, ◌++◌, length, eqb, ltb, leb}
use Rattle.refusals.specs.Tables.{Row}
use Rattle.refusals.specs.Tables.Row.{refuse◌at◌when◌}
use Rattle.refusals.specs.Places.{first_bad}
use Rattle.circuit.specs.Limits.{most_lines, most_gates, most_vectors}
use Rattle.circuit.specs.Gates.{gates_of}
use Rattle.circuit.specs.Controls.{is_control}
use Rattle.circuit.specs.declared.Gate.{Gate}

-- no line, or more than a circuit may have
unfoldable pub bad_lines : ℕ → Bool
bad_lines n = ltb n 1 || ltb most_lines n

-- more gates than a circuit may have, or more vectors than a set
unfoldable pub bad_counts : ℕ → ℕ → Bool
bad_counts d m = ltb most_gates d || ltb most_vectors m

-- a mask bit at n or above, a spare that is not 0, a target at n or above, or the target among the controls
unfoldable pub bad_gate : ℕ → Gate → Bool
bad_gate n g = leb (2 ^ n) g.controls || (not (eqb g.spare 0) || (leb n g.target || is_control g g.target))

-- the number of the first bad gate; words left over are one more bad gate
unfoldable pub first_bad_gate : ℕ → List ℕ → ℕ
first_bad_gate n words = first_bad (bad_gate n) (not (eqb (length words % 3) 0)) (gates_of words)

-- a circuit with a set of m vectors
unfoldable pub circuit_set_rows : ℕ → List ℕ → ℕ → List Row
circuit_set_rows n words m =
    refuse 3 at 0 when bad_lines n ∷
    refuse 5 at 0 when bad_counts (length (gates_of words)) m ∷
    refuse 7 at first_bad_gate n words when not (eqb (first_bad_gate n words) 0) ∷ []

-- a circuit with no set
unfoldable pub circuit_rows : ℕ → List ℕ → List Row
circuit_rows n words = circuit_set_rows n words 0

-- the vectors of a set
unfoldable pub first_bad_vector : ℕ → List ℕ → ℕ
first_bad_vector n xs = first_bad (leb (2 ^ n)) false xs

unfoldable pub set_rows : ℕ → List ℕ → List ℕ → List Row
set_rows n words xs = circuit_set_rows n words (length xs) ++ (refuse 8 at first_bad_vector n xs when not (eqb (first_bad_vector n xs) 0) ∷ [])

-- a vector or a state that is asked alone
unfoldable pub vector_rows : ℕ → ℕ → List Row
vector_rows n x = refuse 8 at 1 when leb (2 ^ n) x ∷ []

unfoldable pub level_rows : List ℕ → ℕ → List Row
level_rows words i = refuse 12 at 0 when ltb (length (gates_of words)) i ∷ []

-- a run to or from a level
unfoldable pub run_rows : ℕ → List ℕ → ℕ → ℕ → List Row
run_rows n words i s = (circuit_rows n words ++ vector_rows n s) ++ level_rows words i
