-- The rules of making a set in a room of so many words.
use Rattle.std.specs.Prelude.{ℕ, ◌+◌, List, [], ◌∷◌, ◌++◌, length, ltb}
use Rattle.refusals.specs.Tables.{Row}
use Rattle.refusals.specs.Tables.Row.{refuse◌at◌when◌}
use Rattle.circuit.specs.Gates.{gates_of}
use Rattle.circuit.specs.Rules.{circuit_rows}
use Rattle.testsets.specs.Limits.{most_tried_lines}
use Rattle.testsets.specs.Sets.{bound}

-- two vectors, and one for each gate
unfoldable pub backward_rows : ℕ → List ℕ → ℕ → List Row
backward_rows n words room = circuit_rows n words ++ (refuse 10 at 0 when ltb room (length (gates_of words) + 2) ∷ [])

-- no more lines than can be tried, and room for as many vectors as a compact set can have
unfoldable pub compact_rows : ℕ → List ℕ → ℕ → List Row
compact_rows n words room = circuit_rows n words ++ (
    refuse 11 at 0 when ltb most_tried_lines n ∷
    refuse 10 at 0 when ltb room (bound n (gates_of words)) ∷ [])
