-- What each public call of this crate tells, and what it leaves in the room that it is lent: the set and then the old contents,
-- or all old contents where a rule of its table is broken.
use Rattle.std.specs.Prelude.{ℕ, List, [], ◌∷◌, length}
use Rattle.basics.specs.Lists.{onto}
use Rattle.refusals.specs.Tables.{Told, first_of, after}
use Rattle.refusals.specs.Tables.Told.{answered}
use Rattle.circuit.specs.Gates.{gates_of}
use Rattle.testsets.specs.Rules.{backward_rows, compact_rows}
use Rattle.testsets.specs.Sets.{backward_set, compact_set}

-- `backward_set`
abbrev pub backward_set_tells : ℕ → List ℕ → List ℕ → Told
backward_set_tells n words room = first_of (backward_rows n words (length room)) (answered (length (backward_set n (gates_of words)) ∷ []))

abbrev pub backward_set_leaves : ℕ → List ℕ → List ℕ → List ℕ
backward_set_leaves n words room = after (backward_rows n words (length room)) (onto (backward_set n (gates_of words)) room) room

-- `compact_set`
abbrev pub compact_set_tells : ℕ → List ℕ → List ℕ → Told
compact_set_tells n words room = first_of (compact_rows n words (length room)) (answered (length (compact_set n (gates_of words)) ∷ []))

abbrev pub compact_set_leaves : ℕ → List ℕ → List ℕ → List ℕ
compact_set_leaves n words room = after (compact_rows n words (length room)) (onto (compact_set n (gates_of words)) room) room
