-- The rules of a multiple fault.
use Rattle.std.specs.Prelude.{ℕ, not, ◌||◌, List, [], ◌∷◌, ◌++◌, length, eqb, ltb}
use Rattle.refusals.specs.Tables.{Row}
use Rattle.refusals.specs.Tables.Row.{refuse◌at◌when◌}
use Rattle.refusals.specs.Places.{in_word}
use Rattle.circuit.specs.Gates.{gates_of}
use Rattle.circuit.specs.Rules.{circuit_rows, vector_rows}
use Rattle.faults.specs.Records.{faults_of, first_bad_record}
use Rattle.multiple_faults.specs.Limits.{most_entries}
use Rattle.multiple_faults.specs.Multiple.{bad_entry, site_twice}

-- the place of the first record that is no entry; words left over are one more
abbrev pub first_bad_entry : ℕ → List ℕ → List ℕ → ℕ
first_bad_entry n words list = first_bad_record (bad_entry n (gates_of words)) list

-- its entries
unfoldable pub entries_rows : ℕ → List ℕ → List ℕ → List Row
entries_rows n words list =
    refuse 9 at in_word (first_bad_entry n words list) when not (eqb (first_bad_entry n words list) 0) ∷
    refuse 13 at 0 when (eqb (length (faults_of list)) 0 || (ltb most_entries (length (faults_of list)) || site_twice (faults_of list))) ∷ []

-- a vector and a multiple fault
unfoldable pub multiple_rows : ℕ → List ℕ → ℕ → List ℕ → List Row
multiple_rows n words x list = (circuit_rows n words ++ vector_rows n x) ++ entries_rows n words list
