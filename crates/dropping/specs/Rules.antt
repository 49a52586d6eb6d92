-- The rules of dropping: of the circuit, the vector, and every record of the list.
use Rattle.std.specs.Prelude.{ℕ, Bool, false, not, List, [], ◌∷◌, ◌++◌, eqb}
use Rattle.refusals.specs.Tables.{Row}
use Rattle.refusals.specs.Tables.Row.{refuse◌at◌when◌}
use Rattle.refusals.specs.Places.{first_bad, in_word}
use Rattle.circuit.specs.Gates.{gates_of}
use Rattle.circuit.specs.Rules.{circuit_rows, vector_rows}
use Rattle.circuit.specs.declared.Gate.{Gate}
use Rattle.faults.specs.Rules.{is_fault}
use Rattle.faults.specs.Records.{first_bad_record}
use Rattle.faults.specs.declared.Fault.{Fault}

-- a record that is no fault of the circuit; a blank one is none
unfoldable pub bad_record : ℕ → List Gate → Fault → Bool
bad_record n gs f = not (is_fault n gs f)

-- rule 9 of a list whose first bad record has this place, 0 for none
unfoldable pub record_rows : ℕ → List Row
record_rows bad = refuse 9 at in_word bad when not (eqb bad 0) ∷ []

-- a plain list, in which numbers left over are one more bad record
unfoldable pub drop_rows : ℕ → List ℕ → ℕ → List ℕ → List Row
drop_rows n words x list = (circuit_rows n words ++ vector_rows n x) ++ record_rows (first_bad_record (bad_record n (gates_of words)) list)

-- a slice of records
unfoldable pub drop_records_rows : ℕ → List ℕ → ℕ → List Fault → List Row
drop_records_rows n words x fs = (circuit_rows n words ++ vector_rows n x) ++ record_rows (first_bad (bad_record n (gates_of words)) false fs)
