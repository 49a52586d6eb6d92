-- What the call tells: the first rule of its table that is broken, or else the answer.
use Rattle.std.specs.Prelude.{ℕ, List, [], ◌∷◌}
use Rattle.refusals.specs.Tables.{Told, first_of}
use Rattle.refusals.specs.Tables.Told.{answered}
use Rattle.circuit.specs.Gates.{gates_of}
use Rattle.faults.specs.declared.Fault.{Fault}
use Rattle.fault_test.specs.Rules.{test_rows}
use Rattle.fault_test.specs.Tests.{test_for}

-- `test_for`: a vector that catches the fault
abbrev pub test_for_tells : ℕ → List ℕ → Fault → Told
test_for_tells n words f = first_of (test_rows n words f) (answered (test_for n (gates_of words) f ∷ []))
