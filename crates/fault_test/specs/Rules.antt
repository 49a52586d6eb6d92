-- The rules of the test for one fault.
use Rattle.std.specs.Prelude.{ℕ, List, ◌++◌}
use Rattle.refusals.specs.Tables.{Row}
use Rattle.circuit.specs.Rules.{circuit_rows}
use Rattle.faults.specs.Rules.{fault_rows}
use Rattle.faults.specs.declared.Fault.{Fault}

-- a fault whose test is wanted
unfoldable pub test_rows : ℕ → List ℕ → Fault → List Row
test_rows n words f = circuit_rows n words ++ fault_rows n words f
