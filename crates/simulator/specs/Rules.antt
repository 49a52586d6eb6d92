-- The rules of the simulator's calls.
use Rattle.std.specs.Prelude.{ℕ, List, ◌++◌}
use Rattle.refusals.specs.Tables.{Row}
use Rattle.circuit.specs.Rules.{circuit_rows, vector_rows}
use Rattle.faults.specs.Rules.{fault_rows}
use Rattle.faults.specs.declared.Fault.{Fault}

-- a vector and a fault
unfoldable pub catch_rows : ℕ → List ℕ → ℕ → Fault → List Row
catch_rows n words x f = (circuit_rows n words ++ vector_rows n x) ++ fault_rows n words f
