-- `testsets::compact::make` meets its contract: each turn stores the next vector of the set and drops what it catches, at least half of what is left.
-- Assumes nothing.
use Rattle.std.proofs.Common.{◌≡◌}
use Rattle.circuit.specs.Checked.{gates_in}
use Rattle.testsets.specs.FaultsLeft.{faults_left}
use Rattle.testsets.proofs.PickTurns.{Picking}
use Rattle.testsets.proofs.compact.make.Given as goal

abbrev pub invariant-loop-remain : goal.invariant-loop-remain
invariant-loop-remain l =
    (l.left.circuit ≡ l.circuit) × Picking l.left.circuit.lines (gates_in l.left.circuit) l.initial.room l.room (faults_left l.left) l.remain l.count

abbrev pub decreases-loop-remain : goal.decreases-loop-remain
decreases-loop-remain l = l.remain
