-- `testsets::compact::best` meets its contract: each turn asks one input more, and takes it only where it catches more than the best before.
-- Assumes nothing.
use Rattle.std.proofs.Common.{◌≡◌, ◌-◌, ◌^◌}
use Rattle.basics.specs.Lists.{up_from}
use Rattle.circuit.specs.Checked.{gates_in}
use Rattle.testsets.specs.FaultsLeft.{faults_left}
use Rattle.testsets.specs.Sets.{score, best_of, best}
use Rattle.testsets.proofs.compact.best.Given as goal

abbrev pub invariant-loop-vector : goal.invariant-loop-vector
invariant-loop-vector l =
    (l.pick.caught ≡ score (gates_in l.left.circuit) (faults_left l.left) l.pick.vector)
    × (best l.left.circuit.lines (gates_in l.left.circuit) (faults_left l.left)
    ≡ best_of (gates_in l.left.circuit) (faults_left l.left) l.pick.vector (up_from l.vector (2 ^ l.left.circuit.lines - l.vector)))
