-- `testsets::left::Left::score` meets its contract: each turn adds what the vector catches at one level and goes one level up, and the last level
-- comes after the loop. Assumes nothing.
use Rattle.std.proofs.Common.{◌≡◌, ◌+◌, ◌*◌, ◌≤◌}
use Rattle.circuit.specs.Checked.{gates_in}
use Rattle.circuit.specs.Limits.{most_lines}
use Rattle.circuit.specs.Runs.{forward}
use Rattle.testsets.specs.FaultsLeft.{faults_left}
use Rattle.testsets.specs.Sets.{score}
use Rattle.testsets.proofs.LeftLaws.{caught_from}
use Rattle.testsets.proofs.left.Left.score.Given as goal

abbrev pub invariant-loop-i : goal.invariant-loop-i
invariant-loop-i l =
    (l.state ≡ forward (gates_in l.self.circuit) l.i l.vector) × (l.sum ≤ most_lines * l.i)
    × (score (gates_in l.self.circuit) (faults_left l.self) l.vector
    ≡ l.sum + caught_from l.self.circuit.lines (gates_in l.self.circuit) l.self.at_0 l.self.at_1 l.vector l.i)
