-- `testsets::left::Left::fill` meets its contract: each turn stores the sites of one level, all of which are left. Assumes nothing.
use Rattle.std.proofs.Common.{◌≡◌}
use Rattle.circuit.specs.Checked.{gates_in}
use Rattle.faults.specs.Sites.{sites}
use Rattle.testsets.proofs.Changes.{Changed}
use Rattle.testsets.proofs.left.Left.fill.Given as goal

abbrev pub invariant-loop-i : goal.invariant-loop-i
invariant-loop-i l =
    (l.self.circuit ≡ l.circuit)
    × Changed (λ k w. sites l.circuit.lines (gates_in l.circuit) k) l.i l.initial.self.at_0 l.self.at_0
    × Changed (λ k w. sites l.circuit.lines (gates_in l.circuit) k) l.i l.initial.self.at_1 l.self.at_1
