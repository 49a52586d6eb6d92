-- `testsets::backward::make` meets its contract: after i turns the room begins with the first i + 2 vectors of the set, and the state is that of
-- all zeros at level i. Assumes nothing.
use Rattle.std.proofs.Common.{◌≡◌, ◌+◌, ◌++◌, take, drop}
use Rattle.circuit.specs.Checked.{gates_in}
use Rattle.circuit.specs.Runs.{forward}
use Rattle.testsets.specs.Sets.{backward_set}
use Rattle.testsets.proofs.backward.make.Given as goal

abbrev pub invariant-loop-i : goal.invariant-loop-i
invariant-loop-i l =
    (l.state ≡ forward (gates_in l.circuit) l.i 0)
    × (l.room ≡ take (l.i + 2) (backward_set l.circuit.lines (gates_in l.circuit)) ++ drop (l.i + 2) l.initial.room)
