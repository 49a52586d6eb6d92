-- `circuit::checked::Circuit::run_backward` meets its contract: each turn undoes the last gate of what is left, so the run back is the same from
-- there. Assumes nothing.
use Rattle.std.proofs.Common.{◌≡◌, ◌-◌}
use Rattle.circuit.specs.Gates.{gates_of}
use Rattle.circuit.specs.Runs.{backward}
use Rattle.circuit.proofs.checked.Circuit.run_backward.Given as goal

abbrev pub invariant-loop-taken : goal.invariant-loop-taken
invariant-loop-taken l = backward (gates_of l.self.gates.now) l.level.0 l.state ≡ backward (gates_of l.self.gates.now) (l.level.0 - l.taken) l.now
