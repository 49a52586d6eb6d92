-- `circuit::checked::Circuit::run_onward` meets its contract: each turn takes the state one level up, by the gate that reads the level reached.
-- Assumes nothing.
use Rattle.std.proofs.Common.{◌≡◌}
use Rattle.circuit.specs.Gates.{gates_of}
use Rattle.circuit.specs.Runs.{onward}
use Rattle.circuit.proofs.checked.Circuit.run_onward.Given as goal

abbrev pub invariant-loop-i : goal.invariant-loop-i
invariant-loop-i l = l.now ≡ onward (gates_of l.self.gates.now) l.fn.from.0 l.i l.state
