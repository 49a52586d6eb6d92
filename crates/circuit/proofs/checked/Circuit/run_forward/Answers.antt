-- `circuit::checked::Circuit::run_forward` meets its contract: the input is level 0. Assumes nothing.
use Rattle.std.proofs.Common.{◌∙◌}
use Rattle.circuit.specs.Gates.{gates_of}
use Rattle.circuit.proofs.RunLaws.{onward-forward}
use Rattle.circuit.proofs.checked.Circuit.run_forward.Goals as goal

pub returns : goal.returns
returns c =
    let a = c.args in
    c.run_onward.ensures ∙ rw c.level.ensures (onward-forward (gates_of a.self.now.gates.now) a.level.0 a.vector)
