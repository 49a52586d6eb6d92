-- `simulator::checked::catches_changed` meets its contract: the gate and the other are tried on the state that the gate reads. Assumes nothing.
use Rattle.std.proofs.Common.{arith}
use Rattle.circuit.proofs.RuleLaws.{target_fits}
use Rattle.simulator.proofs.checked.catches_changed.Goals as goal

pub step-made-requires : goal.step-made-requires
step-made-requires c =
    let circuit = c.args.known.now.circuit in
    rw c.gate.ensures (target_fits circuit.lines circuit.gates.now _ circuit.sound (omega arith) (omega arith))
