-- `circuit::checked::Circuit::own_gate` meets its contract: each gate of a sound circuit stands on its lines. Assumes nothing.
use Rattle.circuit.proofs.RuleLaws.{gate_ok}
use Rattle.circuit.proofs.checked.Circuit.own_gate.Goals as goal

pub invariant_of-result : goal.invariant_of-result
invariant_of-result c =
    let circuit = c.args.self.now in record {
      fits = (circuit.sound.some_lines, circuit.sound.lines_fit);
      ok = rw c.gate.ensures (gate_ok circuit.lines circuit.gates.now c.args.number.0 circuit.sound c.requires.0 c.requires.1);
    }
