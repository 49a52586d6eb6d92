-- `faults::rules::controls` meets its contract: a gate of the circuit has no control past its lines. Assumes nothing.
use Rattle.std.proofs.Common.{sym, ◌∙◌, arith}
use borrow.Author.Tests.{le-ltb}
use Rattle.faults.proofs.RuleLaws.{control_beyond}
use Rattle.faults.proofs.rules.controls.Goals as goal

pub returns-else-line-circuit : goal.returns-else-line-circuit
returns-else-line-circuit c =
    let circuit = c.args.circuit.now in
    le-ltb c.args.line circuit.lines (omega arith)
    ∙ sym (control_beyond circuit.lines circuit.gates.now c.args.gate.0 c.args.line circuit.sound c.requires (omega arith))
