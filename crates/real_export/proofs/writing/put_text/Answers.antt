-- `real_export::writing::put_text` meets its contract: the head, the gates and the last line are put one after another. Assumes nothing.
use Rattle.std.proofs.Common.{arith}
use Rattle.text.specs.Texts.{ascii}
use Rattle.real_export.proofs.PartLaws.{head_few}
use Rattle.real_export.proofs.WholeLaws.{gates_few, put_whole}
use Rattle.real_export.proofs.writing.put_text.Goals as goal

pub put_gates-end-requires : goal.put_gates-end-requires
put_gates-end-requires c =
    let circuit = c.args.circuit.now in
    let gates = gates_few circuit.lines circuit.gates.now circuit.sound in
    omega (arith, c.put_head-gates.ensures.told, head_few circuit.lines circuit.sound.lines_fit, gates)

pub put-requires : goal.put-requires
put-requires c =
    let circuit = c.args.circuit.now in
    let gates = gates_few circuit.lines circuit.gates.now circuit.sound in
    omega (arith, c.put_head-gates.ensures.told, c.put_gates-end.ensures.told, head_few circuit.lines circuit.sound.lines_fit, gates)

pub returns : goal.returns
unfolding ascii
returns c =
    let circuit = c.args.circuit.now in
    put_whole circuit.lines circuit.gates.now c.put_head-gates.ensures c.put_gates-end.ensures c.put.ensures
