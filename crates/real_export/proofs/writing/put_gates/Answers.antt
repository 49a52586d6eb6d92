-- `real_export::writing::put_gates` meets its contract: each turn puts the line of one gate. Assumes nothing.
use Rattle.std.proofs.Common.{ap, arith, take_all}
use Rattle.basics.specs.Lists.{each}
use Rattle.circuit.specs.Checked.{gates_in}
use Rattle.real_export.specs.Parts.{gate_text}
use Rattle.real_export.proofs.PutLaws.{put_as}
use Rattle.real_export.proofs.PartLaws.{put_no_gates, gate_room, put_gates_next}
use Rattle.real_export.proofs.writing.put_gates.Goals as goal

pub loop-i-init : goal.loop-i-init
loop-i-init c = put_no_gates c.args.circuit.now.lines c.args.out.now c.args.at

pub put_gate-end-requires : goal.put_gate-end-requires
put_gate-end-requires c =
    let circuit = c.args.circuit.now in
    let l = c.loop-i in
    let own = c.own_gate.ensures in
    rw own.0 (gate_room circuit.lines (gates_in circuit) l.i c.gate.result.0 c.own_gate.result.gate (omega arith) c.gate.ensures own.1
    _ c.args.at l.end l.invariant.told c.requires)

pub loop-i-preserved : goal.loop-i-preserved
loop-i-preserved c =
    let circuit = c.args.circuit.now in
    let l = c.loop-i in
    let own = c.own_gate.ensures in
    let put = c.put_gate-end.ensures in
    put_gates_next circuit.lines (gates_in circuit) l.i c.gate.result.0 c.own_gate.result.gate (omega arith) c.gate.ensures own.1
    l.invariant (rw own.0 at put)

pub returns : goal.returns
returns c =
    let circuit = c.args.circuit.now in
    put_as c.loop-i.invariant (ap (each (gate_text circuit.lines)) (take_all c.loop-i.i (gates_in circuit) (omega arith)))
