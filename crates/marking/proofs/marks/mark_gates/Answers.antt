-- `marking::marks::mark_gates` meets its contract: each turn marks the word of one gate and goes on to the level that the gate makes.
-- Assumes nothing.
use Rattle.std.proofs.Common.{arith, ap, ◌∙◌}
use Rattle.circuit.proofs.RuleLaws.{target_fits}
use Rattle.faults.specs.Kinds.{gate_class_number}
use Rattle.marking.specs.Marks.{caught_at_gate}
use Rattle.marking.proofs.TurnLaws.{gates_start, gates-turn, gates_done}
use Rattle.marking.proofs.marks.mark_gates.Goals as goal

pub loop-i-init : goal.loop-i-init
loop-i-init c =
    let circuit = c.args.circuit.now in
    gates_start circuit.lines circuit.gates.now (gate_class_number c.args.class) c.args.vector c.args.marks.now

pub step-after-requires : goal.step-after-requires
step-after-requires c =
    let circuit = c.args.circuit.now in
    rw c.own_gate-own.ensures.1 (target_fits circuit.lines circuit.gates.now _ circuit.sound (omega arith) (omega arith))

pub loop-i-preserved : goal.loop-i-preserved
loop-i-preserved c =
    let circuit = c.args.circuit.now in
    let own = c.own_gate-own.result in
    let caught = c.caught_at_gate.ensures
    ∙ ap (λ n. caught_at_gate (gate_class_number c.args.class) n own.gate c.loop-i.state) c.own_gate-own.ensures.0 in
    gates-turn circuit.lines circuit.gates.now circuit.sound c.args.vector c.args.marks.now c.loop-i.marks c.loop-i.state c.loop-i.i
    c.args.class c.loop-i.invariant (omega arith) _ _ _ _ c.step-after.ensures c.own_gate-own.ensures.1 (omega arith) caught

pub returns : goal.returns
returns c =
    let circuit = c.args.circuit.now in
    gates_done circuit.lines circuit.gates.now circuit.sound c.args.vector c.args.marks.now c.loop-i.marks c.loop-i.state c.loop-i.i
    (gate_class_number c.args.class) c.loop-i.invariant (omega arith)
