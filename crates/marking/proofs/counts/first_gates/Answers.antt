-- `marking::counts::first_gates` meets its contract: each turn passes a gate at which no mark is lacking,
-- and the lowest line that lacks one is the first fault. Assumes nothing.
use Rattle.std.proofs.Common.{◌≡◌, ◌+◌, ap, sym, ◌∙◌, arith, get_or}
use Rattle.words.specs.Word.{lines_on}
use Rattle.circuit.specs.Gates.{gates_of}
use Rattle.circuit.specs.Limits.{most_lines}
use Rattle.faults.specs.Kinds.{gate_class_number}
use Rattle.marking.specs.Firsts.{first_told}
use Rattle.marking.specs.Tallies.{gate_lines}
use Rattle.marking.proofs.Counting.{passed_all}
use Rattle.marking.proofs.TallyLaws.{gate_place}
use Rattle.marking.proofs.FirstLaws.{gate_left, gates_start, gate_passed, gate-found}
use Rattle.marking.proofs.counts.first_gates.Goals as goal

pub loop-i-init : goal.loop-i-init
loop-i-init c =
    let circuit = c.args.circuit.now in
    gates_start circuit.lines (gates_of circuit.gates.now) c.args.class c.args.marks.now circuit.sound.some_lines

pub returns-then-left-ne0 : goal.returns-then-left-ne0
returns-then-left-ne0 c =
    let circuit = c.args.circuit.now in
    let gs = gates_of circuit.gates.now in
    let class = gate_class_number c.args.class in
    let number : c.gate_after-gate.result.0 ≡ c.loop-i.i + 1 = omega arith in
    let lines = c.gate_lines.ensures ∙ ap (gate_lines circuit.lines gs class) number in
    let lacks = rw lines at c.lacking-left.ensures in
    rw (c.number.ensures, c.told_gate.ensures ∙ number, c.lowest.ensures ∙ ap (λ w. get_or (lines_on most_lines w) 0 0) lacks)
    (sym (ap first_told c.loop-i.invariant
    ∙ gate-found circuit.lines gs class c.args.marks.now c.loop-i.i _ (omega arith) circuit.sound.lines_fit
    (λ z. c.if-left-ne0.true (lacks ∙ z))))

pub loop-i-preserved : goal.loop-i-preserved
loop-i-preserved c =
    let circuit = c.args.circuit.now in
    let gs = gates_of circuit.gates.now in
    let class = gate_class_number c.args.class in
    let number : c.gate_after-gate.result.0 ≡ c.loop-i.i + 1 = omega arith in
    let lines = c.gate_lines.ensures ∙ ap (gate_lines circuit.lines gs class) number in
    let lacks = rw lines at c.lacking-left.ensures in
    c.loop-i.invariant
    ∙ gate_passed circuit.lines gs class c.args.marks.now c.loop-i.i _ (omega arith) (sym lacks ∙ c.if-left-ne0.false)

pub returns : goal.returns
returns c =
    let circuit = c.args.circuit.now in
    let place = gate_place circuit.lines (gates_of circuit.gates.now) (gate_class_number c.args.class) in
    sym (ap first_told (c.loop-i.invariant ∙ passed_all (gate_left c.args.marks.now) place (c.loop-i.i + 1) _ (omega arith)))
