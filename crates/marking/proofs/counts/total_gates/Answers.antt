-- `marking::counts::total_gates` meets its contract: each turn adds the ones of the gate's lines, which are its faults. Assumes nothing.
use Rattle.std.proofs.Common.{◌≡◌, ◌+◌, ◌≤◌, ap, ◌∙◌, arith}
use Rattle.circuit.specs.Gates.{gates_of}
use Rattle.circuit.specs.Limits.{most_lines}
use Rattle.faults.specs.Kinds.{gate_class_number}
use Rattle.marking.specs.Tallies.{gate_lines}
use Rattle.marking.proofs.TallyLaws.{ones_le, adding_start, adding_more, adding_done, total_gates_sum}
use Rattle.marking.proofs.counts.total_gates.Goals as goal

pub loop-i-init : goal.loop-i-init
loop-i-init c =
    let circuit = c.args.circuit.now in
    adding_start _ _ _ (total_gates_sum circuit.lines (gates_of circuit.gates.now) circuit.sound.lines_fit c.args.class circuit.sound.some_lines)

pub loop-i-preserved : goal.loop-i-preserved
loop-i-preserved c =
    let circuit = c.args.circuit.now in
    let few : c.ones-sum.result ≤ most_lines = rw c.ones-sum.ensures (ones_le _) in
    let number : c.gate_after-gate.result.0 ≡ c.loop-i.i + 1 = omega arith in
    let lines = c.gate_lines.ensures ∙ ap (gate_lines circuit.lines (gates_of circuit.gates.now) (gate_class_number c.args.class)) number in
    adding_more _ _ _ c.loop-i.sum c.loop-i.i c.loop-i.invariant _ (omega arith) (rw lines at c.ones-sum.ensures) (omega arith)

pub returns : goal.returns
returns c = adding_done _ _ _ c.loop-i.sum c.loop-i.i c.loop-i.invariant (omega arith)
