-- `marking::counts::count_levels` meets its contract: each turn adds the ones of the sites that are marked, of each value. Assumes nothing.
use Rattle.std.proofs.Common.{◌+◌, ◌≤◌, ap, ap₂, ◌∙◌, arith}
use Rattle.circuit.specs.Gates.{gates_of}
use Rattle.circuit.specs.Limits.{most_lines}
use Rattle.faults.specs.Sites.{sites}
use Rattle.marking.proofs.TallyLaws.{ones_le, adding_start, adding_more, adding_done, count-levels-sum}
use Rattle.marking.proofs.counts.count_levels.Goals as goal

pub loop-i-init : goal.loop-i-init
loop-i-init c =
    let circuit = c.args.circuit.now in
    let marks = c.args.marks.now in
    adding_start _ _ _ (count-levels-sum circuit.lines (gates_of circuit.gates.now) circuit.sound.lines_fit marks.at_0 marks.at_1)

pub loop-i-preserved : goal.loop-i-preserved
loop-i-preserved c =
    let circuit = c.args.circuit.now in
    let few : c.ones.result ≤ most_lines = rw c.ones.ensures (ones_le _) in
    let few2 : c.ones-in-loop-i.result ≤ most_lines = rw c.ones-in-loop-i.ensures (ones_le _) in
    let here = c.sites_at-here.ensures ∙ ap (sites circuit.lines (gates_of circuit.gates.now)) c.level.ensures in
    adding_more _ _ _ c.loop-i.sum c.loop-i.i c.loop-i.invariant _ (omega arith)
    (ap₂ ◌+◌ (rw here at c.ones.ensures) (rw here at c.ones-in-loop-i.ensures)) (omega arith)

pub returns : goal.returns
returns c = adding_done _ _ _ c.loop-i.sum c.loop-i.i c.loop-i.invariant (omega arith)
