-- `marking::counts::first_levels` meets its contract: each turn passes a level at which no mark is lacking,
-- and the lowest line that lacks one is the first fault. Assumes nothing.
use Rattle.std.proofs.Common.{ap, ap₂, sym, ◌∙◌, arith, bit_or}
use Rattle.circuit.specs.Gates.{gates_of}
use Rattle.faults.specs.Sites.{sites}
use Rattle.marking.specs.Firsts.{first_told}
use Rattle.marking.proofs.Counting.{passed_all}
use Rattle.marking.proofs.FirstLaws.{level_left, level_place, levels-start, level_passed, level_found}
use Rattle.marking.proofs.counts.first_levels.Goals as goal

pub loop-i-init : goal.loop-i-init
loop-i-init c =
    let circuit = c.args.circuit.now in
    levels-start circuit.lines (gates_of circuit.gates.now) c.args.marks.now.at_0 c.args.marks.now.at_1

pub returns-then-left_0-left_1-ne0 : goal.returns-then-left_0-left_1-ne0
returns-then-left_0-left_1-ne0 c =
    let circuit = c.args.circuit.now in
    let gs = gates_of circuit.gates.now in
    let here = c.sites_at-here.ensures ∙ ap (sites circuit.lines gs) c.level-level.ensures in
    let left-0 = rw here at c.lacking-left_0.ensures in
    let left-1 = rw here at c.lacking-left_1.ensures in
    sym (ap first_told c.loop-i.invariant
    ∙ level_found circuit.lines gs c.args.marks.now.at_0 c.args.marks.now.at_1 c.loop-i.i _ (omega arith) circuit.sound.lines_fit
    (λ z. c.if-left_0-left_1-ne0.true (ap₂ bit_or left-0 left-1 ∙ z)) c.first_at_level.result
    (rw (c.level-level.ensures, left-0, left-1) at c.first_at_level.ensures))

pub loop-i-preserved : goal.loop-i-preserved
loop-i-preserved c =
    let circuit = c.args.circuit.now in
    let gs = gates_of circuit.gates.now in
    let here = c.sites_at-here.ensures ∙ ap (sites circuit.lines gs) c.level-level.ensures in
    let left-0 = rw here at c.lacking-left_0.ensures in
    let left-1 = rw here at c.lacking-left_1.ensures in
    c.loop-i.invariant
    ∙ level_passed circuit.lines gs c.args.marks.now.at_0 c.args.marks.now.at_1 c.loop-i.i _ (omega arith)
    (sym (ap₂ bit_or left-0 left-1) ∙ c.if-left_0-left_1-ne0.false)

pub returns : goal.returns
returns c =
    let circuit = c.args.circuit.now in
    sym (ap first_told (c.loop-i.invariant
    ∙ passed_all (level_left c.args.marks.now.at_0 c.args.marks.now.at_1) (level_place circuit.lines (gates_of circuit.gates.now)) c.loop-i.i _
    (omega arith)))
