-- `faults::sites::site_count` meets its contract: each turn adds the sites of one level. Assumes nothing.
use Rattle.std.proofs.Common.{ap, ◌∙◌, arith}
use Rattle.circuit.specs.Gates.{gates_of}
use Rattle.words.proofs.AndLaws.{length_lines_le}
use Rattle.faults.specs.Sites.{sites}
use Rattle.faults.proofs.SiteCount.{sites-all, sites-more, sites_none}
use Rattle.faults.proofs.sites.site_count.Goals as goal

pub loop-i-init : goal.loop-i-init
loop-i-init c =
    let circuit = c.args.circuit.now in
    (omega (arith, sites-all circuit.lines (gates_of circuit.gates.now)), omega arith)

pub overflow_add-sum : goal.overflow_add-sum
overflow_add-sum c = omega (arith, c.ones-sum.ensures, length_lines_le 32 c.sites_at.result)

pub loop-i-preserved : goal.loop-i-preserved
loop-i-preserved c =
    let circuit = c.args.circuit.now in
    let gs = gates_of circuit.gates.now in
    let fit = length_lines_le 32 c.sites_at.result in
    let more = sites-more circuit.lines gs c.loop-i.i _ circuit.sound.lines_fit (omega arith)
    (c.sites_at.ensures ∙ ap (sites circuit.lines gs) c.level.ensures) in
    (omega (arith, c.ones-sum.ensures), omega (arith, c.ones-sum.ensures))

pub returns : goal.returns
returns c =
    let circuit = c.args.circuit.now in
    omega (arith, sites_none circuit.lines (gates_of circuit.gates.now) c.loop-i.i (omega arith))
