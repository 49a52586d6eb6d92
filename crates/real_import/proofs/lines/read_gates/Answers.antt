-- `real_import::lines::read_gates` meets its contract: each turn reads one line, and what the lines before add is held. Assumes nothing.
use Rattle.std.proofs.lemmas.Result.{err_from_is_err_and}
use Rattle.real_gates.specs.Names.{names_in}
use Rattle.real_import.proofs.LineLaws.{faulty_on, reads_none, reads_more, reads_faulty, reads_unended, reads_ended}
use Rattle.real_import.proofs.lines.read_gates.Goals as goal

pub loop-here-init : goal.loop-here-init
loop-here-init c = reads_none (names_in c.args.names.now) c.args.text.now c.args.first c.args.own.now

pub returns-in_err-due : goal.returns-in_err-due
returns-in_err-due c =
    let l = c.loop-here in
    faulty_on _ (err_from_is_err_and c.from_residual.result c.from_residual.ensures.1)
    (reads_faulty (names_in c.args.names.now) c.args.text.now c.args.first l.left.now l.line l.due l.own l.invariant _ _ c.in-Some.ensures _
    c.in_err-due.ensures)

pub loop-here-preserved : goal.loop-here-preserved
loop-here-preserved c =
    let l = c.loop-here in
    reads_more (names_in c.args.names.now) c.args.text.now c.args.first l.left.now l.line l.due l.own l.invariant _ _ c.in-Some.ensures _ _
    c.in_ok-due.ensures

pub returns-in-Nothing : goal.returns-in-Nothing
returns-in-Nothing c =
    let l = c.loop-here in
    reads_ended (names_in c.args.names.now) c.args.text.now c.args.first l.left.now l.line l.due l.own l.invariant c.in_default.ensures _ _
    c.in-Nothing.is c.args.names.now.known.counted

pub returns-in-Gate : goal.returns-in-Gate
returns-in-Gate c =
    let l = c.loop-here in
    reads_unended (names_in c.args.names.now) c.args.text.now c.args.first l.left.now l.line l.due l.own l.invariant c.in_default.ensures _ _
    c.in-Gate.is c.in_word.ensures
