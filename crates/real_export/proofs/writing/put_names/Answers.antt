-- `real_export::writing::put_names` meets its contract: each turn puts the name of the lowest line that is left. Assumes nothing.
use Rattle.std.proofs.Common.{◌<◌, arith, length}
use Rattle.words.specs.Word.{lines_on}
use Rattle.circuit.specs.Limits.{most_lines}
use Rattle.real_export.proofs.PartLaws.{naming_none, naming_all, naming_some, naming_line, naming_room, naming_more}
use Rattle.real_export.proofs.writing.put_names.Goals as goal

pub loop-init : goal.loop-init
loop-init c = naming_none c.args.out.now c.args.at c.args.word (omega arith)

pub lowest-line-requires : goal.lowest-line-requires
lowest-line-requires c = naming_some c.loop.invariant (omega (arith, c.ones-end.ensures, c.loop-test.true))

pub put_name-end-requires : goal.put_name-end-requires
put_name-end-requires c =
    let l = c.loop in
    let more : l.counter < length (lines_on most_lines c.args.word) = omega (arith, c.ones-end.ensures, c.loop-test.true) in
    let line = c.lowest-line in (
      naming_line l.invariant more line.result line.ensures,
      naming_room l.invariant more line.result line.ensures _ c.requires,
    )

pub flip-left-requires : goal.flip-left-requires
flip-left-requires c =
    let more : c.loop.counter < length (lines_on most_lines c.args.word) = omega (arith, c.ones-end.ensures, c.loop-test.true) in
    naming_line c.loop.invariant more c.lowest-line.result c.lowest-line.ensures

pub loop-preserved : goal.loop-preserved
loop-preserved c =
    let more : c.loop.counter < length (lines_on most_lines c.args.word) = omega (arith, c.ones-end.ensures, c.loop-test.true) in
    rw c.flip-left.ensures
    (naming_more c.loop.invariant more c.lowest-line.result c.lowest-line.ensures c.put_name-end.ensures)

pub returns : goal.returns
returns c = naming_all c.loop.invariant (omega (arith, c.ones-end.ensures))
