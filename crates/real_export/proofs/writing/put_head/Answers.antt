-- `real_export::writing::put_head` meets its contract: its parts are put one after another. Assumes nothing.
use Rattle.std.proofs.Common.{◌<◌, ap, ◌∙◌, arith}
use Rattle.words.proofs.Masks.{all_ones-lt}
use Rattle.text.specs.Texts.{ascii}
use Rattle.circuit.specs.Limits.{most_lines}
use Rattle.real_export.specs.Parts.{names_on}
use Rattle.real_export.proofs.PutLaws.{put_as, digits_few}
use Rattle.real_export.proofs.PartLaws.{names_wide, names_few, put_head}
use Rattle.real_export.proofs.writing.put_head.Goals as goal

pub put_number-variables-requires : goal.put_number-variables-requires
put_number-variables-requires c =
    let below : c.args.lines < 100 = omega (arith, c.requires) in
    (below, omega (arith, c.put-number.ensures.told, digits_few c.args.lines below))

pub put-names-requires : goal.put-names-requires
put-names-requires c =
    omega (arith, c.put-number.ensures.told, c.put_number-variables.ensures.told, digits_few c.args.lines (omega (arith, c.requires)))

pub put_names-begin-requires : goal.put_names-begin-requires
put_names-begin-requires c =
    let digits = digits_few c.args.lines (omega (arith, c.requires)) in
    let names = names_few most_lines c.all_ones.result (omega arith) in
    omega (arith, c.put-number.ensures.told, c.put_number-variables.ensures.told, c.put-names.ensures.told, digits, names)

pub put-requires : goal.put-requires
put-requires c =
    let digits = digits_few c.args.lines (omega (arith, c.requires)) in
    let names = names_few most_lines c.all_ones.result (omega arith) in
    let number = c.put-number.ensures.told in
    omega (arith, number, c.put_number-variables.ensures.told, c.put-names.ensures.told, c.put_names-begin.ensures.told, digits, names)

pub returns : goal.returns
unfolding ascii
returns c =
    put_head c.args.lines c.put-number.ensures c.put_number-variables.ensures c.put-names.ensures
    (put_as c.put_names-begin.ensures (ap (names_on most_lines) c.all_ones.ensures ∙ names_wide c.args.lines _ c.requires (all_ones-lt c.args.lines)))
    c.put.ensures
