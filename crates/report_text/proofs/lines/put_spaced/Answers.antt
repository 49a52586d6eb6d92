-- `report_text::lines::put_spaced` meets its contract: each turn puts one number, and those left make the rest of the text. Assumes nothing.
use Rattle.std.proofs.Common.{refl}
use Rattle.text.proofs.WritingLaws.{fits_first, fits_then, fits_as, left_start, left_next, left_part, left_done}
use Rattle.report_text.proofs.LineLaws.{spaced_left, each_end}
use Rattle.report_text.specs.Lines.{spaced}
use Rattle.report_text.proofs.lines.put_spaced.Goals as goal

pub loop-number-init : goal.loop-number-init
loop-number-init c = left_start refl c.requires

pub put-requires : goal.put-requires
put-requires c = left_part _ (spaced_left _ _ c.loop-number-test.true) c.loop-number.invariant

pub put_decimal-requires : goal.put_decimal-requires
put_decimal-requires c =
    fits_first _ (fits_then (fits_as (spaced_left _ _ c.loop-number-test.true) c.loop-number.invariant.fits) c.put.ensures)

pub loop-number-preserved : goal.loop-number-preserved
loop-number-preserved c =
    left_next refl (left_next (spaced_left _ _ c.loop-number-test.true) c.loop-number.invariant c.put.ensures) c.put_decimal.ensures

pub returns : goal.returns
returns c = left_done (each_end spaced _ _ c.loop-number-test.false) c.loop-number.invariant
