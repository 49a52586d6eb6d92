-- `report_text::lines::put_line` meets its contract: the letter, the numbers and the end are put side by side. Assumes nothing.
use Rattle.std.proofs.Common.{sym}
use Rattle.text.proofs.WritingLaws.{put_then, put_alike, fits_first, fits_then, fits_as}
use Rattle.report_text.proofs.LineLaws.{line-parts}
use Rattle.report_text.proofs.lines.put_line.Goals as goal

pub put-requires : goal.put-requires
put-requires c = fits_first _ (fits_as (line-parts _ _ _) c.requires)

pub put_spaced-requires : goal.put_spaced-requires
put_spaced-requires c = fits_first _ (fits_then (fits_as (line-parts _ _ _) c.requires) c.put.ensures)

pub put_end-requires : goal.put_end-requires
put_end-requires c = fits_then (fits_then (fits_as (line-parts _ _ _) c.requires) c.put.ensures) c.put_spaced.ensures

pub returns : goal.returns
returns c = put_alike (sym (line-parts _ _ _)) (put_then c.put.ensures (put_then c.put_spaced.ensures c.put_end.ensures))
