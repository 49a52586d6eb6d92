-- `report_text::lines::put_end` meets its contract: it puts one text or the other. Assumes nothing.
use Rattle.std.proofs.Common.{sym}
use Rattle.text.proofs.WritingLaws.{fits_as, put_alike}
use Rattle.report_text.proofs.LineLaws.{end_bare, end_ok}
use Rattle.report_text.proofs.lines.put_end.Goals as goal

pub put-requires : goal.put-requires
put-requires c = fits_as (sym (end_ok _ c.if-ok.true)) c.requires

pub put-requires-else-ok : goal.put-requires-else-ok
put-requires-else-ok c = fits_as (sym (end_bare _ c.if-ok.false)) c.requires

pub returns-then-ok : goal.returns-then-ok
returns-then-ok c = put_alike (end_ok _ c.if-ok.true) c.put.ensures

pub returns-else-ok : goal.returns-else-ok
returns-else-ok c = put_alike (end_bare _ c.if-ok.false) c.put-else-ok.ensures
