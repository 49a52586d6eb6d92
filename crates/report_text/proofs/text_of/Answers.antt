-- `report_text::text_of` meets its contract: no report is longer than the array. Assumes nothing.
use Rattle.std.proofs.Common.{arith}
use Rattle.report_text.proofs.ReportLaws.{report_fits}
use Rattle.report_text.proofs.text_of.Goals as goal

pub put_report-requires : goal.put_report-requires
put_report-requires c =
    let new = c.new-text.ensures in
    record { within = rw (new.front, new.holds, c.told-room) (omega (arith, report_fits c.args.bytes.now)) }
