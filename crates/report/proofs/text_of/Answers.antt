-- `report::text_of` meets its contract: no report is longer than its room, so that the library tells the whole text, at the front. Assumes nothing.
use Rattle.std.proofs.Common.{◌≡◌, length, take, Ok, sym, ◌∙◌, arith}
use Rattle.report_text.specs.Report.{report_text}
use Rattle.report.proofs.TextLaws.{told_whole, left_whole}
use Rattle.report.proofs.text_of.Goals as goal

pub returns-in-Ok : goal.returns-in-Ok
returns-in-Ok c =
    let bytes = take c.args.length c.args.job.now in
    let whole = told_whole c.report.result bytes c.args.text.now (omega arith) c.report.ensures.0 in
    let same : Ok c.in-Ok.count ≡ Ok (length (report_text bytes)) = sym c.in-Ok.is ∙ whole in
    let number : c.in-Ok.count ≡ length (report_text bytes) = cc in
    let front = left_whole bytes c.args.text.now _ (omega arith) c.report.ensures.1 in
    record { prefix_len = rw number front.0; text_after = rw number front.1 }

pub returns-in-Err : goal.returns-in-Err
returns-in-Err c =
    let whole = told_whole c.report.result (take c.args.length c.args.job.now) c.args.text.now (omega arith) c.report.ensures.0 in
    cc
