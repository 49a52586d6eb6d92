-- `report_text::report` meets its contract: the text is made aside, and stored where there is room for it. Assumes nothing.
use Rattle.std.proofs.Common.{◌≤◌, [], ◌∷◌, sym, ◌∙◌, length, length-take-le}
use Rattle.std.proofs.lemmas.Result.{err_from_is_err_and}
use borrow.Author.Tests.{ltb-false}
use Rattle.refusals.proofs.Tables.{fine_row}
use Rattle.refusals.proofs.OneAnswer.{handed_on}
use Rattle.report_text.proofs.ReportLaws.{text_end, report_short, report_put}
use Rattle.report_text.proofs.report.Goals as goal

pub returns-in_err-refuse_when : goal.returns-in_err-refuse_when
returns-in_err-refuse_when c =
    let told = handed_on (λ word. word ∷ []) (err_from_is_err_and c.from_residual.result c.from_residual.ensures.1) in
    let short = report_short c.args.bytes.now c.args.out.now _ c.text_of-end.ensures.0 _ _ c.in_err-refuse_when.ensures in
    (told ∙ short.0, short.1)

pub slice_bounds-text-end : goal.slice_bounds-text-end
slice_bounds-text-end c = let put = c.text_of-end in (text_end _ _ _ put.ensures.0 put.ensures.1).0

pub slice_bounds-copy_from_slice-end-3 : goal.slice_bounds-copy_from_slice-end-3
slice_bounds-copy_from_slice-end-3 c =
    let put = c.text_of-end in
    sym (length-take-le _ _ (text_end _ _ _ put.ensures.0 put.ensures.1).0)

pub copy_from_slice-requires : goal.copy_from_slice-requires
copy_from_slice-requires c =
    let put = c.text_of-end in
    let room : put.result ≤ length c.args.out.now = ltb-false _ _ (fine_row _ _ _ _ c.in_ok-refuse_when.ensures).0 in
    length-take-le _ _ room ∙ sym (length-take-le _ _ (text_end _ _ _ put.ensures.0 put.ensures.1).0)

pub returns : goal.returns
returns c =
    let put = c.text_of-end in
    let room : put.result ≤ length c.args.out.now = ltb-false _ _ (fine_row _ _ _ _ c.in_ok-refuse_when.ensures).0 in
    report_put c.args.bytes.now c.args.out.now put.result put.ensures.0 room _
    (c.copy_from_slice.ensures.after ∙ (text_end c.args.bytes.now _ _ put.ensures.0 put.ensures.1).1)
