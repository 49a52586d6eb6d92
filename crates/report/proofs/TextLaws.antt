-- What the library's answer says of a report whose room holds the longest: its number of bytes, and that its text stands at the front.
use Rattle.std.proofs.Common.{◌≡◌, ℕ, ◌≤◌, List, ◌++◌, length, take, Result, Ok, sym, ap, arith}
use Rattle.std.proofs.lemmas.Bool.{le-ltb}
use Rattle.std.proofs.lemmas.List.{length-append}
use Rattle.std.proofs.Math.Seq.{take-append_seam}
use Rattle.std.specs.Counts.{IsPrefixLen}
use Rattle.refusals.specs.Answers.{told_word}
use Rattle.refusals.specs.declared.Refusal.{Refusal}
use Rattle.refusals.proofs.OneAnswer.{told_word-one}
use Rattle.report_text.specs.Report.{report_text, longest_report}
use Rattle.report_text.specs.Promises.{report_tells, report_leaves}
use Rattle.report_text.specs.Rules.{report_rows}
use Rattle.report_text.proofs.ReportLaws.{report_fits}

-- the room is not too small
pub told_whole : (r : Result ℕ Refusal) (bytes room : List ℕ) → longest_report ≤ length room → told_word r ≡ report_tells bytes room
    → r ≡ Ok (length (report_text bytes))
unfolding report_rows
told_whole r bytes room wide told =
    let fits = le-ltb (length room) (length (report_text bytes)) (omega (arith, wide, report_fits bytes)) in
    told_word-one r (Ok (length (report_text bytes))) (rw fits at told)

front_of : (text rest bytes : List ℕ) → bytes ≡ text ++ rest → IsPrefixLen (length text) bytes × (take (length text) bytes ≡ text)
front_of text rest bytes e =
    let front : take (length text) bytes ≡ text = rw e (take-append_seam text rest) in
    ((rw e (omega (arith, length-append text rest)), ap length (sym front)), front)

pub left_whole : (bytes room new : List ℕ) → longest_report ≤ length room → new ≡ report_leaves bytes room
    → IsPrefixLen (length (report_text bytes)) new × (take (length (report_text bytes)) new ≡ report_text bytes)
unfolding report_rows
left_whole bytes room new wide left =
    let fits = le-ltb (length room) (length (report_text bytes)) (omega (arith, wide, report_fits bytes)) in
    front_of (report_text bytes) _ new (rw fits at left)
