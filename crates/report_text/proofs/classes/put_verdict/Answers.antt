-- `report_text::classes::put_verdict` meets its contract: a complete class has two numbers and ok, and any other the numbers that it shows of a fault.
-- Assumes nothing.
use Rattle.std.proofs.Common.{◌≤◌, [], ◌∷◌, ap, sym, ◌∙◌, length-take-le}
use Rattle.faults.specs.Kinds.{class_number}
use Rattle.text.proofs.WritingLaws.{fits_as, put_alike}
use Rattle.report_text.specs.Parts.{counts_text}
use Rattle.report_text.proofs.ClassLaws.{numbers_most, left-line}
use Rattle.report_text.proofs.classes.put_verdict.Goals as goal

pub slice_bounds-numbers-end : goal.slice_bounds-numbers-end
slice_bounds-numbers-end c = rw c.numbers_shown.ensures (numbers_most _)

pub slice_bounds-put_line-end-in-Some : goal.slice_bounds-put_line-end-in-Some
slice_bounds-put_line-end-in-Some c =
    let v = c.args.verdict in
    let f = c.in-Some.fault in
    let most : c.numbers_shown.result ≤ 5 = rw c.numbers_shown.ensures (numbers_most (class_number c.args.class)) in
    sym (length-take-le _ (v.caught ∷ v.total ∷ f.place ∷ f.line ∷ f.value ∷ []) most)

pub put_line-requires-in-Some : goal.put_line-requires-in-Some
put_line-requires-in-Some c =
    let v = c.args.verdict in
    let class = class_number c.args.class in
    fits_as (ap (counts_text class v.caught v.total) c.in-Some.is
    ∙ sym (left-line class v.caught v.total c.in-Some.fault _ _ c.numbers_shown.ensures c.letter_of-letter.ensures)) c.requires

pub returns-in-Some : goal.returns-in-Some
returns-in-Some c =
    let v = c.args.verdict in
    let class = class_number c.args.class in
    put_alike (left-line class v.caught v.total c.in-Some.fault _ _ c.numbers_shown.ensures c.letter_of-letter.ensures
    ∙ sym (ap (counts_text class v.caught v.total) c.in-Some.is)) c.put_line-in-Some.ensures
