-- `report_text::put_refused` meets its contract: the letter E, and the refusal's number and place. Assumes nothing.
use Rattle.std.proofs.Common.{false, [], ◌∷◌, sym, ◌∙◌, ap₂}
use Rattle.text.proofs.WritingLaws.{fits_as, put_alike}
use Rattle.report_text.specs.Parts.{numbers_line}
use Rattle.report_text.proofs.ReportLaws.{refused_line}
use Rattle.report_text.proofs.put_refused.Goals as goal

pub put_line-requires : goal.put_line-requires
put_line-requires c =
    fits_as (sym (refused_line _ _) ∙ ap₂ (λ k p. numbers_line 69 (k ∷ p ∷ []) false) (sym c.number.ensures) (sym c.place.ensures)) c.requires

pub returns : goal.returns
returns c = put_alike (ap₂ (λ k p. numbers_line 69 (k ∷ p ∷ []) false) c.number.ensures c.place.ensures ∙ refused_line _ _) c.put_line.ensures
