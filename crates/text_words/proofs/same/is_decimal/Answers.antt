-- `text_words::same::is_decimal` meets its contract: each turn passes the last digit of what is left. Assumes nothing.
use Rattle.std.proofs.Common.{sym, ◌∙◌}
use Rattle.std.proofs.lemmas.List.{nil_from_length}
use Rattle.text_words.proofs.DigitLaws.{digits_none, digits_more, digits_other, digits_last}
use Rattle.text_words.proofs.same.is_decimal.Goals as goal

pub returns-then-last-x : goal.returns-then-last-x
returns-then-last-x c = sym (c.loop-last.invariant ∙ rw (c.in-Some.ensures.cases.0) (digits_other _ _ _ c.if-last-x.true))

pub returns-then-x-lt10 : goal.returns-then-x-lt10
returns-then-x-lt10 c =
    c.is_empty.ensures ∙ sym (c.loop-last.invariant ∙ rw (c.in-Some.ensures.cases.0) (digits_last _ _ _ c.if-x-lt10.true c.if-last-x.false))

pub loop-last-preserved : goal.loop-last-preserved
loop-last-preserved c = c.loop-last.invariant ∙ rw (c.in-Some.ensures.cases.0) (digits_more _ _ _ c.if-x-lt10.false c.if-last-x.false)

pub returns : goal.returns
returns c = sym (c.loop-last.invariant ∙ rw (nil_from_length _ c.in_default.ensures.cases) (digits_none _))
