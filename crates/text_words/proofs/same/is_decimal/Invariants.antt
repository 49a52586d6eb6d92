-- `text_words::same::is_decimal` meets its contract: each turn passes the last digit of what is left. Assumes nothing.
use Rattle.std.proofs.Common.{◌≡◌, length}
use Rattle.text.specs.Texts.{same}
use Rattle.text.specs.Decimal.{decimal}
use Rattle.text_words.proofs.same.is_decimal.Given as goal

abbrev pub invariant-loop-last : goal.invariant-loop-last
invariant-loop-last l = same l.text (decimal l.number) ≡ same l.left (decimal l.x)

abbrev pub decreases-loop-last : goal.decreases-loop-last
decreases-loop-last l = length l.left
