-- `real::spelling::alone` meets its contract: a word that is the same, and no word after it. Assumes nothing.
use Rattle.std.proofs.Common.{sym, ◌∙◌}
use Rattle.text.proofs.SameLaws.{same_told}
use Rattle.real.proofs.spelling.alone.Goals as goal

pub returns-then-eq : goal.returns-then-eq
returns-then-eq c = rw (sym (same_told c.args.word.now c.args.wanted.now c.eq.result c.eq.ensures) ∙ c.if-eq.true, c.count_words.ensures)

pub returns-else-eq : goal.returns-else-eq
returns-else-eq c = rw (sym (same_told c.args.word.now c.args.wanted.now c.eq.result c.eq.ensures), c.if-eq.false)
