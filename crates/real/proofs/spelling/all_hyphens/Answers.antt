-- `real::spelling::all_hyphens` meets its contract: the length, and then every byte, is asked. Assumes nothing.
use Rattle.std.proofs.Common.{rules, tests, eqb, eq-eqb}
use Rattle.std.proofs.lemmas.Iterator.{YieldsList-from_slice}
use Rattle.text.proofs.EveryLaws.{every_from_all}
use Rattle.real.proofs.spelling.all_hyphens.Goals as goal

pub returns-then-word-number : goal.returns-then-word-number
returns-then-word-number c = rw (eq-eqb _ _ c.if-word-number.true)
    (every_from_all (eqb 45) _ _ _ c.all.ensures.ran (YieldsList-from_slice c.args.word.now cc) (λ x b q k. search (rules, tests)))
