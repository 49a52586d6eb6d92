-- `real::spelling::is_name` meets its contract: every byte, and then the length, is asked. Assumes nothing.
use Rattle.std.proofs.Common.{rules, tests, sym}
use Rattle.std.proofs.lemmas.Iterator.{YieldsList-from_slice}
use Rattle.real.specs.Form.{is_name_byte, is_name}
use Rattle.text.proofs.EveryLaws.{every_from_all}
use Rattle.real.proofs.spelling.is_name.Goals as goal

pub returns-then-all : goal.returns-then-all
unfolding is_name
returns-then-all c =
    let every = every_from_all is_name_byte _ _ c.all.result c.all.ensures.ran (YieldsList-from_slice c.args.word.now cc)
    (λ x b q k. search (rules, tests)) in
    rw (sym every, c.if-all.true)

pub returns-else-all : goal.returns-else-all
unfolding is_name
returns-else-all c =
    let every = every_from_all is_name_byte _ _ c.all.result c.all.ensures.ran (YieldsList-from_slice c.args.word.now cc)
    (λ x b q k. search (rules, tests)) in
    rw (sym every, c.if-all.false)
