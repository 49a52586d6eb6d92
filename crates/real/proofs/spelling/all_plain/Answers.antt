-- `real::spelling::all_plain` meets its contract: every byte is asked. Assumes nothing.
use Rattle.std.proofs.Common.{rules, tests}
use Rattle.std.proofs.lemmas.Iterator.{YieldsList-from_slice}
use Rattle.real.specs.Form.{is_plain}
use Rattle.text.proofs.EveryLaws.{every_from_all}
use Rattle.real.proofs.spelling.all_plain.Goals as goal

pub returns : goal.returns
returns c = every_from_all is_plain _ _ _ c.all.ensures.ran (YieldsList-from_slice c.args.line.now cc) (λ x b q k. search (rules, tests))
