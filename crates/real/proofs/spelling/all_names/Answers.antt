-- `real::spelling::all_names` meets its contract: every word is asked. Assumes nothing.
use Rattle.std.proofs.Common.{rules, tests}
use Rattle.text.proofs.EveryLaws.{every_from_all}
use Rattle.text_words.specs.Words.{words_of}
use Rattle.text_words.proofs.WordsLaws.{words_road}
use Rattle.real.specs.Form.{is_name}
use Rattle.real.proofs.spelling.all_names.Goals as goal

pub returns : goal.returns
returns c =
    let road = words_road (words_of c.args.line.now) c.of.ensures.words in
    every_from_all is_name c.all.new.self _ _ c.all.ensures.ran road (λ x b q k. search (rules, tests))
