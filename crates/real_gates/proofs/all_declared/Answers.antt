-- `real_gates::all_declared` meets its contract: a word is declared where it has a place. Assumes nothing.
use Rattle.std.proofs.Common.{rules, tests}
use Rattle.text.specs.Texts.{among}
use Rattle.text.proofs.EveryLaws.{every_from_all}
use Rattle.text_words.specs.Words.{words_of}
use Rattle.text_words.proofs.WordsLaws.{words_road}
use Rattle.real_gates.specs.Names.{names_in}
use Rattle.real_gates.proofs.ControlLaws.{among_found}
use Rattle.real_gates.proofs.all_declared.Goals as goal

pub returns : goal.returns
returns c =
    every_from_all (λ w. among w (names_in c.args.names.now)) c.all.new.self _ _ c.all.ensures.ran
    (words_road (words_of c.args.line.now) c.of.ensures.words) (λ x b q k. search (rules, tests, among_found))
