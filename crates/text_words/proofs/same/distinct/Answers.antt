-- `text_words::same::distinct` meets its contract: each word of them stands first at its own number. Assumes nothing.
use Rattle.std.proofs.Common.{rules, tests}
use Rattle.std.proofs.lemmas.Iterator.{YieldsList-from_take, cases_from_all}
use Rattle.std.proofs.lemmas.Iterator.Consumers.{YieldsList-from_enumerate, YieldsList-at}
use Rattle.text_words.specs.Words.{words_of}
use Rattle.text_words.proofs.WordsLaws.{words_road}
use Rattle.text_words.proofs.PlaceLaws.{Yes, No, all_distinct, at_place, at_other}
use Rattle.text_words.proofs.same.distinct.Goals as goal

pub returns : goal.returns
returns c =
    let words = words_of c.args.line.now in
    let road = YieldsList-from_enumerate {s = c.enumerate.result} (YieldsList-at c.enumerate.ensures.source (YieldsList-from_take c.args.words
    (YieldsList-at c.take.ensures.source (words_road words c.of.ensures.words)) cc)) cc in
    all_distinct c.args.words words c.requires c.all.result
    (cases_from_all c.all.new.self _ _ (Yes words) (No words) c.all.ensures.ran road
    (λ x q k. search (rules, tests, at_place)) (λ x q k. search (rules, tests, at_other)))
