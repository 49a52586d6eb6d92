-- `text_words::same::place` meets its contract: what `position` finds is the place. Assumes nothing.
use Rattle.std.proofs.Common.{rules, tests, eqb}
use Rattle.std.proofs.lemmas.Iterator.Search.{position_from_yields_List}
use lib.Pointwise.{pointwise}
use Rattle.text_words.specs.Words.{words_of}
use Rattle.text_words.proofs.WordsLaws.{words_road}
use Rattle.text_words.proofs.PlaceLaws.{placed}
use Rattle.text_words.proofs.same.place.Goals as goal

pub returns : goal.returns
returns c =
    let words = words_of c.args.line.now in
    let word = c.args.word.now in
    placed words word _
    (position_from_yields_List (λ u. pointwise eqb u word) c.position.new.self _ _ c.position.ensures.ran
    (words_road words c.of.ensures.words) (λ x b q k. search (rules, tests)))
