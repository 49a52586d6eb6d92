-- `text_words::runs::next_word` meets its contract: blanks, then ink up to the next blank. Assumes nothing.
use Rattle.std.proofs.Common.{rules, tests, ◌≡◌, sym, ap, ◌∙◌, drop}
use Rattle.std.proofs.lemmas.Iterator.{YieldsList-from_slice}
use Rattle.std.proofs.lemmas.Iterator.Search.{position_from_yields_List}
use Rattle.std.proofs.lemmas.List.{take_rest, drop_all}
use Rattle.std.specs.List.{position_or_len}
use Rattle.text_words.specs.Words.{is_blank, words_of}
use Rattle.text_words.specs.Runs.{is_ink}
use Rattle.text_words.proofs.RunLaws.{found_some, found_none, found_or, blanks_gone, first_word}
use Rattle.text_words.proofs.runs.next_word.Goals as goal

pub returns-in_err-from : goal.returns-in_err-from
unfolding words_of
returns-in_err-from c =
    let line = c.args.line.now in
    let found = position_from_yields_List is_ink _ _ c.position.result c.position.ensures.ran (YieldsList-from_slice line cc)
    (λ x b q k. search (rules, tests)) in
    let past = found_none is_ink line (sym found ∙ c.in_err-from.was) in
    rw (c.from_residual.ensures) (blanks_gone line ∙ ap words_of (drop_all _ line past))

pub returns : goal.returns
returns c =
    let line = c.args.line.now in
    let from = c.in_ok-from.from in
    let found = position_from_yields_List is_ink _ _ c.position.result c.position.ensures.ran (YieldsList-from_slice line cc)
    (λ x b q k. search (rules, tests)) in
    let start = found_some is_ink line from (sym found ∙ c.in_ok-from.was) in
    let ink = take_rest line from in
    let next = position_from_yields_List is_blank _ _ c.position-2.result c.position-2.ensures.ran
    (YieldsList-from_slice (drop from line) (cc (c.iter-2.ensures.rest, ink))) (λ x b q k. search (rules, tests)) in
    let stop : c.unwrap_or-end.result ≡ position_or_len is_blank (drop from line) =
    c.unwrap_or-end.ensures ∙ rw (ink, next) (found_or is_blank (drop from line)) in
    rw (c.split_at.ensures.front, c.split_at.ensures.back, ink) (first_word line from start.0 start.1 _ stop)
