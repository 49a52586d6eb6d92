-- `text_words::runs::next_line` meets its contract: the bytes before the first LF, without a CR, or all. Assumes nothing.
use Rattle.std.proofs.Common.{rules, tests, ◌+◌, refl, sym, ap, ◌∙◌, arith}
use Rattle.std.proofs.lemmas.Iterator.{YieldsList-from_slice}
use Rattle.std.proofs.lemmas.Iterator.Search.{position_from_yields_List}
use Rattle.std.proofs.lemmas.Bool.{eqb-true, eqb-false}
use Rattle.std.proofs.lemmas.List.{nil_from_length, take_rest}
use Rattle.text_words.specs.Words.{lines_of}
use Rattle.text_words.proofs.RunLaws.{found_some, found_none}
use Rattle.text_words.proofs.LineLaws.{is_lf, line_stripped, line_whole}
use Rattle.text_words.proofs.runs.next_line.Goals as goal

pub returns-then-is_empty : goal.returns-then-is_empty
unfolding lines_of
returns-then-is_empty c = ap lines_of (nil_from_length c.args.text.now (eqb-true _ 0 (sym c.is_empty.ensures ∙ c.if-is_empty.true)))

pub returns-in_default : goal.returns-in_default
returns-in_default c =
    let text = c.args.text.now in
    let found = position_from_yields_List is_lf _ _ c.position.result c.position.ensures.ran (YieldsList-from_slice text cc)
    (λ x b q k. search (rules, tests)) in
    let past = found_none is_lf text (sym found ∙ c.in_default.is) in
    let some = eqb-false _ 0 (sym c.is_empty.ensures ∙ c.if-is_empty.false) in
    line_whole text (omega arith) past

pub returns : goal.returns
returns c =
    let text = c.args.text.now in
    let end = c.in-Some.end in
    let found = position_from_yields_List is_lf _ _ c.position.result c.position.ensures.ran (YieldsList-from_slice text cc)
    (λ x b q k. search (rules, tests)) in
    let first = found_some is_lf text end (sym found ∙ c.in-Some.is) in
    rw (take_rest text (end + 1), c.unwrap_or.ensures)
    (line_stripped text end first.0 first.1 c.strip_suffix.result _ refl c.strip_suffix.ensures.cases)
