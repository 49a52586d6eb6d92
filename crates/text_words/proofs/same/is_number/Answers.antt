-- `text_words::same::is_number` meets its contract: digits, and no zero in front of others. Assumes nothing.
use Rattle.std.proofs.Common.{rules, tests, refl}
use Rattle.std.proofs.lemmas.Iterator.{YieldsList-from_slice}
use Rattle.std.proofs.lemmas.Iterator.Search.{all_from_yields_List}
use Rattle.std.specs.Char.{is_ascii_digit}
use Rattle.text_words.proofs.DigitLaws.{number_told}
use Rattle.text_words.proofs.same.is_number.Goals as goal

pub returns-then-not-starts_with : goal.returns-then-not-starts_with
returns-then-not-starts_with c =
    let text = c.args.text.now in
    let digits = all_from_yields_List is_ascii_digit _ _ c.all.result c.all.ensures.ran (YieldsList-from_slice text cc)
    (λ x b q k. search (rules, tests)) in
    let told = number_told text c.all.result c.starts_with.result digits c.starts_with.ensures.value in
    rw (told, c.if-all.true, c.if-not-starts_with.true)

pub returns-else-not-starts_with : goal.returns-else-not-starts_with
returns-else-not-starts_with c =
    let text = c.args.text.now in
    let digits = all_from_yields_List is_ascii_digit _ _ c.all.result c.all.ensures.ran (YieldsList-from_slice text cc)
    (λ x b q k. search (rules, tests)) in
    let told = number_told text c.all.result c.starts_with.result digits c.starts_with.ensures.value in
    rw (told, c.if-all.true, c.if-not-starts_with.false)

pub returns-else-all : goal.returns-else-all
returns-else-all c =
    let text = c.args.text.now in
    let digits = all_from_yields_List is_ascii_digit _ _ c.all.result c.all.ensures.ran (YieldsList-from_slice text cc)
    (λ x b q k. search (rules, tests)) in
    let told = number_told text c.all.result _ digits refl in
    rw (told, c.if-all.false)
