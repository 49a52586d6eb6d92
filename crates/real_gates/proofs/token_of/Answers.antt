-- `real_gates::token_of` meets its contract: what stands after the letter t is compared with the number of words. Assumes nothing.
use Rattle.std.proofs.Common.{◌∙◌, rules, tests}
use Rattle.text_words.specs.Words.{words_of}
use Rattle.real_gates.proofs.TokenLaws.{token_told}
use Rattle.real_gates.proofs.token_of.Goals as goal
use Rattle.real_gates.proofs.token_of.Goals.{then-count-ge1, else-count-ge1}

pub returns : goal.returns
returns c =
    let found = c.in_ok-number.ensures in
    let number = c.in_ok-number.number.now in
    c.then_some.ensures
    ∙ rw c.count_words-count.ensures
    (token_told c.args.token.now (words_of c.args.rest.now) number found.cases.0 found.cases.1 c.if-count-ge1.then_some
    (elim c.if-count-ge1.branch [ then-count-ge1 w ↦ search (rules, tests) | else-count-ge1 w ↦ search (rules, tests) ]))
