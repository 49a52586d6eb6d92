-- `real_gates::gate_of` meets its contract: with more than 32 lines the words are only tested, and else read. Assumes nothing.
use Rattle.std.proofs.Common.{◌-◌, ◌<◌, arith, rules, tests, length}
use Rattle.text_words.specs.Words.{words_of}
use Rattle.real_gates.specs.Names.{names_in}
use Rattle.real_gates.proofs.GateLaws.{gate_wide}
use Rattle.real_gates.proofs.gate_of.Goals as goal
use Rattle.real_gates.proofs.gate_of.Goals.{then-all_declared, else-all_declared}

pub returns : goal.returns
returns c =
    let a = c.args in
    let counted = a.names.now.known.counted in
    let many : 32 < length (names_in a.names.now) = omega arith in
    rw c.then_some.ensures (gate_wide (names_in a.names.now) (words_of a.rest.now) (a.words - 1) (omega arith) many c.if-all_declared.then_some
    (elim c.if-all_declared.branch [ then-all_declared w ↦ search (rules, tests) | else-all_declared w ↦ search (rules, tests) ]))
