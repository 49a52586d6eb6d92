-- `real_gates::narrow` meets its contract: the controls are read, and the word after them is the target. Assumes nothing.
use Rattle.std.proofs.Common.{◌-◌, arith}
use Rattle.text_words.specs.Words.{words_of}
use Rattle.real_gates.specs.Names.{names_in}
use Rattle.real_gates.proofs.GateLaws.{wrong_controls, some_target, no_target, gate_narrow}
use Rattle.real_gates.proofs.narrow.Goals as goal

pub returns-in_err-controls : goal.returns-in_err-controls
returns-in_err-controls c =
    let a = c.args in
    let all = c.of-left.ensures.words in
    rw (c.from_residual.ensures, ← all)
    (wrong_controls (names_in a.names.now) (words_of c.of-left.result.rest.now) (a.words - 1) (rw all (omega arith)) c.in_err-controls.ensures)

pub returns-in_err-next : goal.returns-in_err-next
returns-in_err-next c =
    let a = c.args in
    let all = c.of-left.ensures.words in
    let none = c.in_err-next.ensures in
    absurd (some_target (names_in a.names.now) (words_of c.of-left.result.rest.now) (a.words - 1) (rw all (omega arith)) c.in_ok-controls.ensures
    none.steps.0)

pub returns-in_err-target : goal.returns-in_err-target
returns-in_err-target c =
    let a = c.args in
    let all = c.of-left.ensures.words in
    let word = c.in_ok-next.ensures in
    rw (c.from_residual-in_err-target.ensures, ← all)
    (no_target (names_in a.names.now) (words_of c.of-left.result.rest.now) (a.words - 1) (rw all (omega arith)) c.in_ok-controls.ensures word.steps
    c.in_err-target.ensures)

pub returns : goal.returns
returns c =
    let a = c.args in
    let all = c.of-left.ensures.words in
    let word = c.in_ok-next.ensures in
    let target = c.in_ok-target.ensures in
    rw (← all)
    (gate_narrow (names_in a.names.now) (words_of c.of-left.result.rest.now) (a.words - 1) (rw all (omega arith)) c.in_ok-controls.ensures word.steps
    target.0 target.1)
