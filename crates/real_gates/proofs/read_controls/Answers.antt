-- `real_gates::read_controls` meets its contract: each turn reads one word as a line of the mask. Assumes nothing.
use Rattle.std.proofs.Common.{◌≡◌, ◌∙◌, arith, sym}
use Rattle.text_words.specs.Words.{words_of}
use Rattle.real_gates.specs.Names.{names_in}
use Rattle.real_gates.proofs.ControlLaws.{reading_none, masked, some_left, not_declared, twice_named, control_more}
use Rattle.real_gates.proofs.read_controls.Goals as goal

pub loop-init : goal.loop-init
loop-init c = reading_none (names_in c.args.names.now) (words_of c.args.left.now.rest.now)

pub returns-in_err-next : goal.returns-in_err-next
returns-in_err-next c = let none = c.in_err-next.ensures in absurd (some_left c.loop.invariant c.loop-test.true c.requires.1 none.steps.0)

pub returns-in_err-line : goal.returns-in_err-line
returns-in_err-line c =
    let word = c.in_ok-next.ensures in
    rw c.from_residual-in_err-line.ensures
    (not_declared c.loop.invariant c.loop-test.true c.requires.1 word.steps c.in_err-line.ensures)

pub returns-then-value-eq1 : goal.returns-then-value-eq1
returns-then-value-eq1 c =
    let word = c.in_ok-next.ensures in
    let line = c.in_ok-line.ensures in
    twice_named c.loop.invariant c.loop-test.true c.requires.1 word.steps line.0 line.1 (sym c.value.ensures ∙ c.if-value-eq1.true)

pub loop-preserved : goal.loop-preserved
loop-preserved c =
    let word = c.in_ok-next.ensures in
    let line = c.in_ok-line.ensures in
    rw c.flip-mask.ensures (control_more c.loop.invariant c.loop-test.true c.requires.1 word.steps line.0 line.1
    (λ e. c.if-value-eq1.false (c.value.ensures ∙ e)))

pub returns : goal.returns
returns c = let end : c.loop.counter ≡ c.args.wanted = omega arith in rw (← end) (masked c.loop.invariant)
