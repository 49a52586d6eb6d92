-- `circuit::rules::first_bad_vector` meets its contract: each turn passes a vector that fits, so that the first bad one of what is left is that of the
-- whole. Assumes nothing.
use Rattle.std.proofs.Common.{refl, sym, ◌∙◌, arith, ◌^◌, false, leb}
use borrow.Author.Tests.{ltb-true, ltb-false, le-leb, lt-leb}
use Rattle.refusals.proofs.Places.{bad-found, bad_passed, bad_end, some_at, none_at}
use Rattle.circuit.specs.Rules.{first_bad_vector}
use Rattle.circuit.proofs.rules.first_bad_vector.Goals as goal

pub loop-i-init : goal.loop-i-init
unfolding first_bad_vector
loop-i-init c = refl

pub returns-then-not-below : goal.returns-then-not-below
returns-then-not-below c =
    let a = c.args in
    some_at _ _ (c.loop-i.invariant ∙ bad-found (leb (2 ^ a.lines)) false a.vectors.now c.loop-i.i 0 c.loop-i-test.true
    (le-leb _ _ (ltb-false _ _ (sym c.below.ensures ∙ c.if-not-below.true))))

pub loop-i-preserved : goal.loop-i-preserved
loop-i-preserved c =
    let a = c.args in
    c.loop-i.invariant ∙ bad_passed (leb (2 ^ a.lines)) false a.vectors.now c.loop-i.i 0 c.loop-i-test.true
    (lt-leb _ _ (ltb-true _ _ (sym c.below.ensures ∙ c.if-not-below.false)))

pub returns : goal.returns
returns c =
    let a = c.args in
    none_at _ (c.loop-i.invariant ∙ bad_end (leb (2 ^ a.lines)) false a.vectors.now c.loop-i.i (omega arith))
