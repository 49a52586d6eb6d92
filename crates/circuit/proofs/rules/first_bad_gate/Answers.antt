-- `circuit::rules::first_bad_gate` meets its contract: each turn passes a good gate, so that the first bad one of what is left is that of the whole.
-- Assumes nothing.
use Rattle.std.proofs.Common.{◌≡◌, ◌/◌, ◌%◌, refl, ap, sym, ◌∙◌, arith, rules, not, eqb, length}
use borrow.Author.Tests.{eq-eqb, ne_eqb}
use Rattle.refusals.proofs.Places.{bad-found, bad_passed, bad_end, some_at, none_at}
use Rattle.circuit.specs.Gates.{gates_of, no_gate}
use Rattle.circuit.specs.Rules.{bad_gate, first_bad_gate}
use Rattle.circuit.proofs.GateLaws.{gates_count, gate_entry}
use Rattle.circuit.proofs.rules.first_bad_gate.Goals as goal

pub loop-i-init : goal.loop-i-init
unfolding first_bad_gate
loop-i-init c = refl

pub returns-then-bad_gate : goal.returns-then-bad_gate
returns-then-bad_gate c =
    let a = c.args in
    let e = sym (gate_entry (gates_of a.gates.now) c.loop-i.i c.gate.result.0 (search rules)) ∙ sym c.gate_at.ensures in
    some_at _ _ (c.loop-i.invariant ∙ bad-found (bad_gate a.lines) _ (gates_of a.gates.now) c.loop-i.i no_gate (omega (arith, gates_count a.gates.now))
    (ap (bad_gate a.lines) e ∙ sym c.bad_gate.ensures ∙ c.if-bad_gate.true))

pub loop-i-preserved : goal.loop-i-preserved
loop-i-preserved c =
    let a = c.args in
    let e = sym (gate_entry (gates_of a.gates.now) c.loop-i.i c.gate.result.0 (search rules)) ∙ sym c.gate_at.ensures in
    c.loop-i.invariant ∙ bad_passed (bad_gate a.lines) _ (gates_of a.gates.now) c.loop-i.i no_gate (omega (arith, gates_count a.gates.now))
    (ap (bad_gate a.lines) e ∙ sym c.bad_gate.ensures ∙ c.if-bad_gate.false)

pub returns-then-gates-ne0 : goal.returns-then-gates-ne0
returns-then-gates-ne0 c =
    let a = c.args in
    let last : c.loop-i.i ≡ length a.gates.now / 3 = omega arith in
    some_at _ (length a.gates.now / 3) (c.loop-i.invariant ∙ bad_end (bad_gate a.lines) (not (eqb (length a.gates.now % 3) 0)) (gates_of a.gates.now) c.loop-i.i
    (omega (arith, gates_count a.gates.now)) ∙ rw (ne_eqb (length a.gates.now % 3) 0 c.if-gates-ne0.true, last))

pub returns-else-gates-ne0 : goal.returns-else-gates-ne0
returns-else-gates-ne0 c =
    let a = c.args in
    none_at _ (c.loop-i.invariant ∙ bad_end (bad_gate a.lines) (not (eqb (length a.gates.now % 3) 0)) (gates_of a.gates.now) c.loop-i.i
    (omega (arith, gates_count a.gates.now)) ∙ rw (eq-eqb (length a.gates.now % 3) 0 c.if-gates-ne0.false))
