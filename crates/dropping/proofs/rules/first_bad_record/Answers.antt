-- `dropping::rules::first_bad_record` meets its contract: each turn passes a fault, so that the first bad record of what is left is that of the whole.
-- Assumes nothing.
use Rattle.std.proofs.Common.{◌≡◌, refl, ap, sym, ◌∙◌, arith}
use Rattle.basics.proofs.Tests.{choice-true, choice-false}
use Rattle.refusals.proofs.Places.{bad-found, bad_passed, bad_end, some_at, none_at}
use Rattle.circuit.specs.Checked.{gates_in}
use Rattle.faults.specs.Records.{no_fault}
use Rattle.dropping.specs.Rules.{bad_record}
use Rattle.dropping.proofs.RuleLaws.{record_told}
use Rattle.dropping.proofs.rules.first_bad_record.Goals as goal

pub loop-i-init : goal.loop-i-init
loop-i-init g c = refl

pub returns-then-bad : goal.returns-then-bad
returns-then-bad g c =
    let circuit = c.args.circuit.now in
    let bad = bad_record circuit.lines (gates_in circuit) in
    let over = g.E.Entry.is_over c.args.list.now in
    let fs = g.E.Entry.records c.args.list.now in
    let told = record_told circuit.lines circuit.gates.now c.read.result c.check_fault.result c.check_fault.ensures.rules in
    let here = ap bad (sym c.read.ensures) ∙ sym told ∙ sym c.is_err-bad.ensures.value ∙ c.if-bad.true in
    some_at _ _ (c.loop-i.invariant ∙ bad-found bad over fs c.loop-i.i no_fault (omega arith) here)

pub loop-i-preserved : goal.loop-i-preserved
loop-i-preserved g c =
    let circuit = c.args.circuit.now in
    let bad = bad_record circuit.lines (gates_in circuit) in
    let over = g.E.Entry.is_over c.args.list.now in
    let fs = g.E.Entry.records c.args.list.now in
    let told = record_told circuit.lines circuit.gates.now c.read.result c.check_fault.result c.check_fault.ensures.rules in
    let here = ap bad (sym c.read.ensures) ∙ sym told ∙ sym c.is_err-bad.ensures.value ∙ c.if-bad.false in
    c.loop-i.invariant ∙ bad_passed bad over fs c.loop-i.i no_fault (omega arith) here

pub returns-then-is_over : goal.returns-then-is_over
returns-then-is_over g c =
    let circuit = c.args.circuit.now in
    let bad = bad_record circuit.lines (gates_in circuit) in
    let over = g.E.Entry.is_over c.args.list.now in
    let fs = g.E.Entry.records c.args.list.now in
    let last : c.loop-i.i ≡ c.count-whole.result = omega arith in
    some_at _ c.count-whole.result (c.loop-i.invariant ∙ bad_end bad over fs c.loop-i.i (omega arith)
    ∙ choice-true (sym c.is_over.ensures ∙ c.if-is_over.true) _ _ ∙ rw last)

pub returns-else-is_over : goal.returns-else-is_over
returns-else-is_over g c =
    let circuit = c.args.circuit.now in
    let bad = bad_record circuit.lines (gates_in circuit) in
    let over = g.E.Entry.is_over c.args.list.now in
    let fs = g.E.Entry.records c.args.list.now in
    none_at _ (c.loop-i.invariant ∙ bad_end bad over fs c.loop-i.i (omega arith)
    ∙ choice-false (sym c.is_over.ensures ∙ c.if-is_over.false) _ _)
