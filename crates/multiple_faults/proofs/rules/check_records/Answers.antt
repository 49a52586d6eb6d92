-- `multiple_faults::rules::check_records` meets its contract: each turn passes an entry, so that the first bad record of what is left is that of the
-- whole. Assumes nothing.
use Rattle.std.proofs.Common.{◌≡◌, ◌/◌, ◌%◌, refl, ap, sym, ◌∙◌, arith, not, eqb, length}
use Rattle.refusals.proofs.Places.{bad-found, bad_passed, bad_end, told_at, told_after}
use Rattle.circuit.specs.Gates.{gates_of}
use Rattle.faults.specs.Records.{no_fault, faults_of, first_bad_record}
use Rattle.faults.proofs.RecordLaws.{records_count}
use Rattle.multiple_faults.specs.Multiple.{bad_entry}
use Rattle.multiple_faults.proofs.rules.check_records.Goals as goal

pub loop-i-init : goal.loop-i-init
unfolding first_bad_record
loop-i-init c = refl

pub returns-then-bad_entry : goal.returns-then-bad_entry
returns-then-bad_entry c =
    let circuit = c.args.circuit.now in
    let list = c.args.entries.now in
    let bad = bad_entry circuit.lines (gates_of circuit.gates.now) in
    rw c.in_word.ensures (told_at 9 _ _ (c.loop-i.invariant
    ∙ bad-found bad _ (faults_of list) c.loop-i.i no_fault (omega (arith, records_count list))
    (ap bad (sym c.record_at.ensures) ∙ sym c.bad_entry.ensures ∙ c.if-bad_entry.true)))

pub loop-i-preserved : goal.loop-i-preserved
loop-i-preserved c =
    let circuit = c.args.circuit.now in
    let list = c.args.entries.now in
    let bad = bad_entry circuit.lines (gates_of circuit.gates.now) in
    c.loop-i.invariant ∙ bad_passed bad _ (faults_of list) c.loop-i.i no_fault (omega (arith, records_count list))
    (ap bad (sym c.record_at.ensures) ∙ sym c.bad_entry.ensures ∙ c.if-bad_entry.false)

pub returns : goal.returns
returns c =
    let circuit = c.args.circuit.now in
    let list = c.args.entries.now in
    let bad = bad_entry circuit.lines (gates_of circuit.gates.now) in
    let last : c.loop-i.i ≡ length list / 4 = omega arith in
    rw c.in_word-2.ensures at c.refuse_when.ensures
    ∙ told_after _ 9 _ _ (c.loop-i.invariant
    ∙ bad_end bad (not (eqb (length list % 4) 0)) (faults_of list) c.loop-i.i (omega (arith, records_count list)) ∙ rw last)
