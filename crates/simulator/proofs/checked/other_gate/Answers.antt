-- `simulator::checked::other_gate` meets its contract: a fault of a gate class names a gate and a line of the circuit, and a control less or more
-- leaves the target as it is. Assumes nothing.
use Rattle.std.specs.Prelude.{◌≡◌, ◌≤◌, ◌<◌, Some, length}
use Rattle.std.proofs.Common.{ap, subst, ◌∙◌, arith}
use Rattle.std.proofs.lemmas.Option.{same_Some}
use Rattle.circuit.specs.Limits.{most_lines}
use Rattle.circuit.specs.Checked.{gates_in}
use Rattle.circuit.specs.declared.Gate.{Gate}
use Rattle.circuit.proofs.ControlLaws.{less_is, more_is}
use Rattle.faults.specs.Kinds.{gate_class_number}
use Rattle.faults.specs.declared.checked.KnownFault.{KnownFault}
use Rattle.faults.specs.declared.classes.GateClass.{GateClass}
use Rattle.faults.proofs.ClassLaws.{names_both, less_target, more_target}
use Rattle.simulator.proofs.OtherLaws.{at_gate}
use Rattle.simulator.proofs.checked.other_gate.Goals as goal

named : (k : KnownFault) (class : GateClass) → k.fault.class ≡ gate_class_number class
    → (1 ≤ k.fault.place) × (k.fault.place ≤ length (gates_in k.circuit)) × (k.fault.line < most_lines)
named k class e = let circuit = k.circuit in names_both circuit.lines circuit.gates.now k.fault circuit.sound k.known (at_gate k.fault class e)

pub gate-gate-requires : goal.gate-gate-requires
gate-gate-requires c = let w = named c.args.known.now c.args.class c.requires in (omega arith, omega arith)

pub with_control-requires : goal.with_control-requires
with_control-requires c = (named c.args.known.now c.args.class c.requires).2

pub with_control-requires-in-ExtraControl : goal.with_control-requires-in-ExtraControl
with_control-requires-in-ExtraControl c = (named c.args.known.now c.args.class c.requires).2

pub returns-in-MissingControl-clause-other : goal.returns-in-MissingControl-clause-other
returns-in-MissingControl-clause-other c =
    let k = c.args.known.now in
    rw c.in-MissingControl.is
    (ap Some (c.with_control.ensures ∙ rw (c.gate-gate.ensures, c.gate_of.ensures) (less_is k.fault.line _)))

pub returns-in-MissingControl-clause-fits : goal.returns-in-MissingControl-clause-fits
returns-in-MissingControl-clause-fits c = λ x e.
    let k = c.args.known.now in
    let circuit = k.circuit in
    subst (λ (g : Gate). g.target < most_lines) (same_Some c.with_control.result x e)
    (rw (c.with_control.ensures, c.gate-gate.ensures, c.gate_of.ensures, less_is)
    (less_target circuit.lines circuit.gates.now k.fault circuit.sound k.known (at_gate k.fault c.args.class c.requires)))

pub returns-in-ExtraControl-clause-other : goal.returns-in-ExtraControl-clause-other
returns-in-ExtraControl-clause-other c =
    let k = c.args.known.now in
    rw c.in-ExtraControl.is
    (ap Some (c.with_control-in-ExtraControl.ensures ∙ rw (c.gate-gate.ensures, c.gate_of.ensures) (more_is k.fault.line _)))

pub returns-in-ExtraControl-clause-fits : goal.returns-in-ExtraControl-clause-fits
returns-in-ExtraControl-clause-fits c = λ x e.
    let k = c.args.known.now in
    let circuit = k.circuit in
    subst (λ (g : Gate). g.target < most_lines) (same_Some c.with_control-in-ExtraControl.result x e)
    (rw (c.with_control-in-ExtraControl.ensures, c.gate-gate.ensures, c.gate_of.ensures, more_is)
    (more_target circuit.lines circuit.gates.now k.fault circuit.sound k.known (at_gate k.fault c.args.class c.requires)))
