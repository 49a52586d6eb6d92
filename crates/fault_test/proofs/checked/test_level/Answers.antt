-- `fault_test::checked::test_level` meets its contract: a fault of a gate names one, which reads the level before its own. Assumes nothing.
use Rattle.std.proofs.Common.{◌≡◌, ◌≤◌, ◌≢◌, arith, length}
use Rattle.circuit.specs.Gates.{gates_of}
use Rattle.faults.specs.Kinds.{gate_class_number}
use Rattle.faults.specs.declared.checked.KnownFault.{KnownFault}
use Rattle.faults.specs.declared.classes.GateClass.{GateClass}
use Rattle.faults.specs.declared.classes.GateClass.TheVariants.{MissingGate, MissingControl, ExtraControl}
use Rattle.faults.proofs.ClassLaws.{stuck_fault, names-gate}
use Rattle.fault_test.proofs.checked.test_level.Goals as goal

not_stuck : (class : GateClass) → gate_class_number class ≢ 1
not_stuck MissingGate e = omega arith
not_stuck MissingControl e = omega arith
not_stuck ExtraControl e = omega arith

at_gate : (known : KnownFault) (class : GateClass) → known.fault.class ≡ gate_class_number class
    → (1 ≤ known.fault.place) × (known.fault.place ≤ length (gates_of known.circuit.gates.now))
at_gate known class e =
    names-gate known.circuit.lines known.circuit.gates.now known.fault known.circuit.sound known.known (λ q. not_stuck class (omega arith))

pub returns-in-StuckAt-clause-level_in_bounds : goal.returns-in-StuckAt-clause-level_in_bounds
returns-in-StuckAt-clause-level_in_bounds c =
    let known = c.args.known.now in
    let stuck = stuck_fault known.circuit.lines known.circuit.gates.now known.fault known.circuit.sound known.known c.in-StuckAt.ensures in
    omega arith

pub level_read-requires : goal.level_read-requires
level_read-requires c = let w = at_gate c.args.known.now _ c.in-AtGate.ensures in omega arith

pub returns-in-AtGate-clause-level_in_bounds : goal.returns-in-AtGate-clause-level_in_bounds
returns-in-AtGate-clause-level_in_bounds c = let w = at_gate c.args.known.now _ c.in-AtGate.ensures in omega arith
