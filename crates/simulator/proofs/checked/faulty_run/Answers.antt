-- `simulator::checked::faulty_run` meets its contract: the fault leaves the circuit at one level in another state, and the rest of the
-- circuit goes on from there. Assumes nothing.
use Rattle.std.proofs.Common.{sym, ◌∙◌, arith}
use Rattle.circuit.specs.Gates.{gates_of}
use Rattle.faults.proofs.ClassLaws.{stuck_fault, names-gate}
use Rattle.simulator.proofs.FaultyLaws.{faulty_stuck, stuck_one}
use Rattle.simulator.proofs.OtherLaws.{at_gate, other_faulty}
use Rattle.simulator.proofs.checked.faulty_run.Goals as goal

pub run_stuck_at-requires : goal.run_stuck_at-requires
run_stuck_at-requires c =
    let k = c.args.known.now in
    let circuit = k.circuit in
    let stuck = stuck_fault circuit.lines circuit.gates.now k.fault circuit.sound k.known c.in-StuckAt.ensures in
    (stuck.place_in, omega (arith, circuit.sound.lines_fit))

pub run_changed-requires-clause-le_place : goal.run_changed-requires-clause-le_place
run_changed-requires-clause-le_place c =
    let k = c.args.known.now in
    let circuit = k.circuit in
    names-gate circuit.lines circuit.gates.now k.fault circuit.sound k.known (at_gate k.fault _ c.in-AtGate.ensures)

pub returns-in-StuckAt : goal.returns-in-StuckAt
returns-in-StuckAt c =
    let k = c.args.known.now in
    let circuit = k.circuit in
    let gs = gates_of circuit.gates.now in
    let stuck = stuck_fault circuit.lines circuit.gates.now k.fault circuit.sound k.known c.in-StuckAt.ensures in
    c.run_stuck_at.ensures ∙ sym (faulty_stuck gs k.fault c.args.vector stuck.class_is ∙ stuck_one gs k.fault c.args.vector stuck.place_in)

pub returns-in-AtGate : goal.returns-in-AtGate
returns-in-AtGate c =
    let k = c.args.known.now in
    let circuit = k.circuit in
    let w = names-gate circuit.lines circuit.gates.now k.fault circuit.sound k.known (at_gate k.fault _ c.in-AtGate.ensures) in
    c.run_changed.ensures
    ∙ rw c.other_gate.ensures.other (sym (other_faulty (gates_of circuit.gates.now) k.fault w.0 w.1 c.args.vector _ c.in-AtGate.ensures))
