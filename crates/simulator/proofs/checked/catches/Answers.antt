-- `simulator::checked::catches` meets its contract: the output differs where the fault leaves another state at one level. Assumes nothing.
use Rattle.std.proofs.Common.{sym, ◌∙◌, arith}
use Rattle.circuit.specs.Gates.{gates_of}
use Rattle.faults.proofs.ClassLaws.{stuck_fault, names-gate}
use Rattle.simulator.proofs.FaultyLaws.{stuck_caught}
use Rattle.simulator.proofs.OtherLaws.{at_gate, other_caught}
use Rattle.simulator.proofs.checked.catches.Goals as goal

pub catches_stuck_at-requires : goal.catches_stuck_at-requires
catches_stuck_at-requires c =
    let k = c.args.known.now in
    let circuit = k.circuit in
    let stuck = stuck_fault circuit.lines circuit.gates.now k.fault circuit.sound k.known c.in-StuckAt.ensures in
    (stuck.place_in, omega (arith, circuit.sound.lines_fit))

pub catches_changed-requires-clause-le_place : goal.catches_changed-requires-clause-le_place
catches_changed-requires-clause-le_place c =
    let k = c.args.known.now in
    let circuit = k.circuit in
    names-gate circuit.lines circuit.gates.now k.fault circuit.sound k.known (at_gate k.fault _ c.in-AtGate.ensures)

pub returns-in-StuckAt : goal.returns-in-StuckAt
returns-in-StuckAt c =
    let k = c.args.known.now in
    let circuit = k.circuit in
    let gs = gates_of circuit.gates.now in
    let stuck = stuck_fault circuit.lines circuit.gates.now k.fault circuit.sound k.known c.in-StuckAt.ensures in
    c.catches_stuck_at.ensures ∙ sym (stuck_caught circuit.lines gs circuit.sound.gates_ok k.fault stuck c.args.vector)

pub returns-in-AtGate : goal.returns-in-AtGate
returns-in-AtGate c =
    let k = c.args.known.now in
    let circuit = k.circuit in
    let gs = gates_of circuit.gates.now in
    let w = names-gate circuit.lines circuit.gates.now k.fault circuit.sound k.known (at_gate k.fault _ c.in-AtGate.ensures) in
    c.catches_changed.ensures
    ∙ rw c.other_gate.ensures.other
    (sym (other_caught gs k.fault w.0 w.1 c.args.vector circuit.lines circuit.sound.gates_ok _ c.in-AtGate.ensures))
