-- `marking::counts::total_gates` meets its contract: each turn adds the ones of the gate's lines, which are its faults. Assumes nothing.
use Rattle.std.proofs.Common.{length}
use Rattle.circuit.specs.Gates.{gates_of}
use Rattle.faults.specs.Classes.{class_faults}
use Rattle.faults.specs.Kinds.{gate_class_number}
use Rattle.marking.proofs.TallyLaws.{gate_total, Adding}
use Rattle.marking.proofs.counts.total_gates.Given as goal

abbrev pub invariant-loop-i : goal.invariant-loop-i
invariant-loop-i l =
    let n = l.circuit.lines in
    let gs = gates_of l.circuit.gates.now in
    let class = gate_class_number l.class in
    Adding (gate_total n gs class) (length (class_faults n gs class)) (length gs) l.sum l.i
