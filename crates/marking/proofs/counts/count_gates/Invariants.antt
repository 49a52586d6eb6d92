-- `marking::counts::count_gates` meets its contract: each turn adds the ones of the gate's lines that are marked,
-- which are its marked faults. Assumes nothing.
use Rattle.std.proofs.Common.{length}
use Rattle.basics.specs.Lists.{keep}
use Rattle.circuit.specs.Gates.{gates_of}
use Rattle.faults.specs.Classes.{class_faults}
use Rattle.faults.specs.Kinds.{gate_class_number}
use Rattle.marking.specs.Marks.{gate_marked}
use Rattle.marking.proofs.TallyLaws.{gate_count, Adding}
use Rattle.marking.proofs.counts.count_gates.Given as goal

abbrev pub invariant-loop-i : goal.invariant-loop-i
invariant-loop-i l =
    let n = l.circuit.lines in
    let gs = gates_of l.circuit.gates.now in
    let class = gate_class_number l.class in
    Adding (gate_count n gs class l.marks) (length (keep (gate_marked l.marks) (class_faults n gs class))) (length gs) l.sum l.i
