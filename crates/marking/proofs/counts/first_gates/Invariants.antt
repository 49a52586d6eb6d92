-- `marking::counts::first_gates` meets its contract: each turn passes a gate at which no mark is lacking,
-- and the lowest line that lacks one is the first fault. Assumes nothing.
use Rattle.std.proofs.Common.{◌≡◌, ◌+◌, ◌-◌, length}
use Rattle.basics.specs.Lists.{up_from, keep, each}
use Rattle.circuit.specs.Gates.{gates_of}
use Rattle.faults.specs.Classes.{class_faults}
use Rattle.faults.specs.Kinds.{gate_class_number}
use Rattle.marking.proofs.TallyLaws.{gate_place}
use Rattle.marking.proofs.FirstLaws.{gate_left}
use Rattle.marking.proofs.counts.first_gates.Given as goal

abbrev pub invariant-loop-i : goal.invariant-loop-i
invariant-loop-i l =
    let n = l.circuit.lines in
    let gs = gates_of l.circuit.gates.now in
    let class = gate_class_number l.class in
    keep (gate_left l.marks) (class_faults n gs class)
    ≡ keep (gate_left l.marks) (each (gate_place n gs class) (up_from (l.i + 1) (length gs + 1 - (l.i + 1))))
