-- `marking::marks::mark_gates` meets its contract: each turn marks the word of one gate and goes on to the level that the gate makes.
-- Assumes nothing.
use Rattle.faults.specs.Kinds.{gate_class_number}
use Rattle.marking.proofs.TurnLaws.{GatesTo}
use Rattle.marking.proofs.marks.mark_gates.Given as goal

abbrev pub invariant-loop-i : goal.invariant-loop-i
invariant-loop-i l = GatesTo l.circuit.lines l.circuit.gates.now (gate_class_number l.class) l.vector l.initial.marks l.marks l.state l.i
