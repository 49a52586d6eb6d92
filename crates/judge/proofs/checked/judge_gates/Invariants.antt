-- `judge::checked::judge_gates` meets its contract: each turn adds the marks of one vector, and the marks of all say what some vector catches.
-- Assumes nothing.
use Rattle.std.proofs.Common.{◌≡◌, fold, take, replicate}
use Rattle.circuit.specs.Gates.{gates_of}
use Rattle.circuit.specs.Limits.{most_gates}
use Rattle.faults.specs.Kinds.{gate_class_number}
use Rattle.marking.specs.Marks.{marked, gate_marks}
use Rattle.judge.proofs.checked.judge_gates.Given as goal

abbrev pub invariant-loop-input : goal.invariant-loop-input
invariant-loop-input l =
    let marks = gate_marks l.circuit.lines (gates_of l.circuit.gates.now) (gate_class_number l.class) in
    l.words ≡ fold (λ now x. marked now (marks x)) (replicate most_gates 0) (take l.input-index l.vectors)
