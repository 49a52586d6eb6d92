-- `judge::checked::judge_levels` meets its contract: each turn adds the marks of one vector, and the marks of all say what some vector catches.
-- Assumes nothing.
use Rattle.std.proofs.Common.{◌≡◌, fold, take}
use Rattle.circuit.specs.Gates.{gates_of}
use Rattle.marking.specs.Levels.{no_levels, with_levels}
use Rattle.judge.proofs.checked.judge_levels.Given as goal

abbrev pub invariant-loop-vector : goal.invariant-loop-vector
invariant-loop-vector l =
    l.marks ≡ fold (λ now x. with_levels now l.circuit.lines (gates_of l.circuit.gates.now) x) no_levels (take l.vector-index l.vectors)
