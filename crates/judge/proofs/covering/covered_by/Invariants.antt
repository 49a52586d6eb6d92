-- `judge::covering::covered_by` meets its contract: each turn adds one vector, of which none is refused. Assumes nothing.
use Rattle.std.proofs.Common.{◌≡◌, fold, take}
use Rattle.circuit.specs.Gates.{gates_of}
use Rattle.judge.specs.Coverages.{empty_coverage, with_vector}
use Rattle.judge.proofs.covering.covered_by.Given as goal

abbrev pub invariant-loop-vector : goal.invariant-loop-vector
invariant-loop-vector l =
    l.coverage ≡ fold (λ now x. with_vector now l.lines (gates_of l.gates) x) empty_coverage (take l.vector-index l.vectors)
