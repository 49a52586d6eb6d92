-- `circuit::rules::first_bad_gate` meets its contract: each turn passes a good gate, so that the first bad one of what is left is that of the whole.
-- Assumes nothing.
use Rattle.std.proofs.Common.{◌≡◌, ◌+◌, ◌%◌, not, eqb, length, drop}
use Rattle.refusals.specs.Places.{first_bad_from}
use Rattle.circuit.specs.Gates.{gates_of}
use Rattle.circuit.specs.Rules.{bad_gate, first_bad_gate}
use Rattle.circuit.proofs.rules.first_bad_gate.Given as goal

abbrev pub invariant-loop-i : goal.invariant-loop-i
invariant-loop-i l =
    first_bad_gate l.lines l.gates ≡ first_bad_from (bad_gate l.lines) (not (eqb (length l.gates % 3) 0)) (l.i + 1) (drop l.i (gates_of l.gates))
