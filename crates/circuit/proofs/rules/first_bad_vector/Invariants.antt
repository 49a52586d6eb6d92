-- `circuit::rules::first_bad_vector` meets its contract: each turn passes a vector that fits, so that the first bad one of what is left is that of the
-- whole. Assumes nothing.
use Rattle.std.proofs.Common.{◌≡◌, ◌+◌, ◌^◌, false, leb, drop}
use Rattle.refusals.specs.Places.{first_bad_from}
use Rattle.circuit.specs.Rules.{first_bad_vector}
use Rattle.circuit.proofs.rules.first_bad_vector.Given as goal

abbrev pub invariant-loop-i : goal.invariant-loop-i
invariant-loop-i l = first_bad_vector l.lines l.vectors ≡ first_bad_from (leb (2 ^ l.lines)) false (l.i + 1) (drop l.i l.vectors)
