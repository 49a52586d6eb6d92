-- `multiple_faults::rules::check_records` meets its contract: each turn passes an entry, so that the first bad record of what is left is that of the
-- whole. Assumes nothing.
use Rattle.std.proofs.Common.{◌≡◌, ◌+◌, ◌%◌, not, eqb, length, drop}
use Rattle.refusals.specs.Places.{first_bad_from}
use Rattle.circuit.specs.Gates.{gates_of}
use Rattle.faults.specs.Records.{faults_of}
use Rattle.multiple_faults.specs.Multiple.{bad_entry}
use Rattle.multiple_faults.specs.Rules.{first_bad_entry}
use Rattle.multiple_faults.proofs.rules.check_records.Given as goal

abbrev pub invariant-loop-i : goal.invariant-loop-i
invariant-loop-i l =
    first_bad_entry l.circuit.lines l.circuit.gates.now l.entries
    ≡ first_bad_from (bad_entry l.circuit.lines (gates_of l.circuit.gates.now)) (not (eqb (length l.entries % 4) 0)) (l.i + 1)
    (drop l.i (faults_of l.entries))
