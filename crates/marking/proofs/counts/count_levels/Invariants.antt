-- `marking::counts::count_levels` meets its contract: each turn adds the ones of the sites that are marked, of each value. Assumes nothing.
use Rattle.std.proofs.Common.{◌+◌, length}
use Rattle.basics.specs.Lists.{keep}
use Rattle.circuit.specs.Gates.{gates_of}
use Rattle.faults.specs.Classes.{stuck_faults}
use Rattle.marking.specs.Marks.{level_marked}
use Rattle.marking.proofs.TallyLaws.{level_count, Adding}
use Rattle.marking.proofs.counts.count_levels.Given as goal

abbrev pub invariant-loop-i : goal.invariant-loop-i
invariant-loop-i l =
    let n = l.circuit.lines in
    let gs = gates_of l.circuit.gates.now in
    Adding (level_count n gs l.marks.at_0 l.marks.at_1) (length (keep (level_marked l.marks.at_0 l.marks.at_1) (stuck_faults n gs)))
    (length gs + 1) l.sum l.i
