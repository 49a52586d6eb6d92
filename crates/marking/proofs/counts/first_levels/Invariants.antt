-- `marking::counts::first_levels` meets its contract: each turn passes a level at which no mark is lacking,
-- and the lowest line that lacks one is the first fault. Assumes nothing.
use Rattle.std.proofs.Common.{◌≡◌, ◌+◌, ◌-◌, length}
use Rattle.basics.specs.Lists.{up_from, keep, each}
use Rattle.circuit.specs.Gates.{gates_of}
use Rattle.faults.specs.Classes.{stuck_faults}
use Rattle.marking.proofs.FirstLaws.{level_left, level_place}
use Rattle.marking.proofs.counts.first_levels.Given as goal

abbrev pub invariant-loop-i : goal.invariant-loop-i
invariant-loop-i l =
    let n = l.circuit.lines in
    let gs = gates_of l.circuit.gates.now in
    keep (level_left l.marks.at_0 l.marks.at_1) (stuck_faults n gs)
    ≡ keep (level_left l.marks.at_0 l.marks.at_1) (each (level_place n gs) (up_from l.i (length gs + 1 - l.i)))
