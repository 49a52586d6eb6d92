-- `marking::marks::LevelMarks::mark` meets its contract: each turn marks one level and goes on to the next, and the last level is marked after
-- the loop. Assumes nothing.
use Rattle.marking.proofs.TurnLaws.{LevelsTo}
use Rattle.marking.proofs.marks.LevelMarks.mark.Given as goal

abbrev pub invariant-loop-i : goal.invariant-loop-i
invariant-loop-i l = LevelsTo l.circuit.lines l.circuit.gates.now l.vector l.initial.self l.self l.state l.i
