-- `real_import::lines::read_gates` meets its contract: each turn reads one line, and what the lines before add is held. Assumes nothing.
use Rattle.std.proofs.Common.{length}
use Rattle.real_gates.specs.Names.{names_in}
use Rattle.real_import.proofs.LineLaws.{Reads}
use Rattle.real_import.proofs.lines.read_gates.Given as goal

abbrev pub invariant-loop-here : goal.invariant-loop-here
invariant-loop-here l = Reads (names_in l.names) l.text l.first l.left l.line l.due l.own

abbrev pub decreases-loop-here : goal.decreases-loop-here
decreases-loop-here l = length l.left
