-- `circuit::rules::bad_lines` meets its contract: two tests, either of which passes. Assumes nothing.
use borrow.Author.Tests.{lt-ltb, le-ltb}
use Rattle.circuit.specs.Rules.{bad_lines}
use Rattle.circuit.proofs.rules.bad_lines.Goals as goal

pub returns-then-lines-lt1 : goal.returns-then-lines-lt1
unfolding bad_lines
returns-then-lines-lt1 c = let a = c.args in rw (lt-ltb a.lines 1 c.if-lines-lt1.true)

pub returns-else-lines-lt1 : goal.returns-else-lines-lt1
unfolding bad_lines
returns-else-lines-lt1 c = let a = c.args in rw (le-ltb a.lines 1 c.if-lines-lt1.false)
