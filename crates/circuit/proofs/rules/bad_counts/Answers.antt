-- `circuit::rules::bad_counts` meets its contract: two tests, either of which passes. Assumes nothing.
use borrow.Author.Tests.{lt-ltb, le-ltb}
use Rattle.circuit.specs.Limits.{most_gates}
use Rattle.circuit.specs.Rules.{bad_counts}
use Rattle.circuit.proofs.rules.bad_counts.Goals as goal

pub returns-then-gates-gt-MOST_GATES : goal.returns-then-gates-gt-MOST_GATES
unfolding bad_counts
returns-then-gates-gt-MOST_GATES c = let a = c.args in rw (lt-ltb most_gates a.gates c.if-gates-gt-MOST_GATES.true)

pub returns-else-gates-gt-MOST_GATES : goal.returns-else-gates-gt-MOST_GATES
unfolding bad_counts
returns-else-gates-gt-MOST_GATES c = let a = c.args in rw (le-ltb most_gates a.gates c.if-gates-gt-MOST_GATES.false)
