-- `dropping::rules::first_bad_record` meets its contract: each turn passes a fault, so that the first bad record of what is left is that of the whole.
-- Assumes nothing.
use Rattle.std.proofs.Common.{◌≡◌, ◌+◌, drop}
use Rattle.refusals.specs.Places.{first_bad, first_bad_from}
use Rattle.circuit.specs.Checked.{gates_in}
use Rattle.dropping.specs.Rules.{bad_record}
use Rattle.dropping.proofs.rules.first_bad_record.Given as goal

abbrev pub invariant-loop-i : goal.invariant-loop-i
invariant-loop-i g l =
    let bad = bad_record l.circuit.lines (gates_in l.circuit) in
    let over = g.E.Entry.is_over l.list in
    let fs = g.E.Entry.records l.list in
    first_bad bad over fs ≡ first_bad_from bad over (l.i + 1) (drop l.i fs)
