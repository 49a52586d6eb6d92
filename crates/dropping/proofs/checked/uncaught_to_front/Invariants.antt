-- `dropping::checked::uncaught_to_front` meets its contract: before each turn the list is what stays so far, blank records,
-- and what is still to be seen. Assumes nothing.
use Rattle.circuit.specs.Checked.{gates_in}
use Rattle.dropping.proofs.DropLaws.{Going}
use Rattle.dropping.proofs.checked.uncaught_to_front.Given as goal

abbrev pub invariant-loop-i : goal.invariant-loop-i
invariant-loop-i g l =
    let records = g.E.Entry.records in
    Going (gates_in l.circuit) l.vector (records l.initial.list) (records l.list) l.left l.i
