-- `dropping::checked::uncaught_to_front` meets its contract: before each turn the list is what stays so far, blank records,
-- and what is still to be seen. Assumes nothing.
use Rattle.std.proofs.Common.{◌<◌, ap, ◌∙◌, arith, rules, length, set}
use Rattle.std.proofs.lemmas.List.{length-set}
use Rattle.dropping.proofs.DropLaws.{blank_is, start, below, long, fault_here, caught_turn, stays_turn, done_left, done_list}
use Rattle.dropping.proofs.checked.uncaught_to_front.Goals as goal
use Rattle.dropping.proofs.checked.uncaught_to_front.Goals.{then-stays, else-stays}

pub loop-i-init : goal.loop-i-init
loop-i-init g c = start _ _ _

pub read-fault-requires : goal.read-fault-requires
read-fault-requires g c = omega (arith, long c.loop-i.invariant (omega arith))

pub write-requires : goal.write-requires
write-requires g c = omega (arith, below c.loop-i.invariant, long c.loop-i.invariant (omega arith))

pub invariant_of-known : goal.invariant_of-known
invariant_of-known g c = record { known = fault_here c.loop-i.invariant (omega arith) c.args.circuit.now.lines c.read-fault.ensures c.requires }

pub write-requires-then-stays : goal.write-requires-then-stays
write-requires-then-stays g c =
    let blanked = ap length c.write.ensures.written ∙ length-set _ _ _ in
    omega (arith, blanked, below c.loop-i.invariant, long c.loop-i.invariant (omega arith))

pub overflow_add-left : goal.overflow_add-left
overflow_add-left g c = let less = below c.loop-i.invariant in search (rules, less)

pub loop-i-preserved : goal.loop-i-preserved
loop-i-preserved g c =
    let less : c.loop-i.i < length (g.E.Entry.records c.args.list.now) = omega arith in
    let blanked = c.write.ensures.written ∙ ap (set (g.E.Entry.records c.loop-i.list) c.loop-i.i) (blank_is c.default.result c.default.ensures) in
    elim c.if-stays.branch [
      | then-stays w ↦ stays_turn c.loop-i.invariant less c.read-fault.ensures (cc)
          (ap g.E.Entry.records w.list-is ∙ w.write-then-stays.ensures.written ∙ ap (λ l. set l c.loop-i.left c.read-fault.result) blanked)
          w.left-is
      | else-stays w ↦ caught_turn c.loop-i.invariant less c.read-fault.ensures (cc)
          (ap g.E.Entry.records w.list-is ∙ blanked) w.left-is
    ]

pub returns-clause-left : goal.returns-clause-left
returns-clause-left g c = done_left c.loop-i.invariant (omega arith)

pub returns-clause-list : goal.returns-clause-list
returns-clause-list g c = done_list c.loop-i.invariant (omega arith)
