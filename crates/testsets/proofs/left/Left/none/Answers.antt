-- `testsets::left::Left::none` meets its contract: a word of no lines has no other lines than sites, and no fault is left by it. Assumes nothing.
use Rattle.testsets.proofs.LeftLaws.{within_none, none_left}
use Rattle.testsets.proofs.left.Left.none.Goals as goal

pub invariant_of-result : goal.invariant_of-result
invariant_of-result c = record { within = within_none _ _ c.args.circuit.now.sound }

pub returns-clause-nothing_left : goal.returns-clause-nothing_left
returns-clause-nothing_left c = none_left _ _
