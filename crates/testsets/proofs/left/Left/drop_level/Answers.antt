-- `testsets::left::Left::drop_level` meets its contract: what is left of a word is still within the sites. Assumes nothing.
use Rattle.testsets.proofs.LeftLaws.{within_less}
use Rattle.testsets.proofs.left.Left.drop_level.Goals as goal

pub invariant_of-self : goal.invariant_of-self
invariant_of-self c = record { within = within_less _ _ _ _ _ _ _ c.args.self.now.within c.lacking.ensures }
