-- `judge::coverage::Coverage::empty` meets its contract: every word is 0. Assumes nothing.
use Rattle.judge.specs.Coverages.{empty_coverage}
use Rattle.judge.proofs.coverage.Coverage.empty.Goals as goal

pub returns : goal.returns
unfolding empty_coverage
returns c = rw c.none.ensures
