-- `real_import::import` meets its contract: it lends two lists of its own, the second as long as the gates of a circuit may be. Assumes nothing.
use Rattle.real_import.specs.Rules.{import_rows}
use Rattle.real_import.proofs.import.Goals as goal

pub returns : goal.returns
unfolding import_rows
returns c = let a = c.import_by.ensures in (a.tells, a.leaves)
