-- `multiple_faults::checked::Multiple::force_level` meets its contract: each turn forces what one entry asks, and the entries that are left ask the
-- rest. Assumes nothing.
use Rattle.std.proofs.Common.{◌≡◌, drop}
use Rattle.faults.specs.Records.{faults_of}
use Rattle.simulator.specs.Faulty.{force_at}
use Rattle.multiple_faults.proofs.checked.Multiple.force_level.Given as goal

abbrev pub invariant-loop-i : goal.invariant-loop-i
invariant-loop-i l =
    force_at (faults_of l.self.entries.now) l.level.0 l.state ≡ force_at (drop l.i (faults_of l.self.entries.now)) l.level.0 l.now
