-- `report::read_input` meets its contract: a read puts no more than there is room for behind what came before. The measure is the room that
-- is left, and a read that puts nothing ends the loop. What stands in front is what the input has given. Assumes nothing.
use Rattle.std.proofs.Common.{length, take, ◌-◌, ◌≤◌, ◌≡◌}
use Rattle.std.specs.Io.KnownBytes.{Consumes}
use Rattle.report.proofs.read_input.Given as goal

abbrev pub invariant-loop-done : goal.invariant-loop-done
invariant-loop-done g l = record {
  within : l.done ≤ length l.job;
  same_room : length l.job ≡ length l.fn.job;
  given : Consumes (g.R.Read.remaining l.fn.input) (g.R.Read.remaining l.input) (take l.done l.job);
}

abbrev pub decreases-loop-done : goal.decreases-loop-done
decreases-loop-done g l = length l.job - l.done
