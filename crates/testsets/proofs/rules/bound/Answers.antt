-- `testsets::rules::bound` meets its contract: a circuit has a site at least, and the powers of 2 around their number are those of the logarithm.
-- Assumes nothing.
use Rattle.std.proofs.Common.{arith}
use Rattle.faults.proofs.SiteCount.{site_count-some}
use Rattle.testsets.specs.Sets.{bound}
use Rattle.testsets.proofs.Log2Laws.{log2_is}
use Rattle.testsets.proofs.rules.bound.Goals as goal

pub ilog2-requires : goal.ilog2-requires
ilog2-requires c =
    let circuit = c.args.circuit.now in
    omega (arith, c.site_count.ensures, site_count-some circuit.lines circuit.gates.now circuit.sound)

pub returns : goal.returns
unfolding bound
returns c =
    let log = log2_is c.site_count.result c.ilog2.result c.ilog2.ensures.power_le c.ilog2.ensures.next_power_gt in
    rw (log, c.site_count.ensures)
