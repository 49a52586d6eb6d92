-- `marking::counts::total_levels` meets its contract: two faults for each site. Assumes nothing.
use Rattle.std.proofs.Common.{sym, ap, ◌∙◌, arith, ◌*◌}
use Rattle.circuit.specs.Gates.{gates_of}
use Rattle.faults.proofs.SiteCount.{stuck_sites, site_count-le}
use Rattle.marking.proofs.counts.total_levels.Goals as goal

pub overflow_mul-result : goal.overflow_mul-result
overflow_mul-result c =
    let circuit = c.args.circuit.now in
    omega (arith, c.site_count.ensures, site_count-le circuit.lines circuit.gates.now circuit.sound)

pub returns : goal.returns
returns c =
    let circuit = c.args.circuit.now in
    ap (λ sites. 2 * sites) c.site_count.ensures ∙ sym (stuck_sites circuit.lines (gates_of circuit.gates.now))
