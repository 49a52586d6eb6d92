-- `faults::sites::site_count` meets its contract: each turn adds the sites of one level. Assumes nothing.
use Rattle.std.proofs.Common.{◌≡◌, ◌+◌, ◌*◌, ◌≤◌}
use Rattle.circuit.specs.Limits.{most_lines}
use Rattle.circuit.specs.Gates.{gates_of}
use Rattle.faults.specs.Sites.{site_count}
use Rattle.faults.proofs.SiteCount.{sites_from}
use Rattle.faults.proofs.sites.site_count.Given as goal

abbrev pub invariant-loop-i : goal.invariant-loop-i
invariant-loop-i l =
    let n = l.circuit.lines in
    let gs = gates_of l.circuit.gates.now in
    (site_count n gs ≡ l.sum + sites_from n gs l.i) × (l.sum ≤ most_lines * l.i)
