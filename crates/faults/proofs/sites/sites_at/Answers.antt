-- `faults::sites::sites_at` meets its contract: all lines are sites at the input, and at any other level those that its gate touches. Assumes
-- nothing.
use Rattle.std.proofs.Common.{◌≡◌, sym, ap, ap₂, ◌∙◌, arith}
use Rattle.words.specs.WordOf.{word_of}
use Rattle.circuit.specs.Gates.{gates_of, gate_at}
use Rattle.circuit.specs.Controls.{touches}
use Rattle.faults.specs.Sites.{sites}
use Rattle.faults.proofs.SiteLaws.{sites_input, sites-gate}
use Rattle.faults.proofs.sites.sites_at.Goals as goal

pub returns-then-gates_before-eq0 : goal.returns-then-gates_before-eq0
returns-then-gates_before-eq0 c =
    let circuit = c.args.circuit.now in
    let gs = gates_of circuit.gates.now in
    let input : c.args.level.0 ≡ 0 = omega arith in
    c.all_ones.ensures ∙ sym (ap (sites circuit.lines gs) input ∙ sites_input circuit.lines gs)

pub returns : goal.returns
returns c =
    let circuit = c.args.circuit.now in
    let gs = gates_of circuit.gates.now in
    let made = c.own_gate.ensures.1 ∙ ap (gate_at gs) c.gate_making.ensures in
    c.touched_lines.ensures ∙ ap₂ (λ n g. word_of n (touches g)) c.own_gate.ensures.0 made ∙ sym (sites-gate circuit.lines gs c.args.level.0 (omega arith))
