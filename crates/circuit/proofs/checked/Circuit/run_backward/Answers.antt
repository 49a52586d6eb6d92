-- `circuit::checked::Circuit::run_backward` meets its contract: each turn undoes the last gate of what is left, so the run back is the same from
-- there. Assumes nothing.
use Rattle.std.proofs.Common.{arith, ap, sym, ◌∙◌, ◌≡◌, ◌+◌, ◌-◌}
use Rattle.circuit.specs.Gates.{gates_of}
use Rattle.circuit.specs.Runs.{backward, step}
use Rattle.circuit.proofs.GateLaws.{gate_entry}
use Rattle.circuit.proofs.RuleLaws.{target_fits}
use Rattle.circuit.proofs.RunLaws.{backward_none, backward_less}
use Rattle.circuit.proofs.checked.Circuit.run_backward.Goals as goal

pub loop-taken-init : goal.loop-taken-init
loop-taken-init c =
    let a = c.args in
    let whole : a.level.0 ≡ a.level.0 - 0 = omega arith in
    ap (λ i. backward (gates_of a.self.now.gates.now) i a.state) whole

pub step-now-requires : goal.step-now-requires
step-now-requires c =
    let circuit = c.args.self.now in
    rw c.gate.ensures (target_fits circuit.lines circuit.gates.now _ circuit.sound (omega arith) (omega arith))

pub loop-taken-preserved : goal.loop-taken-preserved
loop-taken-preserved c =
    let a = c.args in
    let gates = gates_of a.self.now.gates.now in
    let i = a.level.0 - (c.loop-taken.taken + 1) in
    let next : a.level.0 - c.loop-taken.taken ≡ i + 1 = omega arith in
    let gate = sym (gate_entry gates i c.gate_back.result.0 (omega arith)) ∙ sym c.gate.ensures in
    let stepped = ap (λ g. step g c.loop-taken.now) gate ∙ sym c.step-now.ensures in
    c.loop-taken.invariant ∙ ap (λ k. backward gates k c.loop-taken.now) next
    ∙ backward_less gates i c.loop-taken.now (omega arith) ∙ ap (backward gates i) stepped

pub returns : goal.returns
returns c =
    let gates = gates_of c.args.self.now.gates.now in
    let none : c.args.level.0 - c.loop-taken.taken ≡ 0 = omega arith in
    sym (c.loop-taken.invariant ∙ ap (λ k. backward gates k c.loop-taken.now) none ∙ backward_none gates c.loop-taken.now)
