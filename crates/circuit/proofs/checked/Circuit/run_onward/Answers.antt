-- `circuit::checked::Circuit::run_onward` meets its contract: each turn takes the state one level up, by the gate that reads the level reached.
-- Assumes nothing.
use Rattle.std.proofs.Common.{arith, ap₂, sym, ◌∙◌, rules}
use Rattle.circuit.specs.Gates.{gates_of}
use Rattle.circuit.specs.Runs.{step}
use Rattle.circuit.proofs.GateLaws.{gate_entry}
use Rattle.circuit.proofs.RuleLaws.{target_fits}
use Rattle.circuit.proofs.RunLaws.{onward_none, onward-more}
use Rattle.circuit.proofs.checked.Circuit.run_onward.Goals as goal

pub loop-i-init : goal.loop-i-init
loop-i-init c = rw c.gates_before-i.ensures (sym (onward_none _ _ _))

pub step-now-requires : goal.step-now-requires
step-now-requires c =
    let circuit = c.args.self.now in
    rw c.gate.ensures (target_fits circuit.lines circuit.gates.now _ circuit.sound (omega arith) (omega arith))

pub loop-i-preserved : goal.loop-i-preserved
loop-i-preserved c =
    let a = c.args in
    let gates = gates_of a.self.now.gates.now in
    let gate = c.gate.ensures ∙ gate_entry gates c.loop-i.i c.gate_after.result.0 (omega arith) in
    c.step-now.ensures ∙ ap₂ step gate c.loop-i.invariant ∙ sym (onward-more gates a.from.0 c.loop-i.i a.state (omega arith) (omega arith))

pub returns : goal.returns
returns c = search rules
