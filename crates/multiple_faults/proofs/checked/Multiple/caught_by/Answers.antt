-- `multiple_faults::checked::Multiple::caught_by` meets its contract: each turn forces the lines of the level reached in the faulty state alone, and
-- both states take the gate that reads it. Assumes nothing.
use Rattle.std.proofs.Common.{ℕ, ◌+◌, ◌≡◌, arith, refl, ap, ap₂, sym, ◌∙◌, List, length, drop}
use Rattle.circuit.specs.Gates.{gates_of}
use Rattle.circuit.specs.Runs.{step}
use Rattle.circuit.proofs.GateLaws.{gate_entry}
use Rattle.circuit.proofs.RuleLaws.{target_fits}
use Rattle.circuit.proofs.RunLaws.{forward_none, forward-all}
use Rattle.faults.specs.Records.{faults_of}
use Rattle.faults.specs.declared.Fault.{Fault}
use Rattle.simulator.specs.Faulty.{force_at, stuck_run}
use Rattle.multiple_faults.specs.Multiple.{caught_together}
use Rattle.multiple_faults.proofs.StuckLaws.{stuck_more, stuck_end, good_more}
use Rattle.multiple_faults.proofs.checked.Multiple.caught_by.Goals as goal

-- the same level forces the same lines
at_level : (fs : List Fault) (s : ℕ) {i k : ℕ} → i ≡ k → force_at fs i s ≡ force_at fs k s
at_level fs s e = ap (λ i. force_at fs i s) e

pub loop-i-init : goal.loop-i-init
loop-i-init c = record { good_so_far = sym (forward_none _ _); faulty_from_here = refl }

pub step-faulty-requires : goal.step-faulty-requires
step-faulty-requires c =
    let circuit = c.args.self.now.circuit in
    rw c.gate-gate.ensures (target_fits circuit.lines circuit.gates.now _ circuit.sound (omega arith) (omega arith))

pub step-good-requires : goal.step-good-requires
step-good-requires c =
    let circuit = c.args.self.now.circuit in
    rw c.gate-gate.ensures (target_fits circuit.lines circuit.gates.now _ circuit.sound (omega arith) (omega arith))

pub loop-i-preserved : goal.loop-i-preserved
loop-i-preserved c =
    let l = c.loop-i in
    let gs = gates_of c.args.self.now.circuit.gates.now in
    let fs = faults_of c.args.self.now.entries.now in
    let gate = c.gate-gate.ensures ∙ gate_entry gs l.i c.gate_after.result.0 (omega arith) in
    let forced = c.force_level.ensures ∙ at_level fs l.faulty c.level-level.ensures in
    record {
      good_so_far = c.step-good.ensures ∙ ap (λ g. step g l.good) gate ∙ good_more gs l.i c.args.vector l.good (omega arith) l.invariant.good_so_far;
      faulty_from_here = l.invariant.faulty_from_here ∙ stuck_more fs gs l.i l.faulty (omega arith)
          ∙ ap (stuck_run fs (l.i + 1) (drop (l.i + 1) gs)) (sym (c.step-faulty.ensures ∙ ap₂ step gate forced));
    }

pub returns : goal.returns
unfolding caught_together
returns c =
    let l = c.loop-i in
    let gs = gates_of c.args.self.now.circuit.gates.now in
    let fs = faults_of c.args.self.now.entries.now in
    let last : l.i ≡ length gs = omega arith in
    let good = rw last at l.invariant.good_so_far ∙ forward-all gs c.args.vector in
    let here : c.level.result.0 ≡ l.i = omega arith in
    let faulty = c.force_level-2.ensures ∙ at_level fs l.faulty here
    ∙ sym (l.invariant.faulty_from_here ∙ stuck_end fs gs l.i l.faulty (omega arith)) in
    rw (faulty, good)
