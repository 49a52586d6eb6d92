-- What stands in the place of a gate in a circuit with a fault of a gate class: the output, and when a vector catches the fault.
use Rattle.std.specs.Prelude.{ℕ, ◌≡◌, ◌≢◌, ◌≤◌, List, length, not, eqb}
use Rattle.std.proofs.Common.{◌∙◌, arith}
use Rattle.circuit.specs.Gates.{gate_at}
use Rattle.circuit.specs.Controls.{less_control, more_control}
use Rattle.circuit.specs.Runs.{step}
use Rattle.circuit.specs.Sound.{AllOk}
use Rattle.circuit.specs.declared.Gate.{Gate}
use Rattle.faults.specs.Kinds.{gate_class_number}
use Rattle.faults.specs.declared.Fault.{Fault}
use Rattle.faults.specs.declared.classes.GateClass.{GateClass}
use Rattle.faults.specs.declared.classes.GateClass.TheVariants.{MissingGate, MissingControl, ExtraControl}
use Rattle.simulator.specs.Faulty.{faulty, caught}
use Rattle.simulator.specs.Shown.{state_read, output_from}
use Rattle.simulator.specs.Others.{other_gate, step_of}
use Rattle.simulator.proofs.FaultyLaws.{faulty_missing_gate, faulty_missing_control, faulty_extra_control, run-without, run-changed}
use Rattle.simulator.proofs.FaultyLaws.{without-caught, changed-caught}

-- a fault of a gate class is of another class than a stuck line
pub at_gate : (f : Fault) (class : GateClass) → f.class ≡ gate_class_number class → f.class ≢ 1
at_gate f MissingGate e = λ one. omega arith
at_gate f MissingControl e = λ one. omega arith
at_gate f ExtraControl e = λ one. omega arith

module _ (gs : List Gate) (f : Fault) (lo : 1 ≤ f.place) (hi : f.place ≤ length gs) (x : ℕ) where
  -- the output is the one that the state made in the gate's place leads to
  pub other_faulty : (class : GateClass) → f.class ≡ gate_class_number class
      → faulty gs f x ≡ output_from gs f (step_of (other_gate class f.line (gate_at gs f.place)) (state_read gs f x))
  other_faulty MissingGate e = faulty_missing_gate gs f x e ∙ run-without gs f.place x
  other_faulty MissingControl e = faulty_missing_control gs f x e ∙ run-changed (less_control f.line) gs f.place x lo hi
  other_faulty ExtraControl e = faulty_extra_control gs f x e ∙ run-changed (more_control f.line) gs f.place x lo hi

  -- and the fault is caught where that is not the state that the gate makes
  pub other_caught : (n : ℕ) → AllOk n gs → (class : GateClass) → f.class ≡ gate_class_number class
      → caught gs f x
      ≡ not (eqb (step_of (other_gate class f.line (gate_at gs f.place)) (state_read gs f x)) (step (gate_at gs f.place) (state_read gs f x)))
  other_caught n ok MissingGate e = without-caught n gs ok f lo hi x e
  other_caught n ok MissingControl e = changed-caught n gs ok f lo hi x (less_control f.line) (faulty_missing_control gs f x e)
  other_caught n ok ExtraControl e = changed-caught n gs ok f lo hi x (more_control f.line) (faulty_extra_control gs f x e)
