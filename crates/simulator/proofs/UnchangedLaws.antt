-- The catch conditions of control faults for every line, also one whose fault leaves the gate as it is.
use Prim.Native.Nat.{ℕ, ◌-◌, ◌≤◌}
use mathlib.Core.Path.{◌≡◌, ◌∙◌}
use mathlib.Core.Bool.{◌&&◌}
use mathlib.Core.List.{List}
use lib.ListN.{length}
use lib.Dec.{eqb}
use Rattle.words.specs.Word.{bit}
use Rattle.circuit.specs.Gates.{gate_at}
use Rattle.circuit.specs.Controls.{less_control, more_control, stops}
use Rattle.circuit.specs.Runs.{fires, forward}
use Rattle.circuit.specs.Sound.{AllOk}
use Rattle.circuit.specs.declared.Gate.{Gate}
use Rattle.circuit.proofs.StopLaws.{less_differs, more_differs}
use Rattle.faults.specs.declared.Fault.{Fault}
use Rattle.simulator.specs.Faulty.{caught}
use Rattle.simulator.proofs.FaultyLaws.{faulty_missing_control, faulty_extra_control, changed-caught}

module _ (n : ℕ) (gs : List Gate) (ok : AllOk n gs) (f : Fault) (lo : 1 ≤ f.place) (hi : f.place ≤ length gs) (x : ℕ) where
  -- a missing control is caught where it alone stops the gate
  pub missing_stops : f.class ≡ 3 → caught gs f x ≡ stops (gate_at gs f.place) (forward gs (f.place - 1) x) f.line
  missing_stops e =
      changed-caught n gs ok f lo hi x (less_control f.line) (faulty_missing_control gs f x e)
      ∙ less_differs (gate_at gs f.place) f.line (forward gs (f.place - 1) x)

  -- an extra control is caught where it is 0 and the gate fires
  pub extra_caught : f.class ≡ 4
      → caught gs f x ≡ (eqb (bit (forward gs (f.place - 1) x) f.line) 0 && fires (gate_at gs f.place) (forward gs (f.place - 1) x))
  extra_caught e =
      changed-caught n gs ok f lo hi x (more_control f.line) (faulty_extra_control gs f x e)
      ∙ more_differs (gate_at gs f.place) f.line (forward gs (f.place - 1) x)
