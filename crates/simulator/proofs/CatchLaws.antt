-- The four catch conditions, line by line: when the output of the circuit with a fault in it differs.
use Prim.Native.Nat.{ℕ, ◌-◌, ◌≤◌}
use mathlib.Core.Path.{◌≡◌, sym, ◌∙◌}
use mathlib.Core.Logic.{◌↔◌, ◌≢◌}
use mathlib.Core.Bool.{Bool, true, false, ◌&&◌}
use mathlib.Core.List.{List}
use lib.ListN.{length}
use lib.Dec.{eqb}
use borrow.Author.Tests.{eq-eqb, eqb-true}
use Rattle.basics.proofs.Tests.{not_eqb_iff, and-true, and_both}
use Rattle.words.specs.Word.{bit}
use Rattle.circuit.specs.Gates.{gate_at}
use Rattle.circuit.specs.Controls.{is_control, less_control}
use Rattle.circuit.specs.Runs.{fires, run, forward}
use Rattle.circuit.specs.Sound.{AllOk}
use Rattle.circuit.specs.declared.Gate.{Gate}
use Rattle.circuit.proofs.ControlLaws.{fires_iff, less_fires_iff}
use Rattle.simulator.specs.Faulty.{faulty, caught}
use Rattle.faults.specs.Stuck.{StuckOk}
use Rattle.faults.specs.declared.Fault.{Fault}
use Rattle.simulator.proofs.FaultyLaws.{caught_iff, stuck_caught, missing_gate_caught, missing_control_caught, extra_control_caught}

-- the outputs differ where a test passes that is equal to `caught`
differ_iff : (gs : List Gate) (f : Fault) (x : ℕ) {Q : Type 0} (b : Bool) → caught gs f x ≡ b → (b ≡ true) ↔ Q → (faulty gs f x ≢ run gs x) ↔ Q
differ_iff gs f x b e q = (λ d. q.0 (sym e ∙ (caught_iff gs f x).1 d), λ h. (caught_iff gs f x).0 (e ∙ q.1 h))

-- a line is 0 and a gate fires
zero-and-fires : (s c : ℕ) (g : Gate) {Q : Type 0} → (fires g s ≡ true) ↔ Q → ((eqb (bit s c) 0 && fires g s) ≡ true) ↔ ((bit s c ≡ 0) × Q)
zero-and-fires s c g q = (
  λ t. let both = and_both (eqb (bit s c) 0) (fires g s) t in (eqb-true (bit s c) 0 both.0, q.0 both.1),
  λ h. and-true (eq-eqb (bit s c) 0 h.0) (q.1 h.1),
)

module _ (n : ℕ) (gs : List Gate) (ok : AllOk n gs) (f : Fault) (x : ℕ) where
  -- stuck-at: exactly when the good value there is not the fault's
  pub stuck_differs : StuckOk n (length gs) f → (faulty gs f x ≢ run gs x) ↔ (bit (forward gs f.place x) f.line ≢ f.value)
  stuck_differs k = differ_iff gs f x _ (stuck_caught n gs ok f k x) (not_eqb_iff (bit (forward gs f.place x) f.line) f.value)

  -- missing gate: exactly when all its controls are 1 at the level it reads
  pub missing_gate_differs : 1 ≤ f.place → f.place ≤ length gs → f.class ≡ 2
      → (faulty gs f x ≢ run gs x) ↔ ((j : ℕ) → is_control (gate_at gs f.place) j ≡ true → bit (forward gs (f.place - 1) x) j ≡ 1)
  missing_gate_differs lo hi e =
      differ_iff gs f x _ (missing_gate_caught n gs ok f lo hi x e) (fires_iff (gate_at gs f.place) (forward gs (f.place - 1) x))

  -- missing control: exactly when it is 0 and all other controls are 1
  pub missing_control_differs : 1 ≤ f.place → f.place ≤ length gs → f.class ≡ 3 → is_control (gate_at gs f.place) f.line ≡ true
      → (faulty gs f x ≢ run gs x)
      ↔ ((bit (forward gs (f.place - 1) x) f.line ≡ 0)
      × ((j : ℕ) → f.line ≢ j → is_control (gate_at gs f.place) j ≡ true → bit (forward gs (f.place - 1) x) j ≡ 1))
  missing_control_differs lo hi e c =
      let s : ℕ = forward gs (f.place - 1) x in
      differ_iff gs f x _ (missing_control_caught n gs ok f lo hi x e c)
      (zero-and-fires s f.line (less_control f.line (gate_at gs f.place)) (less_fires_iff (gate_at gs f.place) f.line s))

  -- extra control: exactly when it is 0 and all controls are 1
  pub extra_control_differs : 1 ≤ f.place → f.place ≤ length gs → f.class ≡ 4 → is_control (gate_at gs f.place) f.line ≡ false
      → (faulty gs f x ≢ run gs x)
      ↔ ((bit (forward gs (f.place - 1) x) f.line ≡ 0)
      × ((j : ℕ) → is_control (gate_at gs f.place) j ≡ true → bit (forward gs (f.place - 1) x) j ≡ 1))
  extra_control_differs lo hi e c =
      let s : ℕ = forward gs (f.place - 1) x in
      differ_iff gs f x _ (extra_control_caught n gs ok f lo hi x e c)
      (zero-and-fires s f.line (gate_at gs f.place) (fires_iff (gate_at gs f.place) s))
