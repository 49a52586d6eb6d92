-- The condition of each class: what a vector must give at the fault's level for it to be told that it catches the fault.
use Prim.Native.Nat.{ℕ, ◌-◌, ◌≤◌}
use mathlib.Core.Path.{◌≡◌, sym, ◌∙◌, subst}
use mathlib.Core.Logic.Iff
use mathlib.Core.Logic.{◌↔◌, ◌≢◌, ◌⊎◌}
use mathlib.Core.Logic.◌⊎◌.{inl, inr}
use mathlib.Core.Bool.{true, true≢false}
use mathlib.Core.List.{List, [], ◌∷◌}
use native.Mathlib.Omega.{arith}
use lib.ListN.{take}
use Rattle.basics.specs.Lists.{All}
use Rattle.basics.proofs.All.{all_map}
use Rattle.words.specs.Word.{bit}
use Rattle.circuit.specs.Gates.{gate_at, no_gate}
use Rattle.circuit.specs.Controls.{is_control}
use Rattle.circuit.specs.Runs.{run, forward}
use Rattle.circuit.specs.Sound.{AllOk}
use Rattle.circuit.specs.declared.Gate.{Gate}
use Rattle.simulator.specs.Faulty.{faulty}
use Rattle.faults.specs.declared.Fault.{Fault}
use Rattle.simulator.proofs.FaultyLaws.{caught_iff}
use Rattle.simulator.proofs.CatchLaws.{stuck_differs, missing_gate_differs, missing_control_differs, extra_control_differs}
use Rattle.demands.proofs.Machine.{Control, AllControls, Level, gate, Caught, Missed, CaughtTogether, Has}
use Rattle.demands.proofs.MachineLaws.{control_iff, runs_is, circuit_ok}
use Rattle.demands.proofs.HasLaws.{has_line, has_value, has_gate, has_control, has_no_control}
use Rattle.demands.proofs.FaultyLaws.{caught_means, missed_means, together_means, missed_together_means}
use Rattle.demands.proofs.Catching.{TellsCaught, TellsCaughtTogether, Says}
use Rattle.demands.proofs.Catching.Says.{says_1, says_0}

-- 1 is told exactly if the condition of the class holds: of s, the state at the fault's level, or for a gate fault at the level that gate g reads
pub record Conditions (gs : List Gate) (f : Fault) (x : ℕ) (values : List ℕ) : Type 0 where
  -- stuck-at: the good value there is not the fault's
  pub stuck : f.class ≡ 1 → (s : ℕ) → Level gs f.place x s → (values ≡ 1 ∷ []) ↔ (bit s f.line ≢ f.value)
  -- missing gate: all controls are 1
  pub no_gate : f.class ≡ 2 → (s : ℕ) → Level gs (f.place - 1) x s → (values ≡ 1 ∷ []) ↔ AllControls (gate gs f.place) s
  -- missing control: it is 0, and all other controls are 1
  pub no_control : f.class ≡ 3 → (s : ℕ) → Level gs (f.place - 1) x s
      → (values ≡ 1 ∷ []) ↔ ((bit s f.line ≡ 0) × ((c : ℕ) → f.line ≢ c → Control (gate gs f.place) c → bit s c ≡ 1))
  -- extra control: it is 0, and all controls are 1
  pub more_control : f.class ≡ 4 → (s : ℕ) → Level gs (f.place - 1) x s
      → (values ≡ 1 ∷ []) ↔ ((bit s f.line ≡ 0) × AllControls (gate gs f.place) s)

-- ---- 1 is told exactly if the fault is caught

told_1 : {First Second : Type 0} {values : List ℕ} → Says First Second values → (First → Second → ⊥) → (values ≡ 1 ∷ []) ↔ First
told_1 (says_1 h e) apart = (λ t. h, λ k. e)
told_1 (says_0 h e) apart = (λ t. let z : ◌≡◌ {A = ℕ} 0 1 = cc in absurd (omega arith), λ k. absurd (apart k h))

-- nothing but 1 and 0 is told
pub one_or_zero : {First Second : Type 0} {values : List ℕ} → Says First Second values → (values ≡ 1 ∷ []) ⊎ (values ≡ 0 ∷ [])
one_or_zero (says_1 h e) = inl e
one_or_zero (says_0 h e) = inr e

-- never both
pub not_both : (n : ℕ) (gs : List Gate) (f : Fault) → Has n gs f → (x : ℕ) → Caught gs f x → Missed gs f x → ⊥
not_both n gs f h x c m = true≢false (sym ((caught_means n gs f h x).1 c) ∙ (missed_means n gs f h x).1 m)

module _ {n : ℕ} {words : List ℕ} {x : ℕ} {f : Fault} {values : List ℕ} (w : TellsCaught n words x f values) where
  abbrev gs : List Gate
  gs = w.gs

  pub told_caught_lem : (values ≡ 1 ∷ []) ↔ Caught gs f x
  told_caught_lem = told_1 w.says (not_both n gs f w.fault x)

  -- and so by any condition that is equal to other outputs
  by_outputs : {Q : Type 0} → (faulty gs f x ≢ run gs x) ↔ Q → (values ≡ 1 ∷ []) ↔ Q
  by_outputs q = (
    λ t. q.0 ((caught_iff gs f x).0 ((caught_means n gs f w.fault x).1 (told_caught_lem.0 t))),
    λ h. told_caught_lem.1 ((caught_means n gs f w.fault x).0 ((caught_iff gs f x).1 (q.1 h))),
  )

  ok : AllOk n gs
  ok = circuit_ok n words gs w.circuit

  there : (i s : ℕ) → Level gs i x s → forward gs i x ≡ s
  unfolding forward
  there i s l = sym (runs_is (take i gs) x s l)

  -- conditions over controls, in either spelling
  module _ (g : Gate) (s : ℕ) where
    spelled : (Some : ℕ → Type 0) → ((c : ℕ) → Some c → is_control g c ≡ true → bit s c ≡ 1) ↔ ((c : ℕ) → Some c → Control g c → bit s c ≡ 1)
    spelled Some = (λ h c k o. h c k ((control_iff g c).1 o), λ h c k o. h c k ((control_iff g c).0 o))

    spelled_all : ((c : ℕ) → is_control g c ≡ true → bit s c ≡ 1) ↔ AllControls g s
    spelled_all = (λ h c o. h c ((control_iff g c).1 o), λ h c o. h c ((control_iff g c).0 o))

  pub conditions : Conditions gs f x values
  unfolding gate_at no_gate
  conditions =
      let p : ℕ = f.place in
      let Differ : Type 0 = faulty gs f x ≢ run gs x in
      record {
        stuck = λ e s l.
            by_outputs (subst (λ t. Differ ↔ (bit t f.line ≢ f.value)) (there p s l) (stuck_differs n gs ok f x (has_line n gs f w.fault e)));
        no_gate = λ e s l.
            let q = has_gate n gs f w.fault (λ z. omega arith) in
            by_outputs (Iff.trans (subst (λ t. Differ ↔ ((j : ℕ) → is_control (gate_at gs p) j ≡ true → bit t j ≡ 1)) (there (p - 1) s l)
            (missing_gate_differs n gs ok f x q.0 q.1 e)) (spelled_all (gate_at gs p) s));
        no_control = λ e s l.
            let q = has_gate n gs f w.fault (λ z. omega arith) in
            let Others : ℕ → Type 0 = λ t. (j : ℕ) → f.line ≢ j → is_control (gate_at gs p) j ≡ true → bit t j ≡ 1 in
            by_outputs (Iff.trans (subst (λ t. Differ ↔ ((bit t f.line ≡ 0) × Others t)) (there (p - 1) s l)
            (missing_control_differs n gs ok f x q.0 q.1 e (has_control n gs f w.fault e)))
            (Iff.and Iff.rfl (spelled (gate_at gs p) s (λ j. f.line ≢ j))));
        more_control = λ e s l.
            let q = has_gate n gs f w.fault (λ z. omega arith) in
            let All : ℕ → Type 0 = λ t. (j : ℕ) → is_control (gate_at gs p) j ≡ true → bit t j ≡ 1 in
            by_outputs (Iff.trans (subst (λ t. Differ ↔ ((bit t f.line ≡ 0) × All t)) (there (p - 1) s l)
            (extra_control_differs n gs ok f x q.0 q.1 e (has_no_control n gs f w.fault e)))
            (Iff.and Iff.rfl (spelled_all (gate_at gs p) s)));
      }

-- of several faults together
pub told_together : {n : ℕ} {words : List ℕ} {x : ℕ} {list values : List ℕ} (w : TellsCaughtTogether n words x list values)
    → (values ≡ 1 ∷ []) ↔ CaughtTogether w.gs w.fs x
told_together {n} {x = x} w =
    let values : All (λ f. f.value ≤ 1) w.fs = all_map (λ f k. has_value n w.gs f k.1 k.0) w.fs w.multiple.stuck in
    let once = w.multiple.once in
    told_1 w.says
    (λ c m. true≢false (sym ((together_means w.gs w.fs values once x).1 c) ∙ (missed_together_means w.gs w.fs values once x).1 m))
