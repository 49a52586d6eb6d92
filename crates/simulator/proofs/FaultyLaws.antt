-- Laws of faulty runs: when a vector catches a fault, each class's condition on the state at one level.
use Prim.Native.Nat.{ℕ, zero, suc, ◌+◌, ◌-◌, ◌≤◌, ◌<◌}
use mathlib.Core.Path.{◌≡◌, refl, sym, ap, ap₂, ◌∙◌}
use mathlib.Core.Logic.{◌↔◌, ◌≢◌}
use mathlib.Core.Bool.{true, false, not, ◌&&◌}
use mathlib.Core.List.{List, [], ◌∷◌}
use native.Mathlib.Nat.{add-zero, zero-add, le_refl, le_of_suc-le-suc, not-suc-le-zero, ne_of_lt}
use native.Mathlib.Omega.{arith}
use lib.ListN.{length, take, drop}
use lib.Dec.{eqb}
use borrow.Author.Tests.{eq-eqb, ne_eqb}
use Rattle.basics.specs.Lists.{All}
use Rattle.basics.proofs.Tests.{not_eqb_iff, choice-true, choice-false, eqb_ext}
use Rattle.basics.proofs.All.{all_map, all_drop}
use Rattle.words.specs.Word.{bit, force}
use Rattle.words.proofs.Lines.{force_same_iff}
use Rattle.circuit.specs.Gates.{gate_at}
use Rattle.circuit.specs.Controls.{is_control, less_control, more_control}
use Rattle.circuit.specs.Runs.{fires, step, run, forward}
use Rattle.circuit.specs.Sound.{GateOk, AllOk}
use Rattle.circuit.specs.declared.Gate.{Gate}
use Rattle.circuit.proofs.RunLaws.{suc-sub-one, level_step, run-append, run_injective, run_from_level}
use Rattle.circuit.proofs.ControlLaws.{step_changes, less_control_differs, more_control_differs}
use Rattle.simulator.specs.Faulty.{faulty, caught, force_at, stuck_run, without, changed}
use Rattle.faults.specs.Stuck.{StuckOk}
use Rattle.faults.specs.declared.Fault.{Fault}

-- ---- what the rest of a circuit is given, it passes on

-- two states are told apart by the outputs that they lead to
pub outputs_eqb : (n : ℕ) (gs : List Gate) → AllOk n gs → (a b : ℕ) → eqb (run gs a) (run gs b) ≡ eqb a b
outputs_eqb n gs ok a b = eqb_ext (run gs a) (run gs b) a b (run_injective n gs ok a b) (ap (run gs))

-- a vector catches a fault where the outputs differ
pub caught_iff : (gs : List Gate) (f : Fault) (x : ℕ) → (caught gs f x ≡ true) ↔ (faulty gs f x ≢ run gs x)
unfolding caught
caught_iff gs f x = not_eqb_iff (faulty gs f x) (run gs x)

-- a fault that leaves t at level i is caught where t is not the state of level i
pub caught_at : (n : ℕ) (gs : List Gate) → AllOk n gs → (f : Fault) (x i t : ℕ) → faulty gs f x ≡ run (drop i gs) t
    → caught gs f x ≡ not (eqb t (forward gs i x))
unfolding caught
caught_at n gs ok f x i t e =
    ap not (ap₂ eqb e (run_from_level gs i x) ∙ outputs_eqb n (drop i gs) (all_drop (GateOk n) i gs ok) t (forward gs i x))

-- ---- lines stuck at levels

-- the state on arriving at the level k further on, before that level's lines are forced
unfoldable pub arrive : List Fault → ℕ → ℕ → List Gate → ℕ → ℕ
arrive fs i zero gs s = s
arrive fs i (suc k) [] s = s
arrive fs i (suc k) (g ∷ gs) s = arrive fs (suc i) k gs (step g (force_at fs i s))

-- a level with no stuck line
pub force_none : (fs : List Fault) (i s : ℕ) → All (λ f. f.place ≢ i) fs → force_at fs i s ≡ s
unfolding force_at
force_none [] i s w = refl
force_none (f ∷ fs) i s w = rw (ne_eqb f.place i w.0) (force_none fs i s w.1)

-- past the last stuck line the gates run as they should
pub stuck_past : (fs : List Fault) (i : ℕ) (gs : List Gate) (s : ℕ) → All (λ f. f.place < i) fs → stuck_run fs i gs s ≡ run gs s
unfolding stuck_run run
stuck_past fs i [] s w = force_none fs i s (all_map (λ f. ne_of_lt) fs w)
stuck_past fs i (g ∷ gs) s w =
    stuck_past fs (suc i) gs (step g (force_at fs i s)) (all_map (λ f (h : f.place < i). omega arith) fs w)
    ∙ ap (λ t. run gs (step g t)) (force_none fs i s (all_map (λ f. ne_of_lt) fs w))

-- from the deepest level L of stuck lines on
pub stuck_from : (fs : List Fault) (i k L : ℕ) (gs : List Gate) (s : ℕ) → i + k ≡ L → k ≤ length gs → All (λ f. f.place ≤ L) fs
    → stuck_run fs i gs s ≡ run (drop k gs) (force_at fs L (arrive fs i k gs s))
unfolding stuck_run run arrive
stuck_from fs i zero L [] s e h w = ap (λ l. force_at fs l s) (sym (add-zero i) ∙ e)
stuck_from fs i zero L (g ∷ gs) s e h w =
    stuck_past fs (suc i) gs (step g (force_at fs i s)) (all_map (λ f (p : f.place ≤ L). omega arith) fs w)
    ∙ ap (λ l. run gs (step g (force_at fs l s))) (sym (add-zero i) ∙ e)
stuck_from fs i (suc k) L [] s e h w = absurd (not-suc-le-zero h)
stuck_from fs i (suc k) L (g ∷ gs) s e h w = stuck_from fs (suc i) k L gs (step g (force_at fs i s)) (omega arith) (le_of_suc-le-suc h) w

-- before the first stuck line the gates run as they should
pub arrive_quiet : (fs : List Fault) (i k L : ℕ) (gs : List Gate) (s : ℕ) → i + k ≡ L → All (λ f. L ≤ f.place) fs
    → arrive fs i k gs s ≡ run (take k gs) s
unfolding arrive run
arrive_quiet fs i zero L gs s e w = refl
arrive_quiet fs i (suc k) L [] s e w = refl
arrive_quiet fs i (suc k) L (g ∷ gs) s e w =
    arrive_quiet fs (suc i) k L gs (step g (force_at fs i s)) (omega arith) w
    ∙ ap (λ t. run (take k gs) (step g t)) (force_none fs i s (all_map (λ f (h : L ≤ f.place). omega arith) fs w))

-- one stuck line: forced at its level, and nowhere else
pub stuck_one : (gs : List Gate) (f : Fault) (x : ℕ) → f.place ≤ length gs
    → stuck_run (f ∷ []) 0 gs x ≡ run (drop f.place gs) (force (forward gs f.place x) f.line f.value)
unfolding forward force_at
stuck_one gs f x h =
    stuck_from (f ∷ []) 0 f.place f.place gs x (zero-add f.place) h (le_refl f.place, tt)
    ∙ ap (λ s. run (drop f.place gs) (force_at (f ∷ []) f.place s))
    (arrive_quiet (f ∷ []) 0 f.place f.place gs x (zero-add f.place) (le_refl f.place, tt))
    ∙ ap (run (drop f.place gs))
    (choice-true (eq-eqb f.place f.place refl) (force (forward gs f.place x) f.line f.value) (forward gs f.place x))

-- the faulty run of class 1
pub faulty_stuck : (gs : List Gate) (f : Fault) (x : ℕ) → f.class ≡ 1 → faulty gs f x ≡ stuck_run (f ∷ []) 0 gs x
unfolding faulty
faulty_stuck gs f x e = choice-true (eq-eqb f.class 1 e) (stuck_run (f ∷ []) 0 gs x) _

-- a stuck line is caught where the line should have the other value
pub stuck_caught : (n : ℕ) (gs : List Gate) → AllOk n gs → (f : Fault) → StuckOk n (length gs) f → (x : ℕ)
    → caught gs f x ≡ not (eqb (bit (forward gs f.place x) f.line) f.value)
stuck_caught n gs ok f k x =
    let s : ℕ = forward gs f.place x in
    let iff = force_same_iff s f.line f.value k.value_in in
    caught_at n gs ok f x f.place (force s f.line f.value) (faulty_stuck gs f x k.class_is ∙ stuck_one gs f x k.place_in)
    ∙ ap not (eqb_ext (force s f.line f.value) s (bit s f.line) f.value iff.0 iff.1)

-- ---- faults of one gate: what gate p, from 1, makes of level p - 1

-- another gate in its place
pub run-changed : (h : Gate → Gate) (gs : List Gate) (p x : ℕ) → 1 ≤ p → p ≤ length gs
    → run (changed h p gs) x ≡ run (drop p gs) (step (h (gate_at gs p)) (forward gs (p - 1) x))
unfolding forward run gate_at changed
run-changed h gs zero x lo hi = absurd (omega arith)
run-changed h [] (suc i) x lo hi = absurd (not-suc-le-zero hi)
run-changed h (g ∷ gs) (suc zero) x lo hi = refl
run-changed h (g ∷ gs) (suc (suc i)) x lo hi = rw (suc-sub-one (suc i))
    (simp (suc-sub-one i) at (run-changed h gs (suc i) (step g x) (omega arith) (le_of_suc-le-suc hi)))

-- no gate in its place
pub run-without : (gs : List Gate) (p x : ℕ) → run (without p gs) x ≡ run (drop p gs) (forward gs (p - 1) x)
unfolding forward without
run-without gs p x = run-append (take (p - 1) gs) (drop p gs) x

-- the faulty runs of the other classes
pub faulty_missing_gate : (gs : List Gate) (f : Fault) (x : ℕ) → f.class ≡ 2 → faulty gs f x ≡ run (without f.place gs) x
unfolding faulty
faulty_missing_gate gs f x e = choice-false (ne_eqb f.class 1 (omega arith)) _ _ ∙ choice-true (eq-eqb f.class 2 e) _ _

pub faulty_missing_control : (gs : List Gate) (f : Fault) (x : ℕ) → f.class ≡ 3
    → faulty gs f x ≡ run (changed (less_control f.line) f.place gs) x
unfolding faulty
faulty_missing_control gs f x e =
    choice-false (ne_eqb f.class 1 (omega arith)) _ _ ∙ choice-false (ne_eqb f.class 2 (omega arith)) _ _
    ∙ choice-true (eq-eqb f.class 3 e) _ _

pub faulty_extra_control : (gs : List Gate) (f : Fault) (x : ℕ) → f.class ≡ 4 → faulty gs f x ≡ run (changed (more_control f.line) f.place gs) x
unfolding faulty
faulty_extra_control gs f x e =
    choice-false (ne_eqb f.class 1 (omega arith)) _ _ ∙ choice-false (ne_eqb f.class 2 (omega arith)) _ _
    ∙ choice-false (ne_eqb f.class 3 (omega arith)) _ _ ∙ choice-true (eq-eqb f.class 4 e) _ _

-- and of a class that there is not
pub faulty_none : (gs : List Gate) (f : Fault) (x : ℕ) → f.class ≢ 1 → f.class ≢ 2 → f.class ≢ 3 → f.class ≢ 4 → faulty gs f x ≡ run gs x
unfolding faulty
faulty_none gs f x a b c d =
    choice-false (ne_eqb f.class 1 a) _ _ ∙ choice-false (ne_eqb f.class 2 b) _ _
    ∙ choice-false (ne_eqb f.class 3 c) _ _ ∙ choice-false (ne_eqb f.class 4 d) _ _

pub none_caught : (gs : List Gate) (f : Fault) (x : ℕ) → f.class ≢ 1 → f.class ≢ 2 → f.class ≢ 3 → f.class ≢ 4 → caught gs f x ≡ false
unfolding caught
none_caught gs f x a b c d = ap not (eq-eqb (faulty gs f x) (run gs x) (faulty_none gs f x a b c d))

module _ (n : ℕ) (gs : List Gate) (ok : AllOk n gs) (f : Fault) (lo : 1 ≤ f.place) (hi : f.place ≤ length gs) (x : ℕ) where
  -- a fault of one gate is caught where it makes another state than the gate
  caught_by_step : (t : ℕ) → faulty gs f x ≡ run (drop f.place gs) t
      → caught gs f x ≡ not (eqb t (step (gate_at gs f.place) (forward gs (f.place - 1) x)))
  caught_by_step t e = caught_at n gs ok f x f.place t e ∙ ap (λ s. not (eqb t s)) (level_step gs f.place x lo hi)

  -- a missing gate is caught where the gate changes the state, and another gate in its place where the two make different states
  pub without-caught : f.class ≡ 2
      → caught gs f x ≡ not (eqb (forward gs (f.place - 1) x) (step (gate_at gs f.place) (forward gs (f.place - 1) x)))
  without-caught e = caught_by_step (forward gs (f.place - 1) x) (faulty_missing_gate gs f x e ∙ run-without gs f.place x)

  pub changed-caught : (h : Gate → Gate) → faulty gs f x ≡ run (changed h f.place gs) x
      → caught gs f x
      ≡ not (eqb (step (h (gate_at gs f.place)) (forward gs (f.place - 1) x)) (step (gate_at gs f.place) (forward gs (f.place - 1) x)))
  changed-caught h e = caught_by_step (step (h (gate_at gs f.place)) (forward gs (f.place - 1) x)) (e ∙ run-changed h gs f.place x lo hi)

  -- a missing gate is caught where the gate should fire
  pub missing_gate_caught : f.class ≡ 2 → caught gs f x ≡ fires (gate_at gs f.place) (forward gs (f.place - 1) x)
  missing_gate_caught e = without-caught e ∙ step_changes (gate_at gs f.place) (forward gs (f.place - 1) x)

  -- a missing control is caught where it is 0 and all other controls are 1
  pub missing_control_caught : f.class ≡ 3 → is_control (gate_at gs f.place) f.line ≡ true
      → caught gs f x ≡
      (eqb (bit (forward gs (f.place - 1) x) f.line) 0 && fires (less_control f.line (gate_at gs f.place)) (forward gs (f.place - 1) x))
  missing_control_caught e c =
      changed-caught (less_control f.line) (faulty_missing_control gs f x e)
      ∙ less_control_differs (gate_at gs f.place) f.line (forward gs (f.place - 1) x) c

  -- an extra control is caught where it is 0 and all controls are 1
  pub extra_control_caught : f.class ≡ 4 → is_control (gate_at gs f.place) f.line ≡ false
      → caught gs f x ≡ (eqb (bit (forward gs (f.place - 1) x) f.line) 0 && fires (gate_at gs f.place) (forward gs (f.place - 1) x))
  extra_control_caught e c =
      changed-caught (more_control f.line) (faulty_extra_control gs f x e)
      ∙ more_control_differs (gate_at gs f.place) f.line (forward gs (f.place - 1) x) c
