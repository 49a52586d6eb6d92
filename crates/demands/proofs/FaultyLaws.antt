-- The faulty runs that the contracts cite are those of `Machine` and `FaultLists`: what a circuit puts out with a fault in it, and when a fault is
-- caught.
use Prim.Native.Nat.{ℕ, zero, suc, ◌-◌, ◌≤◌, ◌<◌}
use mathlib.Core.Path.{◌≡◌, refl, sym, ap, ap₂, ◌∙◌, subst}
use mathlib.Core.Logic.{◌↔◌, ◌≢◌}
use mathlib.Core.Bool.{true, false, not}
use mathlib.Core.List.{List, [], ◌∷◌, ◌++◌}
use native.Mathlib.Nat.{not-suc-le-zero, le_of_suc-le-suc}
use native.Mathlib.Omega.{arith}
use lib.ListN.{length, get_or, take, drop}
use lib.Dec.{eqb}
use borrow.Author.Tests.{eq-eqb, eqb-true, not-false}
use Rattle.basics.specs.Choice.{choice}
use Rattle.basics.specs.Lists.{All}
use Rattle.basics.proofs.Tests.{by_equal, not_eqb_iff}
use Rattle.words.specs.Word.{bit, flip, all_on}
use Rattle.words.proofs.Bits.{bit_le, word_ext_all}
use Rattle.words.proofs.Lines.{bit-force-same, bit_force_other}
use Rattle.circuit.specs.Controls.{less_control, more_control}
use Rattle.circuit.specs.Runs.{fires, step, run}
use Rattle.circuit.specs.declared.Gate.{Gate}
use Rattle.circuit.proofs.RunLaws.{suc-sub-one, run-append}
use Rattle.simulator.specs.Faulty.{stuck_run, without, changed, faulty, caught}
use Rattle.multiple_faults.specs.Multiple.{caught_together}
use Rattle.faults.specs.declared.Fault.{Fault}
use Rattle.simulator.proofs.FaultyLaws.{faulty_stuck, faulty_missing_gate, faulty_missing_control, faulty_extra_control}
use Rattle.demands.proofs.Machine.{Control, Runs, StuckRuns, Without, Instead, gate, SaveFor, FaultyRuns, Outputs, Caught, Missed}
use Rattle.demands.proofs.Machine.{CaughtTogether, MissedTogether, Has, NoSiteTwice}
use Rattle.demands.proofs.Machine.FaultyRuns.{stuck_at as stuck-runs, missing_gate as gate-away, missing_control as control-away}
use Rattle.demands.proofs.Machine.FaultyRuns.{extra_control as control_more}
use Rattle.demands.proofs.Machine.Has.{stuck_at, missing_gate, missing_control, extra_control}
use Rattle.demands.proofs.HasLaws.{has_value, has_gate}
use Rattle.demands.proofs.MachineLaws.{runs_run, runs_is, stuck_stuck, stuck_one}

-- ---- outputs compared: a faulty circuit gives one output, and it is the good one or not

module _ (gs : List Gate) (x : ℕ) (Faulty : ℕ → Type 0) (output : ℕ) (is : Faulty output) (one : (t : ℕ) → Faulty t → t ≡ output) where
  pub differ_means : (not (eqb output (run gs x)) ≡ true) ↔ Outputs gs x Faulty ◌≢◌
  differ_means = (
    λ t. record { bad = output; good = run gs x; bad-is = is; good_is = runs_run gs x; compared = (not_eqb_iff output (run gs x)).0 t },
    λ w. (not_eqb_iff output (run gs x)).1 (λ e. w.compared (one w.bad w.bad-is ∙ e ∙ sym (runs_is gs x w.good w.good_is))),
  )

  same_means : (not (eqb output (run gs x)) ≡ false) ↔ Outputs gs x Faulty ◌≡◌
  same_means = (
    λ t. record {
      bad = output;
      good = run gs x;
      bad-is = is;
      good_is = runs_run gs x;
      compared = eqb-true output (run gs x) (not-false (eqb output (run gs x)) t);
    },
    λ w. ap not (eq-eqb output (run gs x) (sym (one w.bad w.bad-is) ∙ w.compared ∙ runs_is gs x w.good w.good_is)),
  )

-- ---- the circuit with a fault in it

-- gate p, from 1, changed
changed-after : (m : Gate → Gate) (gs : List Gate) (q : ℕ) → q < length gs
    → changed m (suc q) gs ≡ take q gs ++ (m (get_or gs q (record { controls = 0; spare = 0; target = 0 })) ∷ drop (suc q) gs)
unfolding changed
changed-after m [] q h = absurd (not-suc-le-zero h)
changed-after m (g ∷ gs) zero h = refl
changed-after m (g ∷ gs) (suc q) h = ap (λ l. g ∷ l) (changed-after m gs q (le_of_suc-le-suc h))

changed-parts : (m : Gate → Gate) (gs : List Gate) (p : ℕ) → 1 ≤ p → p ≤ length gs → changed m p gs ≡ Instead gs p (m (gate gs p))
changed-parts m gs zero lo hi = absurd (not-suc-le-zero lo)
changed-parts m gs (suc q) lo hi = rw (suc-sub-one q) (changed-after m gs q hi)

-- a control less, and one more
module _ (c : ℕ) (g : Gate) where
  less_save : SaveFor c g (less_control c g)
  unfolding less_control
  less_save = record {
    same_target = refl;
    same_controls = λ j d. let e = bit_force_other g.controls c 0 j d in (λ o. sym e ∙ o, λ o. e ∙ o);
  }

  less_none : Control (less_control c g) c → ⊥
  unfolding less_control
  less_none o = omega (arith, bit-force-same g.controls c 0 (omega arith))

  more_save : SaveFor c g (more_control c g)
  unfolding more_control
  more_save = record {
    same_target = refl;
    same_controls = λ j d. let e = bit_force_other g.controls c 1 j d in (λ o. sym e ∙ o, λ o. e ∙ o);
  }

  more_has : Control (more_control c g) c
  unfolding more_control
  more_has = bit-force-same g.controls c 1 (omega arith)

-- gates with the same target and the same controls do the same, in whatever place
same_bit : (a b j : ℕ) → (bit a j ≡ 1) ↔ (bit b j ≡ 1) → bit a j ≡ bit b j
same_bit a b j iff = by_equal (bit a j) 1
    (λ e. e ∙ sym (iff.0 e))
    (λ d. by_equal (bit b j) 1 (λ e. absurd (d (iff.1 e))) (λ q. omega (arith, bit_le a j, bit_le b j)))

same_step : (h k : Gate) → h.target ≡ k.target → ((j : ℕ) → Control h j ↔ Control k j) → (s : ℕ) → step h s ≡ step k s
unfolding step fires
same_step h k t c s =
    let m : h.controls ≡ k.controls = word_ext_all h.controls k.controls (λ j. same_bit h.controls k.controls j (c j)) in
    ap₂ (λ w j. choice (all_on w s) (flip s j) s) m t

run_instead : (gs : List Gate) (p : ℕ) (h k : Gate) → ((s : ℕ) → step h s ≡ step k s) → (x : ℕ) → run (Instead gs p h) x ≡ run (Instead gs p k) x
unfolding run
run_instead gs p h k e x =
    run-append (take (p - 1) gs) (h ∷ drop p gs) x ∙ ap (run (drop p gs)) (e (run (take (p - 1) gs) x))
    ∙ sym (run-append (take (p - 1) gs) (k ∷ drop p gs) x)

-- two gates that are g save for line c, which is a control of both or of neither
both_save : (c : ℕ) (g h k : Gate) → SaveFor c g h → SaveFor c g k → Control h c ↔ Control k c → (s : ℕ) → step h s ≡ step k s
both_save c g h k a b here = same_step h k (a.same_target ∙ sym b.same_target) (λ j. by_equal c j
    (λ e. subst (λ i. Control h i ↔ Control k i) e here)
    (λ d. (λ o. (b.same_controls j d).1 ((a.same_controls j d).0 o), λ o. (a.same_controls j d).1 ((b.same_controls j d).0 o))))

-- one stuck line
pub line_stuck : (gs : List Gate) (f : Fault) (x : ℕ) → f.class ≡ 1 → f.value ≤ 1 → StuckRuns (f ∷ []) 0 gs x (faulty gs f x)
line_stuck gs f x e v = subst (StuckRuns (f ∷ []) 0 gs x) (sym (faulty_stuck gs f x e)) (stuck_stuck (f ∷ []) 0 gs x (v, tt) (tt, tt))

module _ (n : ℕ) (gs : List Gate) (f : Fault) where
  module _ (h : Has n gs f) (x : ℕ) where
    control_less : f.class ≡ 3 → faulty gs f x ≡ run (Instead gs f.place (less_control f.line (gate gs f.place))) x
    control_less e =
        let w = has_gate n gs f h (λ q. omega arith) in
        faulty_missing_control gs f x e ∙ ap (λ l. run l x) (changed-parts (less_control f.line) gs f.place w.0 w.1)

    control_extra : f.class ≡ 4 → faulty gs f x ≡ run (Instead gs f.place (more_control f.line (gate gs f.place))) x
    control_extra e =
        let w = has_gate n gs f h (λ q. omega arith) in
        faulty_extra_control gs f x e ∙ ap (λ l. run l x) (changed-parts (more_control f.line) gs f.place w.0 w.1)

    gate_less : f.class ≡ 2 → faulty gs f x ≡ run (Without gs f.place) x
    unfolding without
    gate_less e = faulty_missing_gate gs f x e

    -- what the contracts cite is what it gives
    by_class : Has n gs f → FaultyRuns gs f x (faulty gs f x)
    by_class (stuck_at e s v) = stuck-runs e (line_stuck gs f x e v)
    by_class (missing_gate e lo hi l v) =
        gate-away e (subst (Runs (Without gs f.place) x) (sym (gate_less e)) (runs_run (Without gs f.place) x))
    by_class (missing_control e lo hi l v) =
        let k : Gate = less_control f.line (gate gs f.place) in
        control-away e k (less_save f.line (gate gs f.place)) (less_none f.line (gate gs f.place))
        (subst (Runs (Instead gs f.place k) x) (sym (control_less e)) (runs_run (Instead gs f.place k) x))
    by_class (extra_control e lo hi l o t v) =
        let k : Gate = more_control f.line (gate gs f.place) in
        control_more e k (more_save f.line (gate gs f.place)) (more_has f.line (gate gs f.place))
        (subst (Runs (Instead gs f.place k) x) (sym (control_extra e)) (runs_run (Instead gs f.place k) x))

    pub faulty-faulty : FaultyRuns gs f x (faulty gs f x)
    faulty-faulty = by_class h

    -- and nothing else
    pub faulty-is : (t : ℕ) → FaultyRuns gs f x t → t ≡ faulty gs f x
    faulty-is t (stuck-runs e w) = stuck_one (f ∷ []) 0 gs x t (faulty gs f x) w (line_stuck gs f x e (has_value n gs f h e))
    faulty-is t (gate-away e w) = runs_is (Without gs f.place) x t w ∙ sym (gate_less e)
    faulty-is t (control-away e k save none w) =
        let g : Gate = gate gs f.place in
        runs_is (Instead gs f.place k) x t w
        ∙ run_instead gs f.place k (less_control f.line g) (both_save f.line g k (less_control f.line g) save (less_save f.line g)
        (λ o. absurd (none o), λ o. absurd (less_none f.line g o))) x
        ∙ sym (control_less e)
    faulty-is t (control_more e k save more w) =
        let g : Gate = gate gs f.place in
        runs_is (Instead gs f.place k) x t w
        ∙ run_instead gs f.place k (more_control f.line g) (both_save f.line g k (more_control f.line g) save (more_save f.line g)
        (λ o. more_has f.line g, λ o. more)) x
        ∙ sym (control_extra e)

    pub caught_means : (caught gs f x ≡ true) ↔ Caught gs f x
    unfolding caught
    caught_means = differ_means gs x (FaultyRuns gs f x) (faulty gs f x) faulty-faulty faulty-is

    pub missed_means : (caught gs f x ≡ false) ↔ Missed gs f x
    unfolding caught
    missed_means = same_means gs x (FaultyRuns gs f x) (faulty gs f x) faulty-faulty faulty-is

-- a multiple fault
module _ (gs : List Gate) (fs : List Fault) (values : All (λ f. f.value ≤ 1) fs) (once : NoSiteTwice fs) (x : ℕ) where
  stuck_is : (t : ℕ) → StuckRuns fs 0 gs x t → t ≡ stuck_run fs 0 gs x
  stuck_is t w = stuck_one fs 0 gs x t (stuck_run fs 0 gs x) w (stuck_stuck fs 0 gs x values once)

  pub together_means : (caught_together gs fs x ≡ true) ↔ CaughtTogether gs fs x
  unfolding caught_together
  together_means = differ_means gs x (StuckRuns fs 0 gs x) (stuck_run fs 0 gs x) (stuck_stuck fs 0 gs x values once) stuck_is

  pub missed_together_means : (caught_together gs fs x ≡ false) ↔ MissedTogether gs fs x
  unfolding caught_together
  missed_together_means = same_means gs x (StuckRuns fs 0 gs x) (stuck_run fs 0 gs x) (stuck_stuck fs 0 gs x values once) stuck_is
