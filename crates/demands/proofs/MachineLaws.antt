-- The machine that the contracts cite is the one of docs/SCOPE.md: its gates, runs and faulty runs do what `Machine` says, and nothing else does.
use Prim.Native.Nat.{ℕ, suc, ◌*◌, ◌^◌, ◌≤◌, ◌<◌}
use mathlib.Core.Path.{◌≡◌, refl, sym, ap, ◌∙◌, subst}
use mathlib.Core.Logic.{◌↔◌, ◌≢◌}
use mathlib.Core.Bool.{true, true≢false}
use mathlib.Core.List.Memᴰ
use mathlib.Core.List.{List, [], ◌∷◌, Memᴰ}
use native.Mathlib.Omega.{arith}
use lib.ListN.{length}
use lib.Dec.{eqb}
use borrow.Author.Tests.{eq-eqb, ne_eqb, eqb-true}
use Rattle.basics.specs.Choice.{choice}
use Rattle.basics.specs.Lists.{All}
use Rattle.basics.proofs.Tests.{by_test, by_equal, choice-true, choice-false}
use Rattle.basics.proofs.All.{all_map}
use Rattle.basics.proofs.Lists.{all_entry}
use Rattle.words.specs.Word.{bit, force}
use Rattle.words.proofs.Bits.{word_ext_all}
use Rattle.words.proofs.Lines.{bit-flip-same, bit_flip_other, bit-force-same, bit_force_other}
use Rattle.circuit.specs.Gates.{gates_of}
use Rattle.circuit.specs.Controls.{is_control}
use Rattle.circuit.specs.Runs.{fires, step, run}
use Rattle.circuit.specs.Sound.{AllOk, Sound}
use Rattle.circuit.specs.declared.Gate.{Gate}
use Rattle.circuit.proofs.ControlLaws.{fires_iff}
use Rattle.circuit.proofs.StepLaws.{step_on, step_off}
use Rattle.simulator.specs.Faulty.{force_at, stuck_run}
use Rattle.faults.specs.declared.Fault.{Fault}
use Rattle.demands.proofs.Machine.{Control, AllControls, Makes, Runs, flat, Circuit, Forced, StuckRuns, OtherSite, NoSiteTwice}

-- ---- a gate

pub control_iff : (g : Gate) (c : ℕ) → (is_control g c ≡ true) ↔ Control g c
unfolding is_control
control_iff g c = (eqb-true (bit g.controls c) 1, eq-eqb (bit g.controls c) 1)

pub fires_means : (g : Gate) (s : ℕ) → (fires g s ≡ true) ↔ AllControls g s
fires_means g s = (
  λ t c o. (fires_iff g s).0 t c ((control_iff g c).1 o),
  λ h. (fires_iff g s).1 (λ c o. h c ((control_iff g c).0 o)),
)

pub makes_step : (g : Gate) (s : ℕ) → Makes g s (step g s)
makes_step g s = record {
  inverts = λ all. ap (λ t. bit t g.target) (step_on g s ((fires_means g s).1 all)) ∙ bit-flip-same s g.target;
  rests = λ some. by_test (fires g s)
      (λ e. absurd (some ((fires_means g s).0 e)))
      (λ e. ap (λ t. bit t g.target) (step_off g s e));
  others = λ j d. by_test (fires g s)
      (λ e. ap (λ t. bit t j) (step_on g s e) ∙ bit_flip_other s g.target j d)
      (λ e. ap (λ t. bit t j) (step_off g s e));
}

-- it makes one state
pub makes_one : (g : Gate) (s t u : ℕ) → Makes g s t → Makes g s u → t ≡ u
makes_one g s t u a b = word_ext_all t u (λ j. by_equal g.target j
    (λ e. subst (λ k. bit t k ≡ bit u k) e (by_test (fires g s)
    (λ y. let all = (fires_means g s).0 y in a.inverts all ∙ sym (b.inverts all))
    (λ n. let some : AllControls g s → ⊥ = λ all. true≢false (sym ((fires_means g s).1 all) ∙ n) in a.rests some ∙ sym (b.rests some))))
    (λ d. a.others j d ∙ sym (b.others j d)))

-- ---- runs

pub runs_run : (gs : List Gate) (s : ℕ) → Runs gs s (run gs s)
unfolding run
runs_run [] s = refl
runs_run (g ∷ gs) s = (step g s, makes_step g s, runs_run gs (step g s))

pub runs_is : (gs : List Gate) (s t : ℕ) → Runs gs s t → t ≡ run gs s
unfolding run
runs_is [] s t w = w
runs_is (g ∷ gs) s t w = runs_is gs w.0 t w.2 ∙ ap (run gs) (makes_one g s w.0 (step g s) w.1 (makes_step g s))

pub runs_one : (gs : List Gate) (s t u : ℕ) → Runs gs s t → Runs gs s u → t ≡ u
runs_one gs s t u a b = runs_is gs s t a ∙ sym (runs_is gs s u b)

-- ---- a circuit as it is lent

flat_gates : (words : List ℕ) → length words ≡ 3 * length (gates_of words) → words ≡ flat (gates_of words)
unfolding gates_of
flat_gates [] e = refl
flat_gates (c ∷ []) e = absurd (omega arith)
flat_gates (c ∷ s ∷ []) e = absurd (omega arith)
flat_gates (c ∷ s ∷ t ∷ rest) e = ap (λ more. c ∷ s ∷ t ∷ more) (flat_gates rest (omega arith))

pub gates_flat : (gs : List Gate) → gates_of (flat gs) ≡ gs
unfolding gates_of
gates_flat [] = refl
gates_flat (g ∷ gs) = ap (λ more. g ∷ more) (gates_flat gs)

pub circuit-is : (n : ℕ) (words : List ℕ) → Sound n words → Circuit n words (gates_of words)
circuit-is n words ok = record {
  lent = flat_gates words ok.whole;
  some_lines = ok.some_lines;
  lines_fit = ok.lines_fit;
  gates_fit = ok.gates_fit;
  controls_in = all_map (λ g k. k.controls_in) (gates_of words) ok.gates_ok;
  target_in = all_map (λ g k. k.target_in) (gates_of words) ok.gates_ok;
  apart = all_map (λ g k o. true≢false (sym ((control_iff g g.target).1 o) ∙ k.apart)) (gates_of words) ok.gates_ok;
}

-- and every gate of it is on its lines
pub circuit_ok : (n : ℕ) (words : List ℕ) (gs : List Gate) → Circuit n words gs → AllOk n gs
circuit_ok n words gs w = gates_ok gs w.controls_in w.target_in w.apart
  where
    gates_ok : (hs : List Gate) → All (λ g. g.controls < 2 ^ n) hs → All (λ g. g.target < n) hs → All (λ g. Control g g.target → ⊥) hs
        → AllOk n hs
    gates_ok [] c t a = tt
    gates_ok (g ∷ hs) c t a = (
      record {
        controls_in = c.0;
        target_in = t.0;
        apart = by_test (is_control g g.target) (λ o. absurd (a.0 ((control_iff g g.target).0 o))) (λ o. o);
      },
      gates_ok hs c.1 t.1 a.1,
    )

-- the words of a circuit are those of one list of gates
pub circuit-one : (n m : ℕ) (words : List ℕ) (gs hs : List Gate) → Circuit n words gs → Circuit m words hs → gs ≡ hs
circuit-one n m words gs hs a b = sym (gates_flat gs) ∙ ap gates_of (sym a.lent ∙ b.lent) ∙ gates_flat hs

-- ---- stuck lines

-- no entry of level i holds line j
abbrev Free : List Fault → ℕ → ℕ → Type 0
Free fs i j = (f : Fault) → Memᴰ f fs → f.place ≡ i → f.line ≢ j

free_more : (h : Fault) (fs : List Fault) (i j : ℕ) → (h.place ≡ i → h.line ≢ j) → Free fs i j → Free (h ∷ fs) i j
free_more h fs i j here free f (Memᴰ.head q) p l = here (ap (λ y. y.place) (sym q) ∙ p) (ap (λ y. y.line) (sym q) ∙ l)
free_more h fs i j here free f (Memᴰ.tail m) p l = free f m p l

-- one does, or none
held : (fs : List Fault) (i j : ℕ) {C : Type 0} → ((f : Fault) → Memᴰ f fs → f.place ≡ i → f.line ≡ j → C) → (Free fs i j → C) → C
held [] i j one none = none (λ f m p l. Memᴰ.not-nil m)
held (h ∷ fs) i j {C} one none =
    let later : (h.place ≡ i → h.line ≢ j) → C =
    λ here. held fs i j (λ f m. one f (Memᴰ.tail m)) (λ free. none (free_more h fs i j here free)) in
    by_equal h.place i
    (λ p. by_equal h.line j (λ l. one h (Memᴰ.head refl) p l) (λ d. later (λ q. d)))
    (λ d. later (λ q. absurd (d q)))

pub forced_one : (fs : List Fault) (i s t u : ℕ) → Forced fs i s t → Forced fs i s u → t ≡ u
forced_one fs i s t u a b = word_ext_all t u (λ j. held fs i j
    (λ f m p l. subst (λ k. bit t k ≡ bit u k) l (a.forced f m p ∙ sym (b.forced f m p)))
    (λ none. a.others j none ∙ sym (b.others j none)))

-- entries at different sites: u is what the first makes of the level's state, and t what the others make of that
entry_hits : (h : Fault) (fs : List Fault) (i u t : ℕ) → All (OtherSite h) fs → Forced fs i u t → (h.place ≡ i → bit u h.line ≡ h.value)
    → (f : Fault) → Memᴰ f (h ∷ fs) → f.place ≡ i → bit t f.line ≡ f.value
entry_hits h fs i u t apart rest here f (Memᴰ.head q) p =
    let at : h.place ≡ i = ap (λ y. y.place) (sym q) ∙ p in
    subst (λ y. bit t y.line ≡ y.value) (sym q)
    (rest.others h.line (λ k m pk. all_entry (OtherSite h) m apart (pk ∙ sym at)) ∙ here at)
entry_hits h fs i u t apart rest here f (Memᴰ.tail m) p = rest.forced f m p

pub forced_force : (fs : List Fault) (i s : ℕ) → All (λ f. f.value ≤ 1) fs → NoSiteTwice fs → Forced fs i s (force_at fs i s)
unfolding force_at
forced_force [] i s v w = record { forced = λ f m p. absurd (Memᴰ.not-nil m); others = λ j free. refl }
forced_force (h ∷ fs) i s v w =
    let u : ℕ = choice (eqb h.place i) (force s h.line h.value) s in
    let rest = forced_force fs i u v.1 w.1 in
    record {
      forced = entry_hits h fs i u (force_at fs i u) w.0 rest (λ p.
          ap (λ t. bit t h.line) (choice-true (eq-eqb h.place i p) (force s h.line h.value) s)
          ∙ bit-force-same s h.line h.value v.0);
      others = λ j free. rest.others j (λ f m. free f (Memᴰ.tail m)) ∙ by_equal h.place i
          (λ p. ap (λ t. bit t j) (choice-true (eq-eqb h.place i p) (force s h.line h.value) s)
          ∙ bit_force_other s h.line h.value j (free h (Memᴰ.head refl) p))
          (λ d. ap (λ t. bit t j) (choice-false (ne_eqb h.place i d) (force s h.line h.value) s));
    }

pub stuck_stuck : (fs : List Fault) (i : ℕ) (gs : List Gate) (s : ℕ) → All (λ f. f.value ≤ 1) fs → NoSiteTwice fs
    → StuckRuns fs i gs s (stuck_run fs i gs s)
unfolding stuck_run
stuck_stuck fs i [] s v w = forced_force fs i s v w
stuck_stuck fs i (g ∷ gs) s v w = (
  force_at fs i s,
  step g (force_at fs i s),
  forced_force fs i s v w,
  makes_step g (force_at fs i s),
  stuck_stuck fs (suc i) gs (step g (force_at fs i s)) v w,
)

pub stuck_one : (fs : List Fault) (i : ℕ) (gs : List Gate) (s t u : ℕ) → StuckRuns fs i gs s t → StuckRuns fs i gs s u → t ≡ u
stuck_one fs i [] s t u a b = forced_one fs i s t u a b
stuck_one fs i (g ∷ gs) s t u a b =
    let reached : a.0 ≡ b.0 = forced_one fs i s a.0 b.0 a.2 b.2 in
    let made : a.1 ≡ b.1 = makes_one g b.0 a.1 b.1 (subst (λ r. Makes g r a.1) reached a.3) b.3 in
    stuck_one fs (suc i) gs b.1 t u (subst (λ r. StuckRuns fs (suc i) gs r t) made a.4) b.4
