-- The marks of a coverage: what it means that a fault is marked, which marks a vector adds, and what the count of a class tells.
use Prim.Native.Nat.{ℕ, zero, suc, ◌-◌, ◌≤◌}
use mathlib.Core.Path.{◌≡◌, refl, sym, ap, ◌∙◌, subst}
use mathlib.Core.Logic.{◌↔◌, ◌⊎◌, inl, inr}
use mathlib.Core.Bool.{true, ◌||◌, ◌&&◌, true≢false}
use mathlib.Core.List.Memᴰ
use mathlib.Core.List.{List, [], ◌∷◌}
use native.Mathlib.Omega.{arith}
use lib.ListN.{length, get_or}
use lib.Dec.{eqb}
use borrow.Author.Tests.{eq-eqb, ne_eqb, eqb-true, le-leb}
use Rattle.basics.proofs.Tests.{by_test, by_equal, and_both, or_left, or_right}
use Rattle.basics.proofs.All.{all_map}
use Rattle.words.specs.Word.{bit}
use Rattle.words.proofs.OrLaws.{on_or}
use Rattle.circuit.specs.Gates.{gates_of}
use Rattle.circuit.specs.Sound.{Sound}
use Rattle.circuit.specs.declared.Gate.{Gate}
use Rattle.faults.specs.declared.Fault.{Fault}
use Rattle.faults.specs.Classes.{class_faults}
use Rattle.faults.specs.Rules.{is_fault}
use Rattle.judge.specs.Judging.{caught_by_some}
use Rattle.marking.specs.Marks.{marked}
use Rattle.judge.specs.Coverages.{with_vector, with_all, is_marked}
use Rattle.judge.specs.declared.coverage.Coverage.{Coverage}
use Rattle.marking.proofs.MarkedLaws.{marked-length}
use Rattle.judge.proofs.CoverLaws.{Sized}
use Rattle.judge.proofs.MeanLaws.{mark_mean}
use Rattle.demands.proofs.Machine.{Circuit, Caught, Has}
use Rattle.demands.proofs.Machine.Has.{stuck_at as has_stuck, missing_gate as has_gate, missing_control as has_control}
use Rattle.demands.proofs.Machine.Has.{extra_control as has-extra}
use Rattle.demands.proofs.MachineLaws.{circuit-is}
use Rattle.demands.proofs.HasLaws.{has_of, of_has}
use Rattle.demands.proofs.FaultLists.{Class, CaughtBySome, CaughtByNone, Verdict}
use Rattle.demands.proofs.ClassLaws.{class_is}
use Rattle.demands.proofs.VerdictLaws.{Decides, decides_some, told_of, verdict-is}

-- ---- marks

-- the mark of a fault: a line of the word of its class, value and place; gates are counted from 1, and their faults have the value 0
pub data Marked (c : Coverage) (f : Fault) : Type 0 where
  stuck_at_0_lem : f.class ≡ 1 → f.value ≡ 0 → bit (get_or c.stuck_at.at_0 f.place 0) f.line ≡ 1 → Marked c f
  stuck_at_1_lem : f.class ≡ 1 → f.value ≡ 1 → bit (get_or c.stuck_at.at_1 f.place 0) f.line ≡ 1 → Marked c f
  missing_gate : f.class ≡ 2 → 1 ≤ f.place → f.value ≡ 0 → bit (get_or c.missing_gates (f.place - 1) 0) f.line ≡ 1 → Marked c f
  missing_control : f.class ≡ 3 → 1 ≤ f.place → f.value ≡ 0 → bit (get_or c.missing_controls (f.place - 1) 0) f.line ≡ 1 → Marked c f
  extra_control : f.class ≡ 4 → 1 ≤ f.place → f.value ≡ 0 → bit (get_or c.extra_controls (f.place - 1) 0) f.line ≡ 1 → Marked c f

abbrev pub Unmarked : Coverage → Fault → Type 0
Unmarked c f = Marked c f → ⊥

-- its arrays have their lengths
pub record Full (c : Coverage) : Type 0 where
  pub levels_0 : length c.stuck_at.at_0 ≡ 1025
  pub levels_1 : length c.stuck_at.at_1 ≡ 1025
  pub gates : length c.missing_gates ≡ 1024
  pub controls : length c.missing_controls ≡ 1024
  pub extras : length c.extra_controls ≡ 1024

-- ---- what the calls answer

-- the count of a class: the verdict on its faults by their marks
pub record Counts (n : ℕ) (words : List ℕ) (c : Coverage) (class : ℕ) (values : List ℕ) : Type 0 where
  pub gs : List Gate
  pub circuit : Circuit n words gs
  pub faults : List Fault
  pub of_class : Class n gs class faults
  pub verdict : Verdict (Marked c) (Unmarked c) faults values

-- a vector added: of the faults that the circuit has those are marked that were or that it catches; no mark goes, and none comes where the circuit
-- has no fault
pub record Adds (n : ℕ) (words : List ℕ) (x : ℕ) (old new : Coverage) : Type 0 where
  pub gs : List Gate
  pub circuit : Circuit n words gs
  pub marks : Full old → (f : Fault) → Has n gs f → Marked new f ↔ (Marked old f ⊎ Caught gs f x)
  pub keeps : (f : Fault) → Marked old f → Marked new f
  pub only : Full old → (f : Fault) → Marked new f → Marked old f ⊎ Has n gs f
  pub full : Full old → Full new

-- ---- the promised coverage is so

module _ (c : Coverage) (f : Fault) where
  is_0 : f.class ≡ 1 → f.value ≡ 0 → is_marked c f ≡ eqb (bit (get_or c.stuck_at.at_0 f.place 0) f.line) 1
  unfolding is_marked
  is_0 e v = rw (eq-eqb f.class 1 e, eq-eqb f.value 0 v)

  is_1 : f.class ≡ 1 → f.value ≡ 1 → is_marked c f ≡ eqb (bit (get_or c.stuck_at.at_1 f.place 0) f.line) 1
  unfolding is_marked
  is_1 e v = rw (eq-eqb f.class 1 e, ne_eqb f.value 0 (λ q. omega arith), eq-eqb f.value 1 v)

  is_2 : f.class ≡ 2 → 1 ≤ f.place → f.value ≡ 0 → is_marked c f ≡ eqb (bit (get_or c.missing_gates (f.place - 1) 0) f.line) 1
  unfolding is_marked
  is_2 e lo v = rw (le-leb 1 f.place lo, eq-eqb f.value 0 v, ne_eqb f.class 1 (λ q. omega arith), eq-eqb f.class 2 e)

  is_3 : f.class ≡ 3 → 1 ≤ f.place → f.value ≡ 0 → is_marked c f ≡ eqb (bit (get_or c.missing_controls (f.place - 1) 0) f.line) 1
  unfolding is_marked
  is_3 e lo v = rw (
    le-leb 1 f.place lo,
    eq-eqb f.value 0 v,
    ne_eqb f.class 1 (λ q. omega arith),
    ne_eqb f.class 2 (λ q. omega arith),
    eq-eqb f.class 3 e,
  )

  is_4 : f.class ≡ 4 → 1 ≤ f.place → f.value ≡ 0 → is_marked c f ≡ eqb (bit (get_or c.extra_controls (f.place - 1) 0) f.line) 1
  unfolding is_marked
  is_4 e lo v = rw (
    le-leb 1 f.place lo,
    eq-eqb f.value 0 v,
    ne_eqb f.class 1 (λ q. omega arith),
    ne_eqb f.class 2 (λ q. omega arith),
    ne_eqb f.class 3 (λ q. omega arith),
    eq-eqb f.class 4 e,
  )

  pub marked-true : Marked c f → is_marked c f ≡ true
  marked-true (stuck_at_0_lem e v m) = is_0 e v ∙ eq-eqb _ 1 m
  marked-true (stuck_at_1_lem e v m) = is_1 e v ∙ eq-eqb _ 1 m
  marked-true (missing_gate e lo v m) = is_2 e lo v ∙ eq-eqb _ 1 m
  marked-true (missing_control e lo v m) = is_3 e lo v ∙ eq-eqb _ 1 m
  marked-true (extra_control e lo v m) = is_4 e lo v ∙ eq-eqb _ 1 m

  module _ (n : ℕ) (gs : List Gate) where
    true-marked : Has n gs f → is_marked c f ≡ true → Marked c f
    true-marked (has_stuck e s v) t = by_equal f.value 0
        (λ z. stuck_at_0_lem e z (eqb-true _ 1 (sym (is_0 e z) ∙ t)))
        (λ d. let o : f.value ≡ 1 = omega arith in stuck_at_1_lem e o (eqb-true _ 1 (sym (is_1 e o) ∙ t)))
    true-marked (has_gate e lo hi l v) t = missing_gate e lo v (eqb-true _ 1 (sym (is_2 e lo v) ∙ t))
    true-marked (has_control e lo hi o v) t = missing_control e lo v (eqb-true _ 1 (sym (is_3 e lo v) ∙ t))
    true-marked (has-extra e lo hi l o g v) t = extra_control e lo v (eqb-true _ 1 (sym (is_4 e lo v) ∙ t))

    decides_marked : Has n gs f → Decides (is_marked c) (Marked c) (Unmarked c) f
    decides_marked h = record {
      passes = (true-marked h, marked-true);
      fails = (
        λ t m. true≢false (sym (marked-true m) ∙ t),
        λ u. by_test (is_marked c f) (λ t. absurd (u (true-marked h t))) (λ t. t),
      );
    }

-- no mark goes
stays_marked : (ws ms : List ℕ) (i j : ℕ) → bit (get_or ws i 0) j ≡ 1 → bit (get_or (marked ws ms) i 0) j ≡ 1
unfolding marked
stays_marked ws [] i j e = e
stays_marked [] (m ∷ ms) i j e = e
stays_marked (w ∷ ws) (m ∷ ms) zero j e = eqb-true _ 1 (on_or w m j ∙ or_left (eqb (bit m j) 1) (eq-eqb (bit w j) 1 e))
stays_marked (w ∷ ws) (m ∷ ms) (suc i) j e = stays_marked ws ms i j e

module _ (n : ℕ) (words : List ℕ) (x : ℕ) (c : Coverage) (ok : Sound n words) where
  abbrev its : List Gate
  its = gates_of words

  abbrev new : Coverage
  new = with_vector c n its x

  all_kept : (f : Fault) → Marked c f → Marked new f
  unfolding with_vector
  all_kept f (stuck_at_0_lem e v m) = stuck_at_0_lem e v (stays_marked _ _ f.place f.line m)
  all_kept f (stuck_at_1_lem e v m) = stuck_at_1_lem e v (stays_marked _ _ f.place f.line m)
  all_kept f (missing_gate e lo v m) = missing_gate e lo v (stays_marked _ _ (f.place - 1) f.line m)
  all_kept f (missing_control e lo v m) = missing_control e lo v (stays_marked _ _ (f.place - 1) f.line m)
  all_kept f (extra_control e lo v m) = extra_control e lo v (stays_marked _ _ (f.place - 1) f.line m)

  still_full : Full c → Full new
  unfolding with_vector
  still_full w = record {
    levels_0 = marked-length c.stuck_at.at_0 _ ∙ w.levels_0;
    levels_1 = marked-length c.stuck_at.at_1 _ ∙ w.levels_1;
    gates = marked-length c.missing_gates _ ∙ w.gates;
    controls = marked-length c.missing_controls _ ∙ w.controls;
    extras = marked-length c.extra_controls _ ∙ w.extras;
  }

  caught-one : (f : Fault) → CaughtBySome its (x ∷ []) f → Caught its f x
  caught-one f w = subst (Caught its f) (Memᴰ.eq_of_singleton w.1) w.2

  marks_are : Full c → (f : Fault) → is_marked new f ≡ (is_marked c f || (is_fault n its f && caught_by_some its (x ∷ []) f))
  unfolding with_all
  marks_are w f =
      let sized : Sized c = record { stuck_0 = w.levels_0; stuck_1 = w.levels_1; gates = w.gates; controls = w.controls; extras = w.extras } in
      mark_mean n words ok (x ∷ []) c sized f

  -- a mark of the new one that stood in the old one
  old_mark : (f : Fault) → Marked new f → is_marked c f ≡ true → Marked c f
  old_mark f (stuck_at_0_lem e v m) t = stuck_at_0_lem e v (eqb-true _ 1 (sym (is_0 c f e v) ∙ t))
  old_mark f (stuck_at_1_lem e v m) t = stuck_at_1_lem e v (eqb-true _ 1 (sym (is_1 c f e v) ∙ t))
  old_mark f (missing_gate e lo v m) t = missing_gate e lo v (eqb-true _ 1 (sym (is_2 c f e lo v) ∙ t))
  old_mark f (missing_control e lo v m) t = missing_control e lo v (eqb-true _ 1 (sym (is_3 c f e lo v) ∙ t))
  old_mark f (extra_control e lo v m) t = extra_control e lo v (eqb-true _ 1 (sym (is_4 c f e lo v) ∙ t))

  only_faults : Full c → (f : Fault) → Marked new f → Marked c f ⊎ Has n its f
  only_faults w f m = by_test (is_marked c f) (λ t. inl (old_mark f m t)) (λ t.
      let added : is_fault n its f && caught_by_some its (x ∷ []) f ≡ true =
      ap (λ b. b || (is_fault n its f && caught_by_some its (x ∷ []) f)) (sym t) ∙ sym (marks_are w f) ∙ marked-true new f m in
      inr (has_of n its f (and_both (is_fault n its f) _ added).0))

  newly : Full c → (f : Fault) → Has n its f → Marked new f ↔ (Marked c f ⊎ Caught its f x)
  newly w f h =
      let mean : is_marked new f ≡ (is_marked c f || caught_by_some its (x ∷ []) f) =
      marks_are w f ∙ ap (λ is. is_marked c f || (is && caught_by_some its (x ∷ []) f)) (of_has n its f h) in
      let some = decides_some n its (x ∷ []) f h in (
        λ m. by_test (is_marked c f)
            (λ t. inl (true-marked c f n its h t))
            (λ t. inr (caught-one f (some.passes.0 (ap (λ b. b || caught_by_some its (x ∷ []) f) (sym t) ∙ sym mean ∙ marked-true new f m)))),
        λ s. either s mean some,
      )
    where
      either : Marked c f ⊎ Caught its f x → is_marked new f ≡ (is_marked c f || caught_by_some its (x ∷ []) f)
          → Decides (caught_by_some its (x ∷ [])) (CaughtBySome its (x ∷ [])) (CaughtByNone its (x ∷ [])) f → Marked new f
      either (inl m) mean some = all_kept f m
      either (inr k) mean some =
          true-marked new f n its h (mean ∙ or_right (is_marked c f) (some.passes.1 (x, Memᴰ.head refl, k)))

  pub adds : Adds n words x c new
  adds = record { gs = its; circuit = circuit-is n words ok; marks = newly; keeps = all_kept; only = only_faults; full = still_full }

pub counts : (n : ℕ) (words : List ℕ) (c : Coverage) (class : ℕ) → Sound n words
    → Counts n words c class (told_of (is_marked c) (class_faults n (gates_of words) class))
counts n words c class ok =
    let gs : List Gate = gates_of words in
    let theirs = class_is n gs ok.gates_ok class in
    record {
      gs = gs;
      circuit = circuit-is n words ok;
      faults = class_faults n gs class;
      of_class = theirs;
      verdict = verdict-is (is_marked c) (Marked c) (Unmarked c) (class_faults n gs class)
          (all_map (λ f k. decides_marked c f n gs k.1) (class_faults n gs class) theirs.each-is);
    }
