-- Tests that decide a property: what a test keeps of a list, and the verdict by it.
use Prim.Native.Nat.{ℕ}
use mathlib.Core.Path.{◌≡◌, refl, sym, ap, ◌∙◌, subst}
use mathlib.Core.Logic.{◌↔◌}
use mathlib.Core.Bool.{Bool, true, false, not, true≢false}
use mathlib.Core.List.{List, [], ◌∷◌}
use lib.ListN.{length}
use borrow.Author.Tests.{not-true, not-false}
use Rattle.basics.specs.Lists.{keep, some, All}
use Rattle.basics.proofs.Tests.{by_test, choice-true, choice-false}
use Rattle.basics.proofs.All.{all_map, all_front, all_back}
use Rattle.basics.proofs.Lists.{all_entry, some_entry, entry_some, none_kept}
use Rattle.basics.proofs.Kept.{none_some}
use Rattle.basics.proofs.ListMore.{first_kept}
use Rattle.circuit.specs.declared.Gate.{Gate}
use Rattle.simulator.specs.Faulty.{caught}
use Rattle.faults.specs.declared.Fault.{Fault}
use Rattle.judge.specs.Judging.{caught_by_some}
use Rattle.marking.specs.Firsts.{first_told}
use Rattle.demands.proofs.Machine.{Caught, Missed, Has}
use Rattle.demands.proofs.FaultyLaws.{caught_means, missed_means}
use Rattle.demands.proofs.FaultLists.{Kept, CaughtBySome, CaughtByNone, Shows, Verdict}
use Rattle.demands.proofs.FaultLists.Kept.{none, stays, goes}
use Rattle.demands.proofs.FaultLists.Shows.{complete, first}

-- a test passes exactly where the first property holds, and fails exactly where the second does
pub record Decides {A : Type 0} (p : A → Bool) (Yes No : A → Type 0) (a : A) : Type 0 where
  pub passes : (p a ≡ true) ↔ Yes a
  pub fails : (p a ≡ false) ↔ No a

-- ---- what is kept

module _ {A : Type 0} (p : A → Bool) (Yes No : A → Type 0) where
  pub kept_keep : (ys : List A) → All (Decides p Yes No) ys → Kept Yes No ys (keep p ys)
  unfolding keep
  kept_keep [] w = none
  kept_keep (a ∷ ys) w = by_test (p a)
      (λ t. subst (Kept Yes No (a ∷ ys)) (sym (choice-true t (a ∷ keep p ys) (keep p ys))) (stays (w.0.passes.0 t) (kept_keep ys w.1)))
      (λ t. subst (Kept Yes No (a ∷ ys)) (sym (choice-false t (a ∷ keep p ys) (keep p ys))) (goes (w.0.fails.0 t) (kept_keep ys w.1)))

  -- and nothing else is
  pub kept_is : (ys zs : List A) → All (Decides p Yes No) ys → Kept Yes No ys zs → zs ≡ keep p ys
  unfolding keep
  kept_is ys zs w none = refl
  kept_is ys zs w (stays {a = a} {ys = more} {zs = rest} h k) =
      ap (λ l. a ∷ l) (kept_is more rest w.1 k) ∙ sym (choice-true (w.0.passes.1 h) (a ∷ keep p more) (keep p more))
  kept_is ys zs w (goes {a = a} {ys = more} h k) = kept_is more zs w.1 k ∙ sym (choice-false (w.0.fails.1 h) (a ∷ keep p more) (keep p more))

-- the contrary test
pub decides_not : {A : Type 0} (p : A → Bool) (Yes No : A → Type 0) (a : A) → Decides p Yes No a → Decides (λ b. not (p b)) No Yes a
decides_not p Yes No a w = record {
  passes = (λ t. w.fails.0 (not-true (p a) t), λ h. ap not (w.fails.1 h));
  fails = (λ t. w.passes.0 (not-false (p a) t), λ h. ap not (w.passes.1 h));
}

-- ---- faults that a vector catches, and that some vector of a set does

module _ (n : ℕ) (gs : List Gate) where
  pub decides_caught : (x : ℕ) (f : Fault) → Has n gs f → Decides (λ h. caught gs h x) (λ h. Caught gs h x) (λ h. Missed gs h x) f
  decides_caught x f h = record { passes = caught_means n gs f h x; fails = missed_means n gs f h x }

  pub decides_some : (xs : List ℕ) (f : Fault) → Has n gs f → Decides (caught_by_some gs xs) (CaughtBySome gs xs) (CaughtByNone gs xs) f
  unfolding caught_by_some
  decides_some xs f h = record {
    passes = (
      λ t. let w = some_entry (caught gs f) xs t in (w.0, w.1, (caught_means n gs f h w.0).0 w.2),
      λ w. entry_some (caught gs f) w.1 ((caught_means n gs f h w.0).1 w.2),
    );
    fails = (
      λ t. all_map (λ x. (missed_means n gs f h x).0) xs (none_some (caught gs f) xs t),
      λ w. by_test (some (caught gs f) xs)
          (λ t.
          let c = some_entry (caught gs f) xs t in
          absurd (true≢false (sym c.2 ∙ (missed_means n gs f h c.0).1 (all_entry (Missed gs f) c.1 w))))
          (λ t. t),
    );
  }

-- ---- the verdict by a test

-- what is told of a list by a test
abbrev pub told_of : (Fault → Bool) → List Fault → List ℕ
told_of p fs = length (keep p fs) ∷ length fs ∷ first_told (keep (λ f. not (p f)) fs)

all_pass : (p : Fault → Bool) (Yes No : Fault → Type 0) (fs : List Fault) → All (Decides p Yes No) fs → All (λ f. not (p f) ≡ false) fs → All Yes fs
all_pass p Yes No [] w t = tt
all_pass p Yes No (f ∷ fs) w t = (w.0.passes.0 (not-false (p f) t.0), all_pass p Yes No fs w.1 t.1)

module _ (p : Fault → Bool) (Yes No : Fault → Type 0) (fs : List Fault) (decided : All (Decides p Yes No) fs) where
  shows_of : (left : List Fault) → keep (λ f. not (p f)) fs ≡ left → Shows Yes No fs (first_told left)
  shows_of [] e = complete (all_pass p Yes No fs decided (none_kept (λ f. not (p f)) fs e)) refl
  shows_of (f ∷ rest) e =
      let k = first_kept (λ h. not (p h)) fs f rest e in
      let parts = subst (All (Decides p Yes No)) k.parts decided in
      let front = all_front (Decides p Yes No) k.before (f ∷ k.after) parts in
      let back = all_back (Decides p Yes No) k.before (f ∷ k.after) parts in
      first k.before f k.after k.parts (all_pass p Yes No k.before front k.failed)
      (back.0.fails.0 (not-true (p f) k.passes)) refl

  pub verdict-is : Verdict Yes No fs (told_of p fs)
  verdict-is = record {
    caught = keep p fs;
    caught-are = kept_keep p Yes No fs decided;
    shown = first_told (keep (λ f. not (p f)) fs);
    values-are = refl;
    shows = shows_of (keep (λ f. not (p f)) fs) refl;
  }
