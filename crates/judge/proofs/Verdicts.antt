-- Laws of verdicts: what is caught and what is not, of any list of faults and any vectors.
use Rattle.std.specs.Prelude.{ℕ, ◌≡◌, ◌↔◌, true, not, List, []}
use Rattle.std.proofs.Common.{ap}
use Rattle.std.proofs.lemmas.Bool.{not-false}
use mathlib.Core.List.{Memᴰ}
use Rattle.basics.specs.Lists.{All}
use Rattle.basics.proofs.All.{all_map}
use Rattle.basics.proofs.Lists.{keep-cong, keep_none, none_kept, some_entry, entry_some}
use Rattle.basics.proofs.ListMore.{some_same}
use Rattle.circuit.specs.declared.Gate.{Gate}
use Rattle.simulator.specs.Faulty.{caught}
use Rattle.faults.specs.declared.Fault.{Fault}
use Rattle.judge.specs.Judging.{caught_by_some, caught_of, uncaught_of}

-- two sets that have the same vectors, in any order and any number of times
abbrev pub SameVectors : List ℕ → List ℕ → Type 0
SameVectors xs ys = ((x : ℕ) → Memᴰ x xs → Memᴰ x ys) × ((x : ℕ) → Memᴰ x ys → Memᴰ x xs)

-- ---- one fault

module _ (gs : List Gate) (xs : List ℕ) (f : Fault) where
  pub some_catches : caught_by_some gs xs f ≡ true → (x : ℕ) × Memᴰ x xs × (caught gs f x ≡ true)
  unfolding caught_by_some
  some_catches e = some_entry (caught gs f) xs e

  pub catches_some : (x : ℕ) → Memᴰ x xs → caught gs f x ≡ true → caught_by_some gs xs f ≡ true
  unfolding caught_by_some
  catches_some x m e = entry_some (caught gs f) m e

  -- order and repeats change nothing
  pub caught-same : (ys : List ℕ) → SameVectors xs ys → caught_by_some gs xs f ≡ caught_by_some gs ys f
  unfolding caught_by_some
  caught-same ys same = some_same (caught gs f) xs ys same.0 same.1

-- ---- a list of faults

module _ (gs : List Gate) (xs : List ℕ) (fs : List Fault) where
  -- no fault is uncaught where every fault is caught by some vector, and only there
  pub complete_iff : (uncaught_of gs xs fs ≡ []) ↔ All (λ f. (x : ℕ) × Memᴰ x xs × (caught gs f x ≡ true)) fs
  unfolding uncaught_of
  complete_iff = (
    λ e. all_map (λ f h. some_catches gs xs f (not-false (caught_by_some gs xs f) h)) fs (none_kept (λ f. not (caught_by_some gs xs f)) fs e),
    λ w. keep_none (λ f. not (caught_by_some gs xs f)) fs (all_map (λ f h. ap not (catches_some gs xs f h.0 h.1 h.2)) fs w),
  )

  pub caught_of-same : (ys : List ℕ) → SameVectors xs ys → caught_of gs xs fs ≡ caught_of gs ys fs
  unfolding caught_of
  caught_of-same ys same = keep-cong (λ f. caught-same gs xs f ys same) fs

  pub uncaught-same : (ys : List ℕ) → SameVectors xs ys → uncaught_of gs xs fs ≡ uncaught_of gs ys fs
  unfolding uncaught_of
  uncaught-same ys same = keep-cong (λ f. ap not (caught-same gs xs f ys same)) fs
