-- Laws of fault lists and sets: the stuck-at faults of a circuit, what a set leaves uncaught of a list, when a set is complete.
use Rattle.std.proofs.Common.{ℕ, ◌+◌, ◌≤◌, ◌≡◌, refl, sym, ap, ◌∙◌, ◌↔◌, Bool, true, false, not, ◌&&◌, ◌||◌, List, [], ◌∷◌, length}
use Rattle.std.proofs.Math.Bool.{or-false, not-not}
use Rattle.basics.specs.Choice.{count}
use Rattle.basics.specs.Lists.{keep, some, All}
use Rattle.basics.proofs.Lists.{length-keep, keep-parts, keep-le, keep-cong, keep-keep, all_keep, keep_none, none_kept}
use Rattle.words.specs.Word.{bit}
use Rattle.circuit.specs.declared.Gate.{Gate}
use Rattle.faults.specs.Sites.{sites}
use Rattle.simulator.specs.Faulty.{caught}
use Rattle.faults.specs.Stuck.{StuckOk}
use Rattle.faults.specs.declared.Fault.{Fault}
use Rattle.faults.specs.Classes.{fault_of, stuck_faults}
use Rattle.judge.specs.Judging.{caught_by_some, uncaught_of}
use Rattle.marking.proofs.MarkLaws.{stuck_of}
use Rattle.testsets.specs.Sets.{Complete, score}
use Rattle.faults.proofs.ClassParts.{all_stuck, stuck_all}
use Rattle.faults.proofs.SiteCount.{site_below}

-- ---- all stuck-at faults of a circuit

pub stuck_ok : (n : ℕ) (gs : List Gate) → All (StuckOk n (length gs)) (stuck_faults n gs)
stuck_ok n gs = all_stuck (StuckOk n (length gs)) n gs (λ i j v hi o hv. stuck_of n gs i j v hi (site_below n gs i j o) hv)

-- ---- the score of a vector

pub score-cons : (gs : List Gate) (f : Fault) (fs : List Fault) (x : ℕ) → score gs (f ∷ fs) x ≡ count (caught gs f x) + score gs fs x
unfolding score
score-cons gs f fs x = length-keep (λ h. caught gs h x) f fs

-- ---- what is uncaught

-- the faults that a vector catches and those that it leaves are all
pub score-uncaught : (gs : List Gate) (fs : List Fault) (x : ℕ) → score gs fs x + length (uncaught_of gs (x ∷ []) fs) ≡ length fs
unfolding score uncaught_of caught_by_some some
score-uncaught gs fs x =
    ap (λ l. length (keep (λ f. caught gs f x) fs) + length l) (keep-cong (λ f. ap not (or-false (caught gs f x))) fs)
    ∙ keep-parts (λ f. caught gs f x) fs

not-or : (b c : Bool) → not (b || false) && not c ≡ not (b || c)
not-or true c = refl
not-or false c = refl

-- what a vector and then others leave
pub uncaught-cons : (gs : List Gate) (x : ℕ) (xs : List ℕ) (fs : List Fault)
    → uncaught_of gs xs (uncaught_of gs (x ∷ []) fs) ≡ uncaught_of gs (x ∷ xs) fs
unfolding uncaught_of caught_by_some some
uncaught-cons gs x xs fs =
    keep-keep (λ f. not (caught gs f x || false)) (λ f. not (some (caught gs f) xs)) fs
    ∙ keep-cong (λ f. not-or (caught gs f x) (some (caught gs f) xs)) fs

pub all-uncaught : (P : Fault → Type 0) (gs : List Gate) (xs : List ℕ) (fs : List Fault) → All P fs → All P (uncaught_of gs xs fs)
unfolding uncaught_of
all-uncaught P gs xs fs w = all_keep P (λ f. not (caught_by_some gs xs f)) fs w

pub uncaught-le : (gs : List Gate) (xs : List ℕ) (fs : List Fault) → length (uncaught_of gs xs fs) ≤ length fs
unfolding uncaught_of
uncaught-le gs xs fs = keep-le (λ f. not (caught_by_some gs xs f)) fs

pub uncaught-nil : (gs : List Gate) (xs : List ℕ) → uncaught_of gs xs [] ≡ []
unfolding uncaught_of keep
uncaught-nil gs xs = refl

-- ---- completeness, fault by fault

pub complete_iff : (n : ℕ) (gs : List Gate) (xs : List ℕ)
    → Complete n gs xs ↔ ((i j v : ℕ) → i ≤ length gs → bit (sites n gs i) j ≡ 1 → v ≤ 1 → caught_by_some gs xs (fault_of 1 i j v) ≡ true)
unfolding uncaught_of
complete_iff n gs xs = (
  λ e i j v hi o hv.
      sym (not-not (caught_by_some gs xs (fault_of 1 i j v)))
      ∙ ap not (stuck_all (λ f. not (caught_by_some gs xs f) ≡ false) n gs
      (none_kept (λ f. not (caught_by_some gs xs f)) (stuck_faults n gs) e) i j v hi o hv),
  λ h. keep_none (λ f. not (caught_by_some gs xs f)) (stuck_faults n gs)
      (all_stuck (λ f. not (caught_by_some gs xs f) ≡ false) n gs (λ i j v hi o hv. ap not (h i j v hi o hv))),
)
