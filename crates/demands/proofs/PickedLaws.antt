-- The picks that the contract of the compact set cites are the best inputs again and again, and its bound is the logarithm's.
use Prim.Native.Nat.{ℕ, zero, suc, ◌^◌, ◌≤◌, ◌<◌}
use mathlib.Core.Path.{◌≡◌, refl, sym, ap, subst}
use mathlib.Core.Bool.{not, or-false}
use mathlib.Core.List.{List, [], ◌∷◌, nil≢cons}
use native.Mathlib.Omega.{arith}
use lib.ListN.{length}
use Rattle.basics.specs.Lists.{keep, some, All}
use Rattle.basics.proofs.All.{all_map}
use Rattle.basics.proofs.Lists.{keep-cong}
use Rattle.circuit.specs.Sound.{AllOk}
use Rattle.circuit.specs.declared.Gate.{Gate}
use Rattle.simulator.specs.Faulty.{caught}
use Rattle.faults.specs.Stuck.{StuckOk}
use Rattle.faults.specs.declared.Fault.{Fault}
use Rattle.judge.specs.Judging.{uncaught_of, caught_by_some}
use Rattle.testsets.specs.Sets.{score, best, picks}
use Rattle.testsets.proofs.SetLaws.{all-uncaught}
use Rattle.testsets.proofs.Halving.{best-lt, best_above, best_half, half_uncaught}
use Rattle.demands.proofs.Machine.{Caught, Missed, Has}
use Rattle.demands.proofs.HasLaws.{has_line}
use Rattle.demands.proofs.FaultLists.{Kept, Best, Picks}
use Rattle.demands.proofs.VerdictLaws.{Decides, kept_keep, kept_is, decides_not, decides_caught}
use Rattle.testsets.proofs.PickLaws.{best-first}

module _ (n : ℕ) (gs : List Gate) (ok : AllOk n gs) where
  -- faults of class 1
  abbrev Stuck : Fault → Type 0
  Stuck f = (f.class ≡ 1) × Has n gs f

  decided : (x : ℕ) (fs : List Fault) → All Stuck fs → All (Decides (λ f. caught gs f x) (λ f. Caught gs f x) (λ f. Missed gs f x)) fs
  decided x fs w = all_map (λ f k. decides_caught n gs x f k.1) fs w

  stuck_lines : (fs : List Fault) → All Stuck fs → All (StuckOk n (length gs)) fs
  stuck_lines fs w = all_map (λ f k. has_line n gs f k.1 k.0) fs w

  best-is : (fs : List Fault) → All Stuck fs → Best n gs fs (best n gs fs)
  unfolding score
  best-is fs w =
      let v : ℕ = best n gs fs in
      record {
        input = best-lt n gs fs;
        caught = keep (λ f. caught gs f v) fs;
        caught-are = kept_keep _ _ _ fs (decided v fs w);
        most = λ x h theirs k. subst (λ l. length l ≤ score gs fs v) (sym (kept_is _ _ _ fs theirs (decided x fs w) k)) (best_above n gs fs x h);
        smallest = λ x h theirs k. subst (λ l. length l < score gs fs v) (sym (kept_is _ _ _ fs theirs (decided x fs w) k)) (best-first gs fs n x h);
        half = best_half n gs ok fs (stuck_lines fs w);
      }

  -- what one vector leaves
  left_one : (v : ℕ) (fs : List Fault) → uncaught_of gs (v ∷ []) fs ≡ keep (λ f. not (caught gs f v)) fs
  unfolding uncaught_of caught_by_some some
  left_one v fs = keep-cong (λ f. ap not (or-false (caught gs f v))) fs

  left_kept : (v : ℕ) (fs : List Fault) → All Stuck fs → Kept (λ f. Missed gs f v) (λ f. Caught gs f v) fs (uncaught_of gs (v ∷ []) fs)
  left_kept v fs w = subst (Kept (λ f. Missed gs f v) (λ f. Caught gs f v) fs) (sym (left_one v fs))
      (kept_keep _ _ _ fs (all_map (λ f d. decides_not (λ h. caught gs h v) (λ h. Caught gs h v) (λ h. Missed gs h v) f d) fs (decided v fs w)))

  -- fewer than 2 ^ k faults are picked off in k picks
  pub picks-are : (k : ℕ) (fs : List Fault) → All Stuck fs → length fs < 2 ^ k → Picks n gs fs (picks k n gs fs)
  unfolding picks
  picks-are zero [] w h = refl
  picks-are zero (f ∷ fs) w h = absurd (omega arith)
  picks-are (suc k) [] w h = refl
  picks-are (suc k) (f ∷ fs) w h =
      let v : ℕ = best n gs (f ∷ fs) in
      let rest : List Fault = uncaught_of gs (v ∷ []) (f ∷ fs) in (
        λ e. nil≢cons (sym e),
        best-is (f ∷ fs) w,
        (
          rest,
          left_kept v (f ∷ fs) w,
          picks-are k rest (all-uncaught Stuck gs (v ∷ []) (f ∷ fs) w) (omega (arith, half_uncaught n gs ok (f ∷ fs) (stuck_lines (f ∷ fs) w))),
        ),
      )
