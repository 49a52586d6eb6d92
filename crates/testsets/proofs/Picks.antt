-- Picking the best vector again and again leaves no stuck-at fault after 2 + log2 (number of sites) picks.
use Rattle.std.specs.Prelude.{ℕ, zero, suc, ◌+◌, ◌*◌, ◌^◌, ◌≤◌, ◌<◌, ◌≡◌, refl, List, [], ◌∷◌, length}
use Rattle.std.proofs.Common.{zero-le, suc-le-suc, ap, mul-zero, le_of_eq, lt_of_le_of_lt, arith}
use Rattle.basics.specs.Lists.{All}
use Rattle.circuit.specs.Sound.{AllOk}
use Rattle.circuit.specs.declared.Gate.{Gate}
use Rattle.faults.specs.Stuck.{StuckOk}
use Rattle.faults.specs.declared.Fault.{Fault}
use Rattle.faults.specs.Classes.{stuck_faults}
use Rattle.judge.specs.Judging.{uncaught_of}
use Rattle.testsets.specs.Log2.{log2}
use Rattle.testsets.specs.Sets.{Complete, best, picks, bound, compact_set}
use Rattle.faults.specs.Sites.{site_count}
use Rattle.testsets.proofs.Log2Laws.{log2-lt}
use Rattle.testsets.proofs.TotalLaws.{pow_double}
use Rattle.testsets.proofs.SetLaws.{stuck_ok, uncaught-cons, uncaught-nil, uncaught-le, all-uncaught}
use Rattle.faults.proofs.SiteCount.{stuck_sites}
use Rattle.testsets.proofs.Halving.{best-lt, half_uncaught}

-- a list that 2 ^ k times is shorter than 2 ^ k is empty
nil_of_few : (k : ℕ) (fs : List Fault) → 2 ^ k * length fs < 2 ^ k → fs ≡ []
nil_of_few k [] h = refl
nil_of_few k (f ∷ fs) h = absurd (omega arith)

-- k picks leave at most one of 2 ^ k faults
pub picks-uncaught : (n : ℕ) (gs : List Gate) → AllOk n gs → (k : ℕ) (fs : List Fault) → All (StuckOk n (length gs)) fs
    → 2 ^ k * length (uncaught_of gs (picks k n gs fs) fs) ≤ length fs
unfolding picks
picks-uncaught n gs ok zero fs w = omega (arith, uncaught-le gs [] fs)
picks-uncaught n gs ok (suc k) [] w = rw (uncaught-nil gs []) (le_of_eq (mul-zero (2 ^ suc k)))
picks-uncaught n gs ok (suc k) (f ∷ fs) w =
    let b : ℕ = best n gs (f ∷ fs) in
    let rest : List Fault = uncaught_of gs (b ∷ []) (f ∷ fs) in
    let ih = picks-uncaught n gs ok k rest (all-uncaught (StuckOk n (length gs)) gs (b ∷ []) (f ∷ fs) w) in
    let end : ℕ = length (uncaught_of gs (picks k n gs rest) rest) in
    rw (← uncaught-cons gs b (picks k n gs rest) (f ∷ fs), pow_double k end) (omega (arith, half_uncaught n gs ok (f ∷ fs) w))

-- so fewer than 2 ^ k faults are all caught
pub picks_complete : (n : ℕ) (gs : List Gate) → AllOk n gs → (k : ℕ) (fs : List Fault) → All (StuckOk n (length gs)) fs
    → length fs < 2 ^ k → uncaught_of gs (picks k n gs fs) fs ≡ []
picks_complete n gs ok k fs w h = nil_of_few k (uncaught_of gs (picks k n gs fs) fs) (lt_of_le_of_lt (picks-uncaught n gs ok k fs w) h)

-- fewer than 2 ^ m take no more than m vectors, however many picks are allowed
pub picks_few : (n : ℕ) (gs : List Gate) → AllOk n gs → (k m : ℕ) (fs : List Fault) → All (StuckOk n (length gs)) fs
    → length fs < 2 ^ m → length (picks k n gs fs) ≤ m
unfolding picks
picks_few n gs ok zero m fs w h = zero-le
picks_few n gs ok (suc k) m [] w h = zero-le
picks_few n gs ok (suc k) zero (f ∷ fs) w h = absurd (omega arith)
picks_few n gs ok (suc k) (suc m) (f ∷ fs) w h =
    let b : ℕ = best n gs (f ∷ fs) in
    let rest : List Fault = uncaught_of gs (b ∷ []) (f ∷ fs) in
    suc-le-suc (picks_few n gs ok k m rest (all-uncaught (StuckOk n (length gs)) gs (b ∷ []) (f ∷ fs) w)
    (omega (arith, half_uncaught n gs ok (f ∷ fs) w)))

-- every pick is an input
pub picks-lt : (n : ℕ) (gs : List Gate) (k : ℕ) (fs : List Fault) → All (λ x. x < 2 ^ n) (picks k n gs fs)
unfolding picks
picks-lt n gs zero fs = tt
picks-lt n gs (suc k) [] = tt
picks-lt n gs (suc k) (f ∷ fs) = (best-lt n gs (f ∷ fs), picks-lt n gs k (uncaught_of gs (best n gs (f ∷ fs) ∷ []) (f ∷ fs)))

-- ---- the compact set

-- the bound as a power: above twice the number of sites, and where there are sites at most four times as much
bound_above : (n : ℕ) (gs : List Gate) → 2 * site_count n gs < 2 ^ bound n gs
unfolding bound
bound_above n gs =
    let S : ℕ = site_count n gs in
    let p : 2 ^ (2 + log2 S) ≡ 2 ^ suc (suc (log2 S)) = ap (λ e. 2 ^ e) (omega arith) in
    omega (arith, log2-lt S)

-- there are fewer stuck-at faults than that power
pub few_faults : (n : ℕ) (gs : List Gate) → length (stuck_faults n gs) < 2 ^ bound n gs
few_faults n gs = rw (stuck_sites n gs) (bound_above n gs)

-- so bound picks catch them all, and bound vectors are enough
pub compact_complete : (n : ℕ) (gs : List Gate) → AllOk n gs → Complete n gs (compact_set n gs)
unfolding compact_set
compact_complete n gs ok = picks_complete n gs ok (bound n gs) (stuck_faults n gs) (stuck_ok n gs) (few_faults n gs)

pub compact_few : (n : ℕ) (gs : List Gate) → AllOk n gs → length (compact_set n gs) ≤ bound n gs
unfolding compact_set
compact_few n gs ok = picks_few n gs ok (bound n gs) (bound n gs) (stuck_faults n gs) (stuck_ok n gs) (few_faults n gs)

pub compact_lt : (n : ℕ) (gs : List Gate) → All (λ x. x < 2 ^ n) (compact_set n gs)
unfolding compact_set
compact_lt n gs = picks-lt n gs (bound n gs) (stuck_faults n gs)
