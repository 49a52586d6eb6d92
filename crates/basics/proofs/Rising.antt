-- Numbers that rise.
use Prim.Native.Nat.{ℕ, zero, suc, ◌<◌}
use mathlib.Core.Bool.{Bool, true, false}
use mathlib.Core.List.{List, [], ◌∷◌}
use Rattle.basics.specs.Choice.{choice}
use Rattle.basics.specs.Lists.{up_from, keep, All}
use Rattle.basics.proofs.Lists.{all-up_from, all_keep}

abbrev pub Rising : List ℕ → Type 0
Rising [] = Unit {0}
Rising (y ∷ ys) = All (λ z. y < z) ys × Rising ys

pub rising_up : (a k : ℕ) → Rising (up_from a k)
unfolding up_from
rising_up a zero = tt
rising_up a (suc k) = (all-up_from (λ z. a < z) (suc a) k (λ i l m. l), rising_up (suc a) k)

rising_pick : (b : Bool) (y : ℕ) (ys : List ℕ) → All (λ z. y < z) ys → Rising ys → Rising (choice b (y ∷ ys) ys)
rising_pick true y ys w r = (w, r)
rising_pick false y ys w r = r

pub rising_keep : (p : ℕ → Bool) (ys : List ℕ) → Rising ys → Rising (keep p ys)
unfolding keep
rising_keep p [] r = tt
rising_keep p (y ∷ ys) r = rising_pick (p y) y (keep p ys) (all_keep (λ z. y < z) p ys r.0) (rising_keep p ys r.1)
