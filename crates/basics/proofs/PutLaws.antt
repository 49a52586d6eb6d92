-- Laws of runs of stores: in two parts, from the front, and over a whole list.
use Prim.Native.Nat.{ℕ, suc, ◌+◌, ◌≤◌}
use mathlib.Core.Path.{◌≡◌, ap, ◌∙◌}
use mathlib.Core.List.{List, [], ◌∷◌, ◌++◌, append-nil}
use native.Mathlib.Omega.{arith}
use lib.ListN.{length, drop, set, drop_of_length-le}
use lib.Seq.{sets, sets-eq}

-- a run of stores in two parts
pub sets-append : (l : List ℕ) (i k : ℕ) (xs ys : List ℕ) → i + length xs ≡ k → sets (sets l i xs) k ys ≡ sets l i (xs ++ ys)
sets-append l i k [] ys e = let f : k ≡ i = omega arith in rw f
sets-append l i k (a ∷ xs) ys e = sets-append (set l i a) (suc i) k xs ys (omega arith)

-- a run of stores from the front, and over the whole list
pub sets_front : (l xs : List ℕ) → length xs ≤ length l → sets l 0 xs ≡ xs ++ drop (length xs) l
sets_front l xs h = let e : 0 + length xs ≡ length xs = omega arith in sets-eq xs l 0 (omega arith) ∙ rw e

pub sets-all : (l xs : List ℕ) → length xs ≡ length l → sets l 0 xs ≡ xs
sets-all l xs e = sets_front l xs (omega arith) ∙ ap (λ r. xs ++ r) (drop_of_length-le l {i = length xs} (omega arith)) ∙ append-nil xs
