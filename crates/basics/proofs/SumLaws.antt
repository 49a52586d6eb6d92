-- Laws of sums over numbers that count up.
use Prim.Native.Nat.{ℕ, zero, suc, ◌+◌, ◌-◌, ◌*◌, ◌≤◌, ◌<◌, zero-le}
use mathlib.Core.Path.{◌≡◌, refl, sym, ap, ap₂, ◌∙◌}
use mathlib.Core.List.{List}
use native.Mathlib.Nat.{le_refl, zero-mul}
use native.Mathlib.Numerals.{add-one}
use native.Mathlib.Omega.{arith}
use lib.ListN.{length, length-append}
use Rattle.basics.specs.Lists.{up_from, each}
use Rattle.basics.specs.Sums.{sum_from}

-- a sum up to e, a turn at a time: one term more, and the end
pub sum_more : (f : ℕ → ℕ) (i e : ℕ) → i < e → sum_from f i (e - i) ≡ f i + sum_from f (i + 1) (e - (i + 1))
unfolding sum_from
sum_more f i e h = let k : e - i ≡ suc (e - (i + 1)) = omega arith in ap (sum_from f i) k ∙ ap (λ j. f i + sum_from f j (e - (i + 1))) (sym (add-one i))

pub sum_end : (f : ℕ → ℕ) (i e : ℕ) → e ≤ i → sum_from f i (e - i) ≡ 0
unfolding sum_from
sum_end f i e h = let k : e - i ≡ 0 = omega arith in ap (sum_from f i) k

-- equal terms
pub sum-cong : (f g : ℕ → ℕ) (a k : ℕ) → ((i : ℕ) → a ≤ i → i < a + k → f i ≡ g i) → sum_from f a k ≡ sum_from g a k
unfolding sum_from
sum-cong f g a zero h = refl
sum-cong f g a (suc k) h = ap₂ ◌+◌ (h a (le_refl a) (omega arith)) (sum-cong f g (suc a) k (λ i l m. h i (omega arith) (omega arith)))

-- two sums over the same numbers
pub sum-add : (f g : ℕ → ℕ) (a k : ℕ) → sum_from (λ i. f i + g i) a k ≡ sum_from f a k + sum_from g a k
unfolding sum_from
sum-add f g a zero = refl
sum-add f g a (suc k) = omega (arith, sum-add f g (suc a) k)

-- each term a number of times
pub sum_times : (c : ℕ) (f : ℕ → ℕ) (a k : ℕ) → sum_from (λ i. c * f i) a k ≡ c * sum_from f a k
unfolding sum_from
sum_times c f a zero = omega arith
sum_times c f a (suc k) = omega (arith, sum_times c f (suc a) k)

-- one term again and again
pub sum_same : (c a k : ℕ) → sum_from (λ i. c) a k ≡ k * c
unfolding sum_from
sum_same c a zero = sym (zero-mul c)
sum_same c a (suc k) = omega (arith, sum_same c (suc a) k)

-- no term above a number
pub sum-most : (f : ℕ → ℕ) (c a k : ℕ) → ((i : ℕ) → f i ≤ c) → sum_from f a k ≤ k * c
unfolding sum_from
sum-most f c a zero h = zero-le
sum-most f c a (suc k) h = omega (arith, h a, sum-most f c (suc a) k h)

-- the length of a list that is made number by number
pub length-sum {ℓ} : {B : Type ℓ} (f : ℕ → List B) (a k : ℕ) → length (each f (up_from a k)) ≡ sum_from (λ i. length (f i)) a k
unfolding sum_from each up_from
length-sum f a zero = refl
length-sum f a (suc k) = length-append (f a) (each f (up_from (suc a) k)) ∙ ap (λ m. length (f a) + m) (length-sum f (suc a) k)
