-- How many entries pass a test: of a range one, or two at least, and of two tests that no entry passes both.
use Prim.Native.Nat.{ℕ, zero, suc, ◌+◌, ◌≤◌, ◌<◌}
use mathlib.Core.Path.{◌≡◌, refl, ap, sym, ◌∙◌}
use mathlib.Core.Logic.{◌≢◌}
use mathlib.Core.Bool.{Bool, true, false, ◌&&◌, ◌||◌, false≢true}
use mathlib.Core.List.{List, [], ◌∷◌}
use native.Mathlib.Omega.{arith}
use lib.ListN.{length}
use Rattle.basics.specs.Choice.{count}
use Rattle.basics.specs.Lists.{up_from, keep, All}
use Rattle.basics.proofs.Tests.{by_equal}
use Rattle.basics.proofs.Lists.{length-keep, keep_none, all-up_from}

-- the first number, and the others
kept_first : (p : ℕ → Bool) (a k : ℕ) → length (keep p (up_from a (suc k))) ≡ count (p a) + length (keep p (up_from (suc a) k))
unfolding up_from
kept_first p a k = length-keep p a (up_from (suc a) k)

-- a number that passes is one at least
pub kept_some : (p : ℕ → Bool) (a k i : ℕ) → p i ≡ true → a ≤ i → i < a + k → 1 ≤ length (keep p (up_from a k))
kept_some p a zero i e l m = absurd (omega arith)
kept_some p a (suc k) i e l m = by_equal a i
    (λ q. let c : count (p a) ≡ 1 = ap count (ap p q ∙ e) in omega (arith, kept_first p a k))
    (λ d. omega (arith, kept_first p a k, kept_some p (suc a) k i e (omega arith) (omega arith)))

-- two numbers that pass are two at least
pub kept_two : (p : ℕ → Bool) (a k i j : ℕ) → p i ≡ true → p j ≡ true → a ≤ i → i < j → j < a + k → 2 ≤ length (keep p (up_from a k))
kept_two p a zero i j e f l m r = absurd (omega arith)
kept_two p a (suc k) i j e f l m r = by_equal a i
    (λ q. let c : count (p a) ≡ 1 = ap count (ap p q ∙ e) in omega (arith, kept_first p a k, kept_some p (suc a) k j f (omega arith) (omega arith)))
    (λ d. omega (arith, kept_first p a k, kept_two p (suc a) k i j e f (omega arith) m (omega arith)))

-- one number that passes where no other does is one
pub kept_one : (p : ℕ → Bool) (a k i : ℕ) → p i ≡ true → a ≤ i → i < a + k → ((j : ℕ) → i ≢ j → p j ≡ false) → length (keep p (up_from a k)) ≡ 1
kept_one p a zero i e l m h = absurd (omega arith)
kept_one p a (suc k) i e l m h = by_equal a i
    (λ q.
    let c : count (p a) ≡ 1 = ap count (ap p q ∙ e) in
    let none : length (keep p (up_from (suc a) k)) ≡ 0 = ap length
    (keep_none p (up_from (suc a) k) (all-up_from _ (suc a) k (λ j f g. h j (λ r. omega arith)))) in
    omega (arith, kept_first p a k))
    (λ d. let c : count (p a) ≡ 0 = ap count (h a (λ r. d (sym r))) in omega
    (arith, kept_first p a k, kept_one p (suc a) k i e (omega arith) (omega arith) h))

-- two tests that no entry passes both
count_either : (b c : Bool) → b && c ≡ false → count b + count c ≡ count (b || c)
count_either true true e = absurd (false≢true (sym e))
count_either true false e = refl
count_either false c e = omega arith

pub kept_either {ℓ} : {A : Type ℓ} (p q : A → Bool) (ys : List A) → All (λ a. p a && q a ≡ false) ys
    → length (keep p ys) + length (keep q ys) ≡ length (keep (λ a. p a || q a) ys)
unfolding keep
kept_either p q [] w = refl
kept_either p q (a ∷ ys) w =
    omega (
      arith,
      length-keep p a ys,
      length-keep q a ys,
      length-keep (λ y. p y || q y) a ys,
      count_either (p a) (q a) w.0,
      kept_either p q ys w.1,
    )
