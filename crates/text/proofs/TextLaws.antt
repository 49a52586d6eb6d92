-- Laws of text as bytes: what code puts, byte by byte, is the number in decimal or the bytes lent.
use Prim.Native.Nat.{ℕ, zero, suc, ◌+◌, ◌/◌, ◌%◌, ◌^◌, ◌<◌, ◌≤◌}
use mathlib.Core.Path.{◌≡◌, ap}
use mathlib.Core.List.{[], ◌∷◌, ◌++◌}
use native.Mathlib.Omega.{arith}
use native.Mathlib.Nat.{pow-suc}
use lib.ListN.{length, length-append}
use lib.Dec.{ltb}
use borrow.Author.Tests.{lt-ltb, le-ltb, ltb-true, ltb-false}
use Rattle.basics.specs.Choice.{choice}
use Rattle.basics.proofs.Tests.{by_test}
use Rattle.text.specs.Decimal.{digit, decimal_in, decimal}

-- ---- numbers

-- places beyond the number change nothing
enough : (m k x : ℕ) → x < m → x < k → decimal_in m x ≡ decimal_in k x
unfolding decimal_in
enough zero k x h g = absurd (omega arith)
enough (suc m) zero x h g = absurd (omega arith)
enough (suc m) (suc k) x h g = by_test (ltb x 10)
    (λ e. rw e)
    (λ e.
    let t = ltb-false x 10 e in
    ap (λ more. choice (ltb x 10) (digit x ∷ []) (more ++ (digit (x % 10) ∷ []))) (enough m k (x / 10) (omega arith) (omega arith)))

pub decimal_small : (x : ℕ) → x < 10 → decimal x ≡ digit x ∷ []
unfolding decimal decimal_in
decimal_small x h = rw (lt-ltb x 10 h)

pub decimal-more : (x : ℕ) → 10 ≤ x → decimal x ≡ decimal (x / 10) ++ (digit (x % 10) ∷ [])
unfolding decimal decimal_in
decimal-more x h = rw (le-ltb x 10 h) (ap (λ more. more ++ (digit (x % 10) ∷ [])) (enough x (suc (x / 10)) (x / 10) (omega arith) (omega arith)))

-- what holds of every digit, and of a number if it holds of the number without its last digit, holds of all numbers
pub by_digits {κ} : (P : ℕ → Type κ) → ((x : ℕ) → x < 10 → P x) → ((x : ℕ) → 10 ≤ x → P (x / 10) → P x) → (x : ℕ) → P x
by_digits P small more x = below (suc x) x (omega arith)
  where
    below : (bound x : ℕ) → x < bound → P x
    below zero x h = absurd (omega arith)
    below (suc bound) x h = by_test (ltb x 10)
        (λ e. small x (ltb-true x 10 e))
        (λ e. let t = ltb-false x 10 e in more x t (below bound (x / 10) (omega arith)))

-- a number below a power of ten has at most so many digits
pub digits_most : (places x : ℕ) → 1 ≤ places → x < 10 ^ places → length (decimal x) ≤ places
digits_most zero x p h = absurd (omega arith)
digits_most (suc places) x p h = by_test (ltb x 10)
    (λ e. rw (decimal_small x (ltb-true x 10 e)) (omega arith))
    (λ e.
    let t = ltb-false x 10 e in
    rw (decimal-more x t, length-append (decimal (x / 10)) (digit (x % 10) ∷ []))
    (omega (arith, digits_most places (x / 10) (some places (omega arith) h) (omega (arith, pow-suc 10 places)))))
  where
    some : (places : ℕ) → 10 ≤ x → x < 10 ^ suc places → 1 ≤ places
    some zero t h = absurd (omega (arith, pow-suc 10 0))
    some (suc places) t h = omega arith

-- the digits before the last leave room for it
pub room_more : (x : ℕ) → 10 ≤ x → length (decimal x) ≡ length (decimal (x / 10)) + 1
room_more x h = rw (decimal-more x h, length-append (decimal (x / 10)) (digit (x % 10) ∷ []))
