-- Laws of the logarithm: 2 ^ log2 m ≤ m < 2 ^ (1 + log2 m).
use Rattle.std.specs.Prelude.{ℕ, zero, suc, ◌*◌, ◌/◌, ◌^◌, ◌≤◌, ◌<◌, ◌≡◌, ltb}
use Rattle.std.proofs.Common.{le_refl, le_trans, le_of_lt, le_antisymm, le_of_suc-le-suc, lt_of_not-le, pow_pos, pow_mono, arith, ltb-true, ltb-false}
use Rattle.std.proofs.Math.Arith.{half_le}
use Rattle.basics.proofs.Tests.{by_test}
use Rattle.words.proofs.Bits.{lt_pow_self}
use Rattle.testsets.specs.Log2.{log2_in, log2}

log2_in-lt : (k m : ℕ) → m ≤ k → m < 2 ^ suc (log2_in k m)
unfolding log2_in
log2_in-lt zero m h = omega arith
log2_in-lt (suc k) m h = by_test (ltb m 2) (λ e. rw e (ltb-true m 2 e)) (λ e. rw e (omega (arith, log2_in-lt k (m / 2) (half_le h))))

log2_in-le : (k m : ℕ) → 1 ≤ m → 2 ^ log2_in k m ≤ m
unfolding log2_in
log2_in-le zero m h = h
log2_in-le (suc k) m h = by_test (ltb m 2) (λ e. rw e h) (λ e.
    let two : 2 ≤ m = ltb-false m 2 e in
    let twice : 2 ^ suc (log2_in k (m / 2)) ≤ m = omega (arith, log2_in-le k (m / 2) (omega arith)) in
    rw e twice)

pub log2-lt : (m : ℕ) → m < 2 ^ suc (log2 m)
unfolding log2
log2-lt m = log2_in-lt m m (le_refl m)

pub log2-le : (m : ℕ) → 1 ≤ m → 2 ^ log2 m ≤ m
unfolding log2
log2-le m h = log2_in-le m m h

-- it is the only one whose powers stand so around m
pub log2_is : (m k : ℕ) → 2 ^ k ≤ m → m < 2 * 2 ^ k → k ≡ log2 m
log2_is m k low high =
    le_antisymm
    (le_of_suc-le-suc (lt_of_not-le (λ (above : suc (log2 m) ≤ k). omega (arith, pow_mono above, log2-lt m))))
    (le_of_suc-le-suc (lt_of_not-le (λ (above : suc k ≤ log2 m). omega (arith, pow_mono above, log2-le m (omega (arith, pow_pos k))))))

-- it is not above the number
pub log2_le_self : (m : ℕ) → 1 ≤ m → log2 m ≤ m
log2_le_self m h = le_trans (le_of_lt (lt_pow_self (log2 m))) (log2-le m h)
