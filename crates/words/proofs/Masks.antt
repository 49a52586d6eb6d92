-- Laws of masks: all lines of a mask are 1, and the mask of all lines.
use Rattle.std.proofs.Common.{ℕ, zero, suc, ◌-◌, ◌/◌, ◌^◌, ◌<◌, ◌≡◌, sym, ap, ◌∙◌, ◌↔◌, true, ◌&&◌, arith, pow_pos, bit_and, eqb, eq-eqb, eqb-true}
use mathlib.Core.Logic.{by_cases}
use native.Mathlib.Decide.{dec_le}
use lib.Pow.{ones_lt}
use lib.Bits.{and_zero_r}
use Rattle.basics.proofs.Tests.{bool_ext, and-true, and_both, by_equal}
use Rattle.words.specs.Word.{bit, flip, force, all_on, all_ones}
use Rattle.words.proofs.Bits.{by_bit, bit-and, bit_lowest, bit_half, bit_above, word_ext_all}
use Rattle.words.proofs.Lines.{bit-flip-same, bit_flip_other, bit_force_other}

pub all_on_iff : (mask s : ℕ) → (all_on mask s ≡ true) ↔ ((j : ℕ) → bit mask j ≡ 1 → bit s j ≡ 1)
unfolding all_on
all_on_iff mask s = (
  λ t j e.
      let seen : bit_and (bit s j) 1 ≡ 1 = ap (bit_and (bit s j)) (sym e) ∙ sym (bit-and s mask j)
      ∙ ap (λ x. bit x j) (eqb-true (bit_and s mask) mask t) ∙ e in
      by_bit s j (λ z. z ∙ ap (λ x. bit_and x 1) (sym z) ∙ seen) (λ o. o),
  λ h. eq-eqb (bit_and s mask) mask (word_ext_all (bit_and s mask) mask (λ j.
      bit-and s mask j ∙ by_bit mask j (λ z. rw z (and_zero_r (bit s j))) (λ o. rw (o, h j o)))),
)

-- a line outside the mask does not matter
pub all_on-flip : (mask s t : ℕ) → bit mask t ≡ 0 → all_on mask (flip s t) ≡ all_on mask s
unfolding all_on
all_on-flip mask s t e = ap (λ x. eqb x mask) (word_ext_all (bit_and (flip s t) mask) (bit_and s mask) (λ j.
    let same : bit_and (bit (flip s t) j) (bit mask j) ≡ bit_and (bit s j) (bit mask j) =
    by_equal t j
    (λ q. rw (← q, e) (and_zero_r (bit (flip s t) t) ∙ sym (and_zero_r (bit s t))))
    (λ d. ap (λ x. bit_and x (bit mask j)) (bit_flip_other s t j d)) in
    bit-and (flip s t) mask j ∙ same ∙ sym (bit-and s mask j)))

-- one more line in the mask is one more line to be 1
pub all_on-more : (mask s c : ℕ) → bit mask c ≡ 0 → all_on (flip mask c) s ≡ (eqb (bit s c) 1 && all_on mask s)
all_on-more mask s c e = bool_ext
    (λ t. and-true
    (eq-eqb (bit s c) 1 ((all_on_iff (flip mask c) s).0 t c (omega (arith, bit-flip-same mask c))))
    ((all_on_iff mask s).1 (λ j o. (all_on_iff (flip mask c) s).0 t j (bit_flip_other mask c j (λ q. omega (arith, ap (bit mask) q)) ∙ o))))
    (λ t. let both = and_both (eqb (bit s c) 1) (all_on mask s) t in
    (all_on_iff (flip mask c) s).1 (λ j o. by_equal c j
    (λ q. ap (bit s) (sym q) ∙ eqb-true (bit s c) 1 both.0)
    (λ d. (all_on_iff mask s).0 both.1 j (sym (bit_flip_other mask c j d) ∙ o))))

-- all of n lines are 1
ones_bit : (n j : ℕ) → j < n → bit (2 ^ n - 1) j ≡ 1
ones_bit zero j h = absurd (omega arith)
ones_bit (suc n) zero h = bit_lowest (2 ^ suc n - 1) ∙ omega (arith, pow_pos n)
ones_bit (suc n) (suc j) h =
    let half : (2 ^ suc n - 1) / 2 ≡ 2 ^ n - 1 = omega (arith, pow_pos n) in
    bit_half (2 ^ suc n - 1) j ∙ ap (λ s. bit s j) half ∙ ones_bit n j (omega arith)

pub bit-all_ones : (n j : ℕ) → j < n → bit (all_ones n) j ≡ 1
unfolding all_ones
bit-all_ones n j h = ones_bit n j h

pub all_ones-lt : (n : ℕ) → all_ones n < 2 ^ n
unfolding all_ones
all_ones-lt n = ones_lt n

-- all lines of a mask on n lines are 1 where all n lines are
pub all_on_ones : (n mask : ℕ) → mask < 2 ^ n → all_on mask (all_ones n) ≡ true
all_on_ones n mask h = (all_on_iff mask (all_ones n)).1 (λ j o. by_cases (dec_le n j)
    (λ above. absurd (omega (arith, bit_above n mask j h above)))
    (λ below. bit-all_ones n j (omega arith)))

-- and where all but one are, that is none of the mask
pub all_on_but : (n mask j : ℕ) → mask < 2 ^ n → bit mask j ≡ 0 → all_on mask (force (all_ones n) j 0) ≡ true
all_on_but n mask j h off = (all_on_iff mask (force (all_ones n) j 0)).1 (λ k o. by_equal j k
    (λ e. absurd (omega (arith, ap (bit mask) e)))
    (λ d. bit_force_other (all_ones n) j 0 k d ∙ (all_on_iff mask (all_ones n)).0 (all_on_ones n mask h) k o))
