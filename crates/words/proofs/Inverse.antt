-- Laws of a word with all its lines inverted.
use Rattle.std.proofs.Common.{ℕ, ◌-◌, ◌^◌, ◌<◌, ◌≡◌, refl, ap, ◌∙◌, not, bit_xor, eqb}
use lib.Bits.{xor_lt, xor_zero_l}
use Rattle.words.specs.Word.{bit, all_ones}
use Rattle.words.specs.Inverse.{inverse}
use Rattle.words.proofs.Bits.{by_bit, bit-xor, bit-xor-one}
use Rattle.words.proofs.Masks.{bit-all_ones, all_ones-lt}

-- every one of the n lines has the other value
pub bit-inverse : (n s j : ℕ) → j < n → bit (inverse n s) j ≡ 1 - bit s j
unfolding inverse
bit-inverse n s j h = bit-xor s (all_ones n) j ∙ ap (bit_xor (bit s j)) (bit-all_ones n j h) ∙ bit-xor-one s j

pub on_inverse : (n s j : ℕ) → j < n → eqb (bit (inverse n s) j) 1 ≡ eqb (bit s j) 0
on_inverse n s j h = ap (λ v. eqb v 1) (bit-inverse n s j h) ∙ by_bit s j (λ e. rw e) (λ e. rw e)

-- a line that is not 0 is 1, and one that is not 1 is 0
pub not_off : (s j : ℕ) → not (eqb (bit s j) 0) ≡ eqb (bit s j) 1
not_off s j = by_bit s j (λ e. rw e) (λ e. rw e)

pub not_on : (s j : ℕ) → not (eqb (bit s j) 1) ≡ eqb (bit s j) 0
not_on s j = by_bit s j (λ e. rw e) (λ e. rw e)

pub inverse-lt : (n s : ℕ) → s < 2 ^ n → inverse n s < 2 ^ n
unfolding inverse
inverse-lt n s h = xor_lt n s (all_ones n) h (all_ones-lt n)

-- all lines 0, inverted, are all lines 1
pub inverse_of_zero : (n : ℕ) → inverse n 0 ≡ all_ones n
unfolding inverse
inverse_of_zero n = xor_zero_l (all_ones n)

-- as code inverts, by the word of n ones
pub inverse_code : (n s : ℕ) → bit_xor s (all_ones n) ≡ inverse n s
unfolding inverse
inverse_code n s = refl
