-- Laws of bits: each bit operation works on each line apart, and a word is known by its bits.
use Rattle.std.specs.Prelude.{ℕ, zero, suc, ◌+◌, ◌-◌, ◌*◌, ◌/◌, ◌%◌, ◌^◌, ◌≤◌, ◌<◌, ◌≡◌, refl, ◌≢◌, bit_and, bit_xor}
use Rattle.std.proofs.Common.{sym, ap, ap₂, ◌∙◌, div-one, mod-lt, div-add-mod', zero-lt-suc}
use Rattle.std.proofs.Common.{lt_of_lt_of_le, le-add_right, le-add_left, one-add, add-one, arith, pow_pos, pow_mono, shr-shr}
use native.Mathlib.Nat.{div_self, div-eq_of_lt, zero-div}
use lib.Arith.{lt-one}
use lib.Bits.{and_shr, and_mod, xor_shr, xor_mod}
use Rattle.basics.proofs.Tests.{by_equal}
use Rattle.words.specs.Word.{bit}

pub bit_le : (s j : ℕ) → bit s j ≤ 1
unfolding bit
bit_le s j = omega (arith, mod-lt (s / 2 ^ j) {m = 2} (zero-lt-suc 1))

-- a bit is 0 or 1
pub by_bit {κ} : {C : Type κ} (s j : ℕ) → (bit s j ≡ 0 → C) → (bit s j ≡ 1 → C) → C
by_bit s j f g = by_equal (bit s j) 0 f (λ d. g (omega (arith, bit_le s j)))

pub bit_lowest : (s : ℕ) → bit s 0 ≡ s % 2
unfolding bit
bit_lowest s = ap (λ x. x % 2) (div-one s)

pub bit_half : (s j : ℕ) → bit s (suc j) ≡ bit (s / 2) j
unfolding bit
bit_half s j = ap (λ x. x % 2) (ap (λ k. s / 2 ^ k) (sym (one-add j)) ∙ sym (shr-shr s 1 j))

pub bit_of_zero : (j : ℕ) → bit 0 j ≡ 0
unfolding bit
bit_of_zero j = ap (λ x. x % 2) (zero-div (2 ^ j))

-- the bit operations work on each line apart
pub bit-and : (a b j : ℕ) → bit (bit_and a b) j ≡ bit_and (bit a j) (bit b j)
unfolding bit
bit-and a b j = ap (λ x. x % 2) (and_shr a b j) ∙ and_mod (a / 2 ^ j) (b / 2 ^ j) 1

pub bit-xor : (a b j : ℕ) → bit (bit_xor a b) j ≡ bit_xor (bit a j) (bit b j)
unfolding bit
bit-xor a b j = ap (λ x. x % 2) (xor_shr a b j) ∙ xor_mod (a / 2 ^ j) (b / 2 ^ j) 1

-- a bit inverted
pub bit-xor-one : (s j : ℕ) → bit_xor (bit s j) 1 ≡ 1 - bit s j
bit-xor-one s j = by_bit s j (λ e. rw e) (λ e. rw e)

pub word_ext : (n a b : ℕ) → a < 2 ^ n → b < 2 ^ n → ((j : ℕ) → j < n → bit a j ≡ bit b j) → a ≡ b
word_ext zero a b ha hb h = lt-one ha ∙ sym (lt-one hb)
word_ext (suc n) a b ha hb h =
    sym (div-add-mod' a 2)
    ∙ ap₂ (λ x y. x * 2 + y)
    (word_ext n (a / 2) (b / 2) (omega arith) (omega arith) (λ j l. sym (bit_half a j) ∙ h (suc j) (omega arith) ∙ bit_half b j))
    (sym (bit_lowest a) ∙ h 0 (omega arith) ∙ bit_lowest b)
    ∙ div-add-mod' b 2

-- every number is a word of as many lines as itself
pub lt_pow_self : (n : ℕ) → n < 2 ^ n
lt_pow_self zero = zero-lt-suc 0
lt_pow_self (suc n) = omega (arith, lt_pow_self n)

pub word_ext_all : (a b : ℕ) → ((j : ℕ) → bit a j ≡ bit b j) → a ≡ b
word_ext_all a b h =
    word_ext (a + b) a b (lt_of_lt_of_le (lt_pow_self a) (pow_mono (le-add_right a b))) (lt_of_lt_of_le (lt_pow_self b) (pow_mono (le-add_left b a)))
    (λ j l. h j)

-- a word with one line on
pub bit-one-line : (j : ℕ) → bit (2 ^ j) j ≡ 1
unfolding bit
bit-one-line j = ap (λ x. x % 2) (div_self (pow_pos j))

-- what stands above a lines, halved, is what stands above one more
pub half_on : (w a : ℕ) → w / 2 ^ a / 2 ≡ w / 2 ^ suc a
half_on w a = shr-shr w a 1 ∙ rw (add-one a)

pow_half : (j : ℕ) → 2 ^ suc j / 2 ≡ 2 ^ j
pow_half j = omega arith

pow_even : (j : ℕ) → 2 ^ suc j % 2 ≡ 0
pow_even j = omega arith

pub bit_other_line : (j k : ℕ) → j ≢ k → bit (2 ^ j) k ≡ 0
bit_other_line zero zero d = absurd (d refl)
bit_other_line zero (suc k) d = bit_half 1 k ∙ bit_of_zero k
bit_other_line (suc j) zero d = bit_lowest (2 ^ suc j) ∙ pow_even j
bit_other_line (suc j) (suc k) d = bit_half (2 ^ suc j) k ∙ ap (λ x. bit x k) (pow_half j) ∙ bit_other_line j k (λ e. d (ap suc e))

-- a word below 2 ^ n has no line at n or above
pub bit_above : (n s j : ℕ) → s < 2 ^ n → n ≤ j → bit s j ≡ 0
unfolding bit
bit_above n s j h l = let wide : 2 ^ n ≤ 2 ^ j = pow_mono l in rw (div-eq_of_lt (lt_of_lt_of_le h wide))
