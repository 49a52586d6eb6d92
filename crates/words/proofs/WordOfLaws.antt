-- Laws of the word of the lines that pass a test.
use Rattle.std.specs.Prelude.{ℕ, zero, suc, ◌+◌, ◌*◌, ◌/◌, ◌%◌, ◌^◌, ◌≤◌, ◌<◌, ◌≡◌, refl, Bool, true, false, ◌&&◌, eqb}
use Rattle.std.proofs.Common.{sym, ap, ◌∙◌, zero-lt-suc, lt_of_lt_of_le, arith, pow_mono, pow_pos, ne_eqb}
use mathlib.Core.Logic.{by_cases}
use mathlib.Core.Bool.{and-true, and-false}
use native.Mathlib.Decide.{dec_le}
use Rattle.basics.specs.Choice.{choice, count}
use Rattle.basics.specs.Lists.{up_from, keep}
use Rattle.basics.proofs.Kept.{keep-up_from-cong}
use Rattle.words.specs.Word.{bit, lines_on}
use Rattle.words.specs.WordOf.{word_of}
use Rattle.words.proofs.Bits.{by_bit, bit_lowest, bit_half, bit_of_zero, bit_above, word_ext}

-- the lowest line, and the half above it
low_line : (b : Bool) (w : ℕ) → (count b + 2 * w) % 2 ≡ count b
low_line true w = omega arith
low_line false w = omega arith

upper_half : (b : Bool) (w : ℕ) → (count b + 2 * w) / 2 ≡ w
upper_half true w = omega arith
upper_half false w = omega arith

count-le : (b : Bool) → count b ≤ 1
count-le true = omega arith
count-le false = omega arith

pub bit-word_of : (n : ℕ) (p : ℕ → Bool) (j : ℕ) → j < n → bit (word_of n p) j ≡ count (p j)
unfolding word_of
bit-word_of zero p j h = absurd (omega arith)
bit-word_of (suc n) p zero h = bit_lowest _ ∙ low_line (p 0) (word_of n (λ k. p (suc k)))
bit-word_of (suc n) p (suc j) h =
    bit_half _ j ∙ ap (λ w. bit w j) (upper_half (p 0) (word_of n (λ k. p (suc k)))) ∙ bit-word_of n (λ k. p (suc k)) j (omega arith)

-- a test as a bit, and a bit as a test
pub on_count : (b : Bool) → eqb (count b) 1 ≡ b
on_count true = refl
on_count false = refl

pub bit-count : (w j : ℕ) → bit w j ≡ count (eqb (bit w j) 1)
bit-count w j = by_bit w j (λ e. rw e) (λ e. rw e)

pub on_word_of : (n : ℕ) (p : ℕ → Bool) (j : ℕ) → j < n → eqb (bit (word_of n p) j) 1 ≡ p j
on_word_of n p j h = ap (λ b. eqb b 1) (bit-word_of n p j h) ∙ on_count (p j)

pub word_of-lt : (n : ℕ) (p : ℕ → Bool) → word_of n p < 2 ^ n
unfolding word_of
word_of-lt zero p = zero-lt-suc 0
word_of-lt (suc n) p = omega (arith, count-le (p 0), word_of-lt n (λ k. p (suc k)))

-- a word is the word of the lines that are 1 in it
pub word_is : (n w : ℕ) (p : ℕ → Bool) → w < 2 ^ n → ((j : ℕ) → j < n → eqb (bit w j) 1 ≡ p j) → w ≡ word_of n p
word_is n w p fits h = word_ext n w (word_of n p) fits (word_of-lt n p) (λ j l. bit-count w j ∙ ap count (h j l) ∙ sym (bit-word_of n p j l))

pub word_of-cong : (n : ℕ) (p q : ℕ → Bool) → ((j : ℕ) → j < n → p j ≡ q j) → word_of n p ≡ word_of n q
word_of-cong n p q h = word_is n (word_of n p) q (word_of-lt n p) (λ j l. on_word_of n p j l ∙ h j l)

-- lines above that all fail add nothing
pub word_of-wide : (n m : ℕ) (p : ℕ → Bool) → n ≤ m → ((j : ℕ) → n ≤ j → p j ≡ false) → word_of m p ≡ word_of n p
word_of-wide n m p le h =
    let wide : 2 ^ n ≤ 2 ^ m = pow_mono le in
    sym (word_is m (word_of n p) p (lt_of_lt_of_le (word_of-lt n p) wide) (λ j l. by_cases (dec_le n j)
    (λ above. ne_eqb (bit (word_of n p) j) 1 (λ o. omega (arith, bit_above n (word_of n p) j (word_of-lt n p) above)) ∙ sym (h j above))
    (λ below. on_word_of n p j (omega arith))))

-- no line passes, and all pass
none_is : (n : ℕ) (p : ℕ → Bool) → ((j : ℕ) → j < n → p j ≡ false) → 0 ≡ word_of n p
none_is n p h = word_is n 0 p (pow_pos n) (λ j l. ne_eqb (bit 0 j) 1 (λ o. omega (arith, bit_of_zero j)) ∙ sym (h j l))

pub word_of_none : (n : ℕ) (p : ℕ → Bool) → ((j : ℕ) → j < n → p j ≡ false) → word_of n p ≡ 0
word_of_none n p h = sym (none_is n p h)

-- and one besides each line's own
pub word_of-when : (n : ℕ) (p : ℕ → Bool) (b : Bool) → word_of n (λ j. p j && b) ≡ choice b (word_of n p) 0
word_of-when n p true = word_of-cong n (λ j. p j && true) p (λ j l. and-true (p j))
word_of-when n p false = word_of_none n (λ j. p j && false) (λ j l. and-false (p j))

-- its lines are those that pass
pub lines_word_of : (n : ℕ) (p : ℕ → Bool) → lines_on n (word_of n p) ≡ keep p (up_from 0 n)
unfolding lines_on
lines_word_of n p = keep-up_from-cong (λ j. eqb (bit (word_of n p) j) 1) p 0 n (λ j l m. on_word_of n p j (omega arith))
