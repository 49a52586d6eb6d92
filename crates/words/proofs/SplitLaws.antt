-- Laws of words that are split by a state: the lines of one that are 1 in it, and the lines of another that are 0.
use Rattle.std.specs.Prelude.{ℕ, ◌+◌, ◌^◌, ◌≤◌, ◌<◌, ◌≡◌, refl, Bool, true, false, ◌&&◌, ◌||◌, bit_and, bit_or, length, eqb}
use Rattle.std.proofs.Common.{sym, ap, ap₂, ◌∙◌, lt_of_le_of_lt, arith, eq-eqb, eqb-true}
use mathlib.Core.Bool.{and_comm}
use lib.Bits.{or_lt, and_le_l}
use Rattle.basics.specs.Lists.{up_from, keep}
use Rattle.basics.proofs.Tests.{bool_ext, and-true, and_both}
use Rattle.basics.proofs.All.{all_of}
use Rattle.basics.proofs.Lists.{keep-cong, keep-keep}
use Rattle.basics.proofs.Kept.{keep-up_from-cong}
use Rattle.basics.proofs.KeptCounts.{kept_either}
use Rattle.words.specs.Word.{bit, lines_on}
use Rattle.words.specs.Inverse.{inverse}
use Rattle.words.specs.WordOf.{lacking}
use Rattle.words.proofs.Bits.{by_bit}
use Rattle.words.proofs.AndLaws.{lines_wide}
use Rattle.words.proofs.Inverse.{inverse-lt, on_inverse}
use Rattle.words.proofs.LoneLaws.{on_lacks}
use Rattle.words.proofs.OrLaws.{on_or, on_and}

-- a word of n lines has no others
pub length-wide : (n m w : ℕ) → n ≤ m → w < 2 ^ n → length (lines_on m w) ≡ length (lines_on n w)
length-wide n m w le h = ap length (lines_wide n m w le h)

-- the lines of a mask that are 0 in a word
pub lacking_off : (mask s j : ℕ) → eqb (bit (lacking mask s) j) 1 ≡ (eqb (bit mask j) 1 && eqb (bit s j) 0)
unfolding lacking
lacking_off mask s j = on_lacks mask s j

-- ---- the two halves

pub split-lt : (n s a b : ℕ) → s < 2 ^ n → bit_or (bit_and s a) (bit_and (inverse n s) b) < 2 ^ n
split-lt n s a b h =
    or_lt n (bit_and s a) (bit_and (inverse n s) b) (lt_of_le_of_lt (and_le_l s a) h) (lt_of_le_of_lt (and_le_l (inverse n s) b) (inverse-lt n s h))

-- a test on the lines of a word that others contain
within : (n w a : ℕ) (t : ℕ → Bool) → ((j : ℕ) → bit a j ≡ 1 → bit w j ≡ 1)
    → keep (λ j. eqb (bit a j) 1 && t j) (lines_on n w) ≡ keep (λ j. eqb (bit a j) 1 && t j) (up_from 0 n)
unfolding lines_on
within n w a t h =
    keep-keep (λ j. eqb (bit w j) 1) (λ j. eqb (bit a j) 1 && t j) (up_from 0 n)
    ∙ keep-cong (λ j. bool_ext
    (λ e. (and_both (eqb (bit w j) 1) (eqb (bit a j) 1 && t j) e).1)
    (λ e. and-true (eq-eqb (bit w j) 1 (h j (eqb-true (bit a j) 1 (and_both (eqb (bit a j) 1) (t j) e).0))) e)) (up_from 0 n)

-- no line is 1 and 0
apart : (a b : Bool) (s j : ℕ) → (a && eqb (bit s j) 1) && (b && eqb (bit s j) 0) ≡ false
apart false b s j = refl
apart true false s j = by_bit s j (λ e. rw e) (λ e. rw e)
apart true true s j = by_bit s j (λ e. rw e) (λ e. rw e)

split-line : (n s a b j : ℕ) → j < n
    → ((eqb (bit a j) 1 && eqb (bit s j) 1) || (eqb (bit b j) 1 && eqb (bit s j) 0)) ≡ eqb (bit (bit_or (bit_and s a) (bit_and (inverse n s) b)) j) 1
split-line n s a b j h = sym (
    on_or (bit_and s a) (bit_and (inverse n s) b) j
    ∙ ap₂ ◌||◌
    (on_and s a j ∙ and_comm (eqb (bit s j) 1) (eqb (bit a j) 1))
    (on_and (inverse n s) b j ∙ ap (λ t. t && eqb (bit b j) 1) (on_inverse n s j h) ∙ and_comm (eqb (bit s j) 0) (eqb (bit b j) 1)))

-- of two words on the lines of w: the lines of a that are 1 in s and those of b that are 0 there are the lines of one word
pub split-count : (n w s a b : ℕ) → ((j : ℕ) → bit a j ≡ 1 → bit w j ≡ 1) → ((j : ℕ) → bit b j ≡ 1 → bit w j ≡ 1)
    → length (keep (λ j. eqb (bit a j) 1 && eqb (bit s j) 1) (lines_on n w)) + length (keep (λ j. eqb (bit b j) 1 && eqb (bit s j) 0) (lines_on n w))
    ≡ length (lines_on n (bit_or (bit_and s a) (bit_and (inverse n s) b)))
unfolding lines_on
split-count n w s a b ha hb =
    let p : ℕ → Bool = λ j. eqb (bit a j) 1 && eqb (bit s j) 1 in
    let q : ℕ → Bool = λ j. eqb (bit b j) 1 && eqb (bit s j) 0 in
    ap₂ (λ l m. length l + length m) (within n w a (λ j. eqb (bit s j) 1) ha) (within n w b (λ j. eqb (bit s j) 0) hb)
    ∙ kept_either p q (up_from 0 n) (all_of _ (λ j. apart (eqb (bit a j) 1) (eqb (bit b j) 1) s j) (up_from 0 n))
    ∙ ap length (keep-up_from-cong _ _ 0 n (λ j l m. split-line n s a b j (omega arith)))
