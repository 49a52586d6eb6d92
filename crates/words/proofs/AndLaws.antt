-- Words below a mask, and the lists of their lines: how many lines there are, which are lacking, and the lowest.
use Rattle.std.specs.Prelude.{ℕ, zero, suc, ◌+◌, ◌^◌, ◌≤◌, ◌<◌, ◌≡◌, refl, ◌≢◌, Bool, false}
use Rattle.std.specs.Prelude.{not, ◌&&◌, ◌||◌, List, [], ◌∷◌, length, get_or, drop, bit_and, bit_or, eqb}
use Rattle.std.proofs.Common.{zero-le, sym, ap, ◌∙◌, lt_of_le_of_lt, pow_pos, arith, eqb-true, ne_eqb}
use mathlib.Core.Bool.{and-or_distrib_left}
use lib.Bits.{and_le_r, or_lt, xor_lt}
use Rattle.std.proofs.lemmas.Bool.{eqb-false}
use Rattle.basics.specs.Choice.{choice}
use Rattle.basics.specs.Lists.{up_from, keep, All}
use Rattle.basics.proofs.Lists.{keep-cong, keep-keep, keep-le, keep_none, none_kept, all-up_from, up_from-all, length-up_from}
use Rattle.basics.proofs.All.{all_of}
use Rattle.basics.proofs.Kept.{all_kept}
use Rattle.words.specs.Word.{bit, lines_on}
use Rattle.words.specs.WordOf.{lacking}
use Rattle.words.proofs.Bits.{by_bit, bit_of_zero, bit_above, word_ext}
use Rattle.words.proofs.Inverse.{not_on}
use Rattle.words.proofs.LineLists.{on_below}
use Rattle.words.proofs.LoneLaws.{on_lacks}
use Rattle.words.proofs.OrLaws.{on_or}

-- ---- words below a mask

pub and_lt : (n a b : ℕ) → b < 2 ^ n → bit_and a b < 2 ^ n
and_lt n a b h = lt_of_le_of_lt (and_le_r a b) h

pub lacking-lt : (n mask s : ℕ) → mask < 2 ^ n → lacking mask s < 2 ^ n
unfolding lacking
lacking-lt n mask s h = xor_lt n (bit_and s mask) mask (and_lt n s mask h) h

pub lacking-or-lt : (n mask s t : ℕ) → mask < 2 ^ n → bit_or (lacking mask s) (lacking mask t) < 2 ^ n
lacking-or-lt n mask s t h = or_lt n (lacking mask s) (lacking mask t) (lacking-lt n mask s h) (lacking-lt n mask t h)

-- ---- the lines of a word

pub length_lines_le : (n w : ℕ) → length (lines_on n w) ≤ n
unfolding lines_on
length_lines_le n w = omega (arith, keep-le (λ j. eqb (bit w j) 1) (up_from 0 n), length-up_from 0 n)

kept_short : (p : ℕ → Bool) (a k m : ℕ) → k ≤ m → ((j : ℕ) → a + k ≤ j → p j ≡ false) → keep p (up_from a m) ≡ keep p (up_from a k)
unfolding keep up_from
kept_short p a zero m h f = keep_none p (up_from a m) (all-up_from _ a m (λ j l u. f j (omega arith)))
kept_short p a (suc k) zero h f = absurd (omega arith)
kept_short p a (suc k) (suc m) h f = ap (λ l. choice (p a) (a ∷ l) l) (kept_short p (suc a) k m (omega arith) (λ j l. f j (omega arith)))

off : (w j : ℕ) → bit w j ≡ 0 → eqb (bit w j) 1 ≡ false
off w j e = ne_eqb (bit w j) 1 (λ o. omega arith)

-- a word below 2 ^ n has no line at n or above
pub lines_wide : (n m w : ℕ) → n ≤ m → w < 2 ^ n → lines_on m w ≡ lines_on n w
unfolding lines_on
lines_wide n m w l h = kept_short (λ j. eqb (bit w j) 1) 0 n m l (λ j above. off w j (bit_above n w j h (omega arith)))

-- the word 0 has none, and the word 1 line 0
pub lines_zero : (n : ℕ) → lines_on n 0 ≡ []
unfolding lines_on
lines_zero n = keep_none (λ j. eqb (bit 0 j) 1) (up_from 0 n) (all_of _ (λ j. off 0 j (bit_of_zero j)) (up_from 0 n))

pub lines_one : (n : ℕ) → 1 ≤ n → lines_on n 1 ≡ 0 ∷ []
unfolding lines_on keep up_from bit
lines_one n h = lines_wide 1 n 1 h (omega arith)

-- where the list is empty the word is 0
none_on : (n w : ℕ) → w < 2 ^ n → lines_on n w ≡ [] → w ≡ 0
unfolding lines_on
none_on n w h e =
    let fails = none_kept (λ j. eqb (bit w j) 1) (up_from 0 n) e in
    word_ext n w 0 h (pow_pos n) (λ j l.
    let d = eqb-false (bit w j) 1 (up_from-all (λ i. eqb (bit w i) 1 ≡ false) 0 n fails j zero-le (omega arith)) in
    by_bit w j (λ z. z ∙ sym (bit_of_zero j)) (λ o. absurd (d o)))

some_list : (l : List ℕ) → l ≢ [] → l ≡ get_or l 0 0 ∷ drop 1 l
some_list [] d = absurd (d refl)
some_list (a ∷ l) d = refl

-- every line of the list is on, and so is its first
all_on_lines : (n w : ℕ) → All (λ j. bit w j ≡ 1) (lines_on n w)
unfolding lines_on
all_on_lines n w = all_kept (λ j. bit w j ≡ 1) (λ j. eqb (bit w j) 1) (up_from 0 n) (all_of _ (λ j e. eqb-true (bit w j) 1 e) (up_from 0 n))

first_of : (P : ℕ → Type 0) (l : List ℕ) → l ≢ [] → All P l → P (get_or l 0 0)
first_of P [] d w = absurd (d refl)
first_of P (a ∷ l) d w = w.0

-- the lowest line of a word of n lines that is not 0 is the first of the list, is on, and is one of the n
module _ (n w : ℕ) (wide : n ≤ 32) (h : w < 2 ^ n) (d : w ≢ 0) where
  pub lowest_first : lines_on n w ≡ get_or (lines_on 32 w) 0 0 ∷ drop 1 (lines_on n w)
  lowest_first = some_list (lines_on n w) (λ e. d (none_on n w h e)) ∙ ap (λ l. get_or l 0 0 ∷ drop 1 (lines_on n w)) (sym (lines_wide n 32 w wide h))

  pub lowest_on : bit w (get_or (lines_on 32 w) 0 0) ≡ 1
  lowest_on = first_of (λ j. bit w j ≡ 1) (lines_on 32 w) (λ e. d (none_on n w h (sym (lines_wide n 32 w wide h) ∙ e))) (all_on_lines 32 w)

  pub lowest_lt : get_or (lines_on 32 w) 0 0 < n
  lowest_lt = on_below n w (get_or (lines_on 32 w) 0 0) h lowest_on

-- the lowest line of either of two words
pub lowest_or_lt : (a b : ℕ) → a < 2 ^ 32 → b < 2 ^ 32 → bit_or a b ≢ 0 → get_or (lines_on 32 (bit_or a b)) 0 0 < 32
lowest_or_lt a b h k d = lowest_lt 32 (bit_or a b) (omega arith) (or_lt 32 a b h k) d

-- ---- the lines that are lacking

pub on_lacking : (mask s j : ℕ) → eqb (bit (lacking mask s) j) 1 ≡ (eqb (bit mask j) 1 && not (eqb (bit s j) 1))
unfolding lacking
on_lacking mask s j = on_lacks mask s j ∙ ap (λ b. eqb (bit mask j) 1 && b) (sym (not_on s j))

-- the lines of the mask that fail
pub lines_lacking : (n mask s : ℕ) → lines_on n (lacking mask s) ≡ keep (λ j. not (eqb (bit s j) 1)) (lines_on n mask)
unfolding lines_on
lines_lacking n mask s =
    keep-cong (on_lacking mask s) (up_from 0 n) ∙ sym (keep-keep (λ j. eqb (bit mask j) 1) (λ j. not (eqb (bit s j) 1)) (up_from 0 n))

-- lacking in one of two words
pub on_lacking_or : (mask s t j : ℕ)
    → eqb (bit (bit_or (lacking mask s) (lacking mask t)) j) 1 ≡ (eqb (bit mask j) 1 && (not (eqb (bit s j) 1) || not (eqb (bit t j) 1)))
on_lacking_or mask s t j =
    on_or (lacking mask s) (lacking mask t) j
    ∙ ap (λ b. b || eqb (bit (lacking mask t) j) 1) (on_lacking mask s j)
    ∙ ap (λ b. (eqb (bit mask j) 1 && not (eqb (bit s j) 1)) || b) (on_lacking mask t j)
    ∙ sym (and-or_distrib_left (eqb (bit mask j) 1) (not (eqb (bit s j) 1)) (not (eqb (bit t j) 1)))

pub lines_lacking_or : (n mask s t : ℕ)
    → lines_on n (bit_or (lacking mask s) (lacking mask t)) ≡ keep (λ j. not (eqb (bit s j) 1) || not (eqb (bit t j) 1)) (lines_on n mask)
unfolding lines_on
lines_lacking_or n mask s t =
    keep-cong (on_lacking_or mask s t) (up_from 0 n)
    ∙ sym (keep-keep (λ j. eqb (bit mask j) 1) (λ j. not (eqb (bit s j) 1) || not (eqb (bit t j) 1)) (up_from 0 n))
