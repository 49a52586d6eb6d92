-- Laws of the list of the lines that are 1.
use Rattle.std.proofs.Common.{ℕ, ◌<◌, ◌^◌, zero-le, ◌≡◌, ap, ◌∙◌, true, arith, length, eqb, eq-eqb, eqb-true}
use mathlib.Core.Logic.{by_cases}
use native.Mathlib.Decide.{dec_le}
use Rattle.basics.specs.Lists.{up_from, All}
use Rattle.basics.proofs.Lists.{all-up_from, up_from-all, length-up_from}
use Rattle.basics.proofs.Kept.{all_kept, kept_all, keep-every}
use Rattle.words.specs.Word.{bit, all_ones, lines_on}
use Rattle.words.proofs.Bits.{bit_above}
use Rattle.words.proofs.Masks.{bit-all_ones}

-- a line that is 1 in a word of n lines is one of the n
pub on_below : (n w j : ℕ) → w < 2 ^ n → bit w j ≡ 1 → j < n
on_below n w j h o = by_cases (dec_le n j) (λ above. absurd (omega (arith, bit_above n w j h above))) (λ below. omega arith)

-- a property of all lines of the list is one of each line below n that is 1
module _ (P : ℕ → Type 0) (n w : ℕ) where
  pub all_lines : ((j : ℕ) → j < n → bit w j ≡ 1 → P j) → All P (lines_on n w)
  unfolding lines_on
  all_lines h = all_kept P (λ j. eqb (bit w j) 1) (up_from 0 n) (all-up_from _ 0 n (λ j l m e. h j (omega arith) (eqb-true (bit w j) 1 e)))

  pub lines_all : All P (lines_on n w) → (j : ℕ) → j < n → bit w j ≡ 1 → P j
  unfolding lines_on
  lines_all a j h o =
      up_from-all (λ k. eqb (bit w k) 1 ≡ true → P k) 0 n (kept_all P (λ k. eqb (bit w k) 1) (up_from 0 n) a) j zero-le (omega arith)
      (eq-eqb (bit w j) 1 o)

-- all n lines of the word whose lines are all 1
pub length_lines_ones : (n : ℕ) → length (lines_on n (all_ones n)) ≡ n
unfolding lines_on
length_lines_ones n =
    ap length (keep-every (λ j. eqb (bit (all_ones n) j) 1) (up_from 0 n)
    (all-up_from _ 0 n (λ j l m. eq-eqb (bit (all_ones n) j) 1 (bit-all_ones n j (omega arith)))))
    ∙ length-up_from 0 n
