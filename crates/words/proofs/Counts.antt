-- Laws of counts: the ones of a word are the lines that are 1.
use Rattle.std.specs.Prelude.{◌≡◌, refl, ℕ, zero, suc, ◌+◌, ◌/◌, ◌%◌, ◌^◌, ◌<◌, List, ◌∷◌, length, eqb}
use Rattle.std.proofs.Common.{sym, ap, ◌∙◌, add-one, arith, div-one, mod-lt, mod-eq_of_lt}
use native.Mathlib.Nat.{mod-one}
use lib.Count.{ones, ones_step}
use lib.Pow.{mod-mod-pow, field}
use Rattle.basics.specs.Choice.{choice}
use Rattle.basics.specs.Lists.{up_from, keep}
use Rattle.words.specs.Word.{bit, lines_on}
use Rattle.words.proofs.Bits.{half_on}

one_more : (b j : ℕ) (l : List ℕ) → b < 2 → length (choice (eqb b 1) (j ∷ l) l) ≡ b + length l
one_more zero j l h = omega arith
one_more (suc zero) j l h = omega arith
one_more (suc (suc b)) j l h = absurd (omega arith)

ones_none : ones 0 ≡ 0
unfolding ones
ones_none = refl

-- the lowest of k + 1 digits, and the rest
ones_low : (x k : ℕ) → ones (x % 2 ^ suc k) ≡ x % 2 + ones (x / 2 % 2 ^ k)
ones_low x k = rw (← add-one k, ones_step (x % 2 ^ (k + 1)), mod-mod-pow x k 1, field x k 1)

-- the lines from a on, of them k, are the k digits above the a lowest
on_digits : (w a k : ℕ) → length (keep (λ j. eqb (bit w j) 1) (up_from a k)) ≡ ones (w / 2 ^ a % 2 ^ k)
unfolding keep up_from bit
on_digits w a zero = rw (mod-one (w / 2 ^ a)) (sym ones_none)
on_digits w a (suc k) =
    one_more (w / 2 ^ a % 2) a (keep (λ j. eqb (w / 2 ^ j % 2) 1) (up_from (suc a) k)) (mod-lt (w / 2 ^ a) (omega arith))
    ∙ rw (on_digits w (suc a) k, ones_low (w / 2 ^ a) k, half_on w a)

-- a count of ones is a count of lines
pub ones_lines : (n w : ℕ) → length (lines_on n w) ≡ ones (w % 2 ^ n)
unfolding lines_on
ones_lines n w = on_digits w 0 n ∙ rw (div-one w)

pub ones_lines_below : (n w : ℕ) → w < 2 ^ n → ones w ≡ length (lines_on n w)
ones_lines_below n w h = sym (ones_lines n w ∙ ap ones (mod-eq_of_lt h))
