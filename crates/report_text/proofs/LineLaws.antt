-- Laws of lines as bytes: a line is its letter, its numbers and its end.
use Rattle.std.specs.Prelude.{ℕ, ◌+◌, ◌<◌, ◌≤◌, ◌≡◌, Bool, true, false, List, [], ◌∷◌, ◌++◌, length, drop}
use Rattle.std.proofs.Common.{ap, append_assoc}
use native.Mathlib.Numerals.{add-one}
use lib.ListN.{drop_of_length-le, get_or}
use lib.Seq.{drop-cons}
use Rattle.basics.specs.Lists.{each}
use Rattle.text.specs.Decimal.{decimal}
use Rattle.report_text.specs.Lines.{spaced, line}
use Rattle.report_text.specs.Parts.{ok_text, end_text, numbers_line}

-- a turn of a loop over a list: what one entry makes, and what is left; and at the end nothing is
module _ {A : Type 0} (f : A → List ℕ) (entries : List A) (i : ℕ) where
  pub each_left : (d : A) → i < length entries → each f (drop i entries) ≡ f (get_or entries i d) ++ each f (drop (i + 1) entries)
  unfolding each
  each_left d h = rw (drop-cons entries i d h, add-one i)

  pub each_end : length entries ≤ i → each f (drop i entries) ≡ []
  unfolding each
  each_end h = rw (drop_of_length-le entries {i = i} h)

-- a number is a blank and its decimal
pub spaced_left : (numbers : List ℕ) (i : ℕ) → i < length numbers
    → each spaced (drop i numbers) ≡ (32 ∷ []) ++ (decimal (get_or numbers i 0) ++ each spaced (drop (i + 1) numbers))
unfolding spaced
spaced_left numbers i h = each_left spaced numbers i 0 h

-- the end of a line
pub end_ok : (ok : Bool) → ok ≡ true → 32 ∷ 111 ∷ 107 ∷ 10 ∷ [] ≡ end_text ok
unfolding ok_text end_text
end_ok ok e = rw e

pub end_bare : (ok : Bool) → ok ≡ false → 10 ∷ [] ≡ end_text ok
unfolding ok_text end_text
end_bare ok e = rw e

-- a line is its letter, its numbers and its end
pub line-parts : (letter : ℕ) (numbers : List ℕ) (ok : Bool)
    → numbers_line letter numbers ok ≡ (letter ∷ []) ++ (each spaced numbers ++ end_text ok)
unfolding numbers_line line end_text
line-parts letter numbers ok = ap (λ rest. letter ∷ rest) (append_assoc (each spaced numbers) (ok_text ok) (10 ∷ []))
