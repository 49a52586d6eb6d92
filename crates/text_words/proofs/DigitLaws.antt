-- Laws of a text that is compared with a number in decimal, from its last digit on.
use Prim.Native.Nat.{ℕ, suc, ◌+◌, ◌/◌, ◌%◌, ◌<◌, ◌≤◌}
use mathlib.Core.Path.{◌≡◌, refl, sym, ap, ◌∙◌}
use mathlib.Core.Bool.{Bool, false, not, ◌&&◌, ◌||◌, and-true}
use mathlib.Core.List.{List, [], ◌∷◌, ◌++◌}
use native.Mathlib.Omega.{arith}
use lib.ListN.{length}
use mathlib.Core.Logic.{by_cases}
use native.Mathlib.Decide.{dec_lt}
use lib.Dec.{eqb}
use borrow.Author.Tests.{eq-eqb, ne_eqb}
use Rattle.basics.proofs.Tests.{and_right}
use Rattle.std.specs.List.{list_all, starts_with}
use Rattle.std.specs.Char.{is_ascii_digit}
use Rattle.text.specs.Texts.{begins, same}
use Rattle.text.specs.Decimal.{digit, decimal, is_digit, is_number}
use Rattle.text.proofs.EveryLaws.{every_is_all}
use Rattle.text.proofs.SameLaws.{same_lengths}
use Rattle.text.proofs.TextLaws.{decimal_small, decimal-more}
use Rattle.text.proofs.DecimalLaws.{decimal-some}

none_snoc : (u : List ℕ) (b : ℕ) → same [] (u ++ (b ∷ [])) ≡ false
unfolding same
none_snoc [] b = refl
none_snoc (c ∷ u) b = refl

snoc_none : (v : List ℕ) (b : ℕ) → same (v ++ (b ∷ [])) [] ≡ false
unfolding same
snoc_none [] b = refl
snoc_none (c ∷ v) b = refl

same_none : (v : List ℕ) → same v [] ≡ eqb (length v) 0
unfolding same
same_none [] = refl
same_none (c ∷ v) = sym (ne_eqb (suc (length v)) 0 (λ e. absurd (omega arith)))

snoc_same : (v u : List ℕ) (b d : ℕ) → b ≡ d → same (v ++ (b ∷ [])) (u ++ (d ∷ [])) ≡ same v u
unfolding same
snoc_same [] [] b d e = rw (eq-eqb b d e)
snoc_same [] (c ∷ u) b d e = and_right (eqb b c) (none_snoc u d)
snoc_same (c ∷ v) [] b d e = and_right (eqb c d) (snoc_none v b)
snoc_same (c ∷ v) (a ∷ u) b d e = ap (λ t. eqb c a && t) (snoc_same v u b d e)

snoc_other : (v u : List ℕ) (b d : ℕ) → (b ≡ d → ⊥) → same (v ++ (b ∷ [])) (u ++ (d ∷ [])) ≡ false
unfolding same
snoc_other [] [] b d e = rw (ne_eqb b d e)
snoc_other [] (c ∷ u) b d e = and_right (eqb b c) (none_snoc u d)
snoc_other (c ∷ v) [] b d e = and_right (eqb c d) (snoc_none v b)
snoc_other (c ∷ v) (a ∷ u) b d e = and_right (eqb c a) (snoc_other v u b d e)

-- no digit is left
pub digits_none : (x : ℕ) → same [] (decimal x) ≡ false
digits_none x = same_lengths [] (decimal x) (λ e. let some = decimal-some x in omega arith)

-- the last digit is the number's, or another
module _ (front : List ℕ) (last x : ℕ) where
  pub digits_more : 10 ≤ x → last ≡ 48 + x % 10 → same (front ++ (last ∷ [])) (decimal x) ≡ same front (decimal (x / 10))
  unfolding digit
  digits_more h e = rw (decimal-more x h) (snoc_same front (decimal (x / 10)) last _ e)

  pub digits_other : (last ≡ 48 + x % 10 → ⊥) → same (front ++ (last ∷ [])) (decimal x) ≡ false
  unfolding digit
  digits_other d = by_cases (dec_lt x 10)
      (λ h. rw (decimal_small x h) (snoc_other front [] last (48 + x) (λ e. d (omega arith))))
      (λ h. rw (decimal-more x (omega arith)) (snoc_other front (decimal (x / 10)) last _ d))

  -- the first digit
  pub digits_last : x < 10 → last ≡ 48 + x % 10 → same (front ++ (last ∷ [])) (decimal x) ≡ eqb (length front) 0
  unfolding digit
  digits_last h e = rw (decimal_small x h) (snoc_same front [] last (48 + x) (omega arith) ∙ same_none front)

-- ---- the form of a number

zero_first : (t : List ℕ) → starts_with eqb t (48 ∷ []) ≡ begins (eqb 48) t
unfolding begins
zero_first [] = refl
zero_first (b ∷ t) = and-true (eqb 48 b)

-- digits alone, and no zero in front of others
pub number_told : (t : List ℕ) (digits zero : Bool) → digits ≡ list_all is_ascii_digit t → zero ≡ starts_with eqb t (48 ∷ [])
    → is_number t ≡ digits && (not zero || eqb (length t) 1)
unfolding is_number is_digit
number_told t digits zero d z = rw (d, z, every_is_all is_digit t, zero_first t)
