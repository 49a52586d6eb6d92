-- Laws of texts compared.
use Prim.Native.Nat.{ℕ, suc}
use mathlib.Core.Path.{◌≡◌, refl, sym, ap, ap₂, ◌∙◌}
use mathlib.Core.Bool.{Bool, true, false, false≢true}
use mathlib.Core.List.{List, [], ◌∷◌}
use native.Mathlib.Omega.{arith}
use lib.ListN.{length}
use lib.Dec.{eqb}
use borrow.Author.Tests.{eq-eqb, eqb-true}
use lib.Pointwise.{pointwise}
use Rattle.basics.specs.Lists.{some}
use Rattle.basics.proofs.Tests.{by_test, and_both, and-true, and_right, or_left, or_right, or-false, choice-true, choice-false}
use Rattle.text.specs.Texts.{same, among, place}

pub same_refl : (t : List ℕ) → same t t ≡ true
unfolding same
same_refl [] = refl
same_refl (b ∷ t) = and-true (eq-eqb b b refl) (same_refl t)

pub same_true : (t u : List ℕ) → same t u ≡ true → t ≡ u
unfolding same
same_true [] [] e = refl
same_true [] (c ∷ u) e = absurd (false≢true e)
same_true (b ∷ t) [] e = absurd (false≢true e)
same_true (b ∷ t) (c ∷ u) e = let w = and_both (eqb b c) (same t u) e in ap₂ (λ x l. x ∷ l) (eqb-true b c w.0) (same_true t u w.1)

-- texts of two lengths
pub same_lengths : (t u : List ℕ) → (length t ≡ length u → ⊥) → same t u ≡ false
unfolding same
same_lengths [] [] d = absurd (d refl)
same_lengths [] (c ∷ u) d = refl
same_lengths (b ∷ t) [] d = refl
same_lengths (b ∷ t) (c ∷ u) d = and_right (eqb b c) (same_lengths t u (λ e. d (ap suc e)))

-- the place among some texts
pub place_found : (u : List ℕ) (us : List (List ℕ)) (t : List ℕ) → same u t ≡ true → place (u ∷ us) t ≡ 0
unfolding place
place_found u us t e = choice-true e _ _

pub place_passed : (u : List ℕ) (us : List (List ℕ)) (t : List ℕ) → same u t ≡ false → place (u ∷ us) t ≡ suc (place us t)
unfolding place
place_passed u us t e = choice-false e _ _

pub place_none : (t : List ℕ) → place [] t ≡ 0
unfolding place
place_none t = refl

-- ---- a text is one of some texts where its place is one of theirs

same_sym : (t u : List ℕ) → same t u ≡ true → same u t ≡ true
same_sym t u e = ap (λ x. same x t) (sym (same_true t u e)) ∙ same_refl t

same_other_way : (t u : List ℕ) → same t u ≡ false → same u t ≡ false
same_other_way t u e = by_test (same u t) (λ g. absurd (false≢true (sym e ∙ same_sym u t g))) (λ g. g)

pub among_placed : (us : List (List ℕ)) (t : List ℕ) → (place us t ≡ length us → ⊥) → among t us ≡ true
unfolding among some
among_placed [] t d = absurd (d (place_none t))
among_placed (u ∷ us) t d = by_test (same u t)
    (λ e. or_left (some (same t) us) (same_sym u t e))
    (λ e. or_right (same t u) (among_placed us t (λ z. d (place_passed u us t e ∙ ap suc z))))

pub among_nowhere : (us : List (List ℕ)) (t : List ℕ) → place us t ≡ length us → among t us ≡ false
unfolding among some
among_nowhere [] t e = refl
among_nowhere (u ∷ us) t e = by_test (same u t)
    (λ g. let w = place_found u us t g in absurd (omega arith))
    (λ g. let w = place_passed u us t g in or-false (same_other_way u t g) (among_nowhere us t (omega arith)))

-- ---- what `==` of the library tells: entry by entry the same
pub same_is_pointwise : (t u : List ℕ) → pointwise eqb t u ≡ same t u
unfolding same
same_is_pointwise [] [] = refl
same_is_pointwise [] (c ∷ u) = refl
same_is_pointwise (b ∷ t) [] = refl
same_is_pointwise (b ∷ t) (c ∷ u) = rw (same_is_pointwise t u)

pub same_told : (t u : List ℕ) (told : Bool) → told ≡ pointwise eqb t u → told ≡ same t u
same_told t u told e = e ∙ same_is_pointwise t u
