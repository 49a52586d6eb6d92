-- Tests that compute: proofs by cases, and choices whose test is known. `borrow.Author.Tests` turns a test into a fact and back.
use Prim.Native.Nat.{ℕ}
use mathlib.Core.Path.{◌≡◌, refl, sym, ap, ◌∙◌}
use mathlib.Core.Logic.{◌↔◌, ◌≢◌, by_cases}
use mathlib.Core.Bool.{Bool, true, false, not, ◌&&◌, ◌||◌, false≢true, not-not}
use native.Mathlib.Decide.{ℕ_discrete}
use lib.Dec.{eqb}
use borrow.Author.Tests.{eqb-true, eqb-false, eq-eqb, ne_eqb}
use Rattle.basics.specs.Choice.{choice}

-- by cases on a test, and on whether two numbers are equal
pub by_test {κ} : {C : Type κ} (b : Bool) → (b ≡ true → C) → (b ≡ false → C) → C
by_test true f g = f refl
by_test false f g = g refl

pub by_equal {κ} : {C : Type κ} (a b : ℕ) → (a ≡ b → C) → (a ≢ b → C) → C
by_equal a b f g = by_cases (ℕ_discrete a b) f g

-- two tests are equal when each passes if the other does
pub bool_ext : {a b : Bool} → (a ≡ true → b ≡ true) → (b ≡ true → a ≡ true) → a ≡ b
bool_ext {a = true} {b = b} f g = sym (f refl)
bool_ext {a = false} {b = true} f g = g refl
bool_ext {a = false} {b = false} f g = refl

-- a choice whose test is known
pub choice-true {ℓ} : {A : Type ℓ} {b : Bool} → b ≡ true → (x y : A) → choice b x y ≡ x
choice-true e x y = ap (λ b. choice b x y) e

pub choice-false {ℓ} : {A : Type ℓ} {b : Bool} → b ≡ false → (x y : A) → choice b x y ≡ y
choice-false e x y = ap (λ b. choice b x y) e

pub not_eqb_iff : (a b : ℕ) → (not (eqb a b) ≡ true) ↔ (a ≢ b)
not_eqb_iff a b = (λ e. eqb-false a b (sym (not-not (eqb a b)) ∙ ap not e), λ d. ap not (ne_eqb a b d))

-- two equality tests are equal when they ask the same
pub eqb_ext : (a b c d : ℕ) → (a ≡ b → c ≡ d) → (c ≡ d → a ≡ b) → eqb a b ≡ eqb c d
eqb_ext a b c d f g = bool_ext (λ e. eq-eqb c d (f (eqb-true a b e))) (λ e. eq-eqb a b (g (eqb-true c d e)))

-- tests joined
pub and-true : {a b : Bool} → a ≡ true → b ≡ true → a && b ≡ true
and-true {a} {b} p q = ap (λ c. c && b) p ∙ q

pub and_both : (a b : Bool) → a && b ≡ true → (a ≡ true) × (b ≡ true)
and_both true b e = (refl, e)
and_both false b e = absurd (false≢true e)

pub and_left : {a : Bool} (b : Bool) → a ≡ false → a && b ≡ false
and_left b e = ap (λ c. c && b) e

pub and_right : (a : Bool) {b : Bool} → b ≡ false → a && b ≡ false
and_right true e = e
and_right false e = refl

pub or_neither : (a b : Bool) → a || b ≡ false → (a ≡ false) × (b ≡ false)
or_neither true b e = absurd (false≢true (sym e))
or_neither false b e = (refl, e)

pub or-false : {a b : Bool} → a ≡ false → b ≡ false → a || b ≡ false
or-false {a} {b} p q = ap (λ c. c || b) p ∙ q

pub or_left : {a : Bool} (b : Bool) → a ≡ true → a || b ≡ true
or_left b e = ap (λ c. c || b) e

pub or_right : (a : Bool) {b : Bool} → b ≡ true → a || b ≡ true
or_right true e = refl
or_right false e = e
