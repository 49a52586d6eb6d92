-- What is told apart: where an answer and a refusal, or an answer of 1 and one of 0, would tell the same, anything follows.
use Prim.Native.Nat.{ℕ}
use mathlib.Core.Path.{◌≡◌, sym}
use mathlib.Core.List.{List, ◌∷◌}
use native.Mathlib.Omega.{arith}
use Rattle.refusals.specs.Tables.Told.{answered, refused}

pub answered-refused {ℓ} : {A : Type ℓ} {values : List ℕ} {k p : ℕ} → answered values ≡ refused k p → A
answered-refused e = let z : ◌≡◌ {A = ℕ} 0 1 = cc in absurd (omega arith)

pub refused-answered {ℓ} : {A : Type ℓ} {values : List ℕ} {k p : ℕ} → refused k p ≡ answered values → A
refused-answered e = answered-refused (sym e)

pub one-zero {ℓ} : {A : Type ℓ} {xs ys : List ℕ} → answered (1 ∷ xs) ≡ answered (0 ∷ ys) → A
one-zero e = let z : ◌≡◌ {A = ℕ} 0 1 = cc in absurd (omega arith)

pub zero_one {ℓ} : {A : Type ℓ} {xs ys : List ℕ} → answered (0 ∷ xs) ≡ answered (1 ∷ ys) → A
zero_one e = one-zero (sym e)
