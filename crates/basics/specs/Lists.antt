-- Lists: counting up, keeping, joining, and what holds of some entry or of all.
use Rattle.std.specs.Prelude.{ℕ, zero, suc, Bool, false, ◌||◌, List, [], ◌∷◌, ◌++◌, length, drop}
use Rattle.basics.specs.Choice.{choice}

-- a, a + 1, .., of them k
unfoldable pub up_from : ℕ → ℕ → List ℕ
up_from a zero = []
up_from a (suc k) = a ∷ up_from (suc a) k

-- the entries that pass a test, in their order
unfoldable pub keep {ℓ} : {A : Type ℓ} → (A → Bool) → List A → List A
keep p [] = []
keep p (a ∷ ys) = choice (p a) (a ∷ keep p ys) (keep p ys)

-- what a function makes of each entry, joined
unfoldable pub each {ℓ κ} : {A : Type ℓ} {B : Type κ} → (A → List B) → List A → List B
each f [] = []
each f (a ∷ ys) = f a ++ each f ys

-- some entry passes a test
unfoldable pub some {ℓ} : {A : Type ℓ} → (A → Bool) → List A → Bool
some p [] = false
some p (a ∷ ys) = p a || some p ys

-- a property of every entry
abbrev pub All {ℓ} : {A : Type ℓ} → (A → Type 0) → List A → Type 0
All P [] = Unit {0}
All P (a ∷ ys) = P a × All P ys

-- what was made, then the old contents from there on
abbrev pub onto {ℓ} : {A : Type ℓ} → List A → List A → List A
onto made old = made ++ drop (length made) old
