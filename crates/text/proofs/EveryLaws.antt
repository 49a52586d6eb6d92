-- Laws of a test that every entry passes.
use Prim.Native.Nat.{ℕ, ◌≤◌}
use mathlib.Core.Path.{◌≡◌, refl, ◌∙◌}
use mathlib.Core.Bool.{Bool, true, false}
use mathlib.Core.List.{List, [], ◌∷◌, ◌++◌}
use native.Mathlib.Omega.{arith}
use lib.ListN.{length, get_or}
use Rattle.std.proofs.Common.{Option, MatchOption}
use Rattle.std.specs.Fn.{Mut, Called}
use Rattle.std.specs.Iterator.{YieldsThen}
use Rattle.std.specs.List.{list_all, FoldsTo}
use Rattle.std.proofs.lemmas.Iterator.{YieldsList}
use Rattle.std.proofs.lemmas.Iterator.Search.{all_from_yields_List}
use Rattle.basics.proofs.Tests.{and_both, and-true}
use Rattle.text.specs.Texts.{every, begins}

module _ {ℓ} {A : Type ℓ} (p : A → Bool) where
  pub every_append : (xs ys : List A) → every p xs ≡ true → every p ys ≡ true → every p (xs ++ ys) ≡ true
  unfolding every
  every_append [] ys a b = b
  every_append (x ∷ xs) ys a b = let w = and_both (p x) (every p xs) a in and-true w.0 (every_append xs ys w.1 b)

  pub every-nil : every p [] ≡ true
  unfolding every
  every-nil = refl

  pub every_passed : (x : A) (xs : List A) → p x ≡ true → every p (x ∷ xs) ≡ every p xs
  unfolding every
  every_passed x xs e = rw e

  pub every_failed : (x : A) (xs : List A) → p x ≡ false → every p (x ∷ xs) ≡ false
  unfolding every
  every_failed x xs e = rw e

pub begins-first : (p : ℕ → Bool) (t : List ℕ) → 1 ≤ length t → begins p t ≡ p (get_or t 0 0)
unfolding begins
begins-first p [] h = absurd (omega arith)
begins-first p (b ∷ t) h = refl

-- ---- what the library's `all` tells

pub every_is_all : {A : Type 0} (p : A → Bool) (xs : List A) → list_all p xs ≡ every p xs
unfolding every
every_is_all p [] = refl
every_is_all p (x ∷ xs) = rw (every_is_all p xs)

-- `all_from_yields_List`, for a clause that says `every`
pub every_from_all : {S A B F : Type 0} {steps : S → Option A → S → Type 0} {v : A → B} {g : Mut F (A × Unit {0}) Bool} {s : S} {xs : List B}
    → (test : B → Bool) (u : S) (f : F) (told : Bool)
    → (ys : List A) × (o : Option A) × (j : F) × YieldsThen steps s ys o u × FoldsTo (λ p x q. Called g p (x, tt) true q) f ys j
    × MatchOption o (told ≡ true) (λ x. (told ≡ false) × ((h : F) × Called g j (x, tt) false h))
    → YieldsList steps v s xs → ((x : A) (b : Bool) (q : F) → Called g f (x, tt) b q → (q ≡ f) × (b ≡ test (v x)))
    → told ≡ every test xs
every_from_all {xs = xs} test u f told ran road asked = all_from_yields_List test u f told ran road asked ∙ every_is_all test xs
