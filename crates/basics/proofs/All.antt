-- Laws of a property of every entry.
use Prim.Native.Nat.{ℕ, zero, suc, ◌<◌}
use native.Mathlib.Nat.{not-suc-le-zero, le_of_suc-le-suc}
use mathlib.Core.Path.{refl}
use mathlib.Core.List.{List, [], ◌∷◌, ◌++◌, map, Memᴰ}
use lib.ListN.{length, get_or, take, drop}
use Rattle.basics.specs.Lists.{All}

module _ {ℓ} {A : Type ℓ} where
  pub all_map : {P Q : A → Type 0} → ((a : A) → P a → Q a) → (ys : List A) → All P ys → All Q ys
  all_map h [] w = tt
  all_map h (a ∷ ys) w = (h a w.0, all_map h ys w.1)

module _ {ℓ} {A : Type ℓ} (P : A → Type 0) where
  pub all_of : ((a : A) → P a) → (ys : List A) → All P ys
  all_of h [] = tt
  all_of h (a ∷ ys) = (h a, all_of h ys)

  pub all_at : (ys : List A) (i : ℕ) (d : A) → i < length ys → All P ys → P (get_or ys i d)
  all_at [] i d h w = absurd (not-suc-le-zero h)
  all_at (a ∷ ys) zero d h w = w.0
  all_at (a ∷ ys) (suc i) d h w = all_at ys i d (le_of_suc-le-suc h) w.1

  pub all_take : (i : ℕ) (ys : List A) → All P ys → All P (take i ys)
  all_take zero ys w = tt
  all_take (suc i) [] w = tt
  all_take (suc i) (a ∷ ys) w = (w.0, all_take i ys w.1)

  pub all_drop : (i : ℕ) (ys : List A) → All P ys → All P (drop i ys)
  all_drop zero ys w = w
  all_drop (suc i) [] w = tt
  all_drop (suc i) (a ∷ ys) w = all_drop i ys w.1

  pub all_append : (ys zs : List A) → All P ys → All P zs → All P (ys ++ zs)
  all_append [] zs w v = v
  all_append (a ∷ ys) zs w v = (w.0, all_append ys zs w.1 v)

  pub all_front : (ys zs : List A) → All P (ys ++ zs) → All P ys
  all_front [] zs w = tt
  all_front (a ∷ ys) zs w = (w.0, all_front ys zs w.1)

  pub all_back : (ys zs : List A) → All P (ys ++ zs) → All P zs
  all_back [] zs w = w
  all_back (a ∷ ys) zs w = all_back ys zs w.1

-- a property of what a function makes of every entry
module _ {ℓ κ} {A : Type ℓ} {B : Type κ} (P : B → Type 0) (f : A → B) where
  pub all_over : (ys : List A) → All (λ a. P (f a)) ys → All P (map f ys)
  all_over [] w = tt
  all_over (a ∷ ys) w = (w.0, all_over ys w.1)

-- what a function makes of an entry is an entry of what it makes of the list
pub all_mapped {ℓ} : {A : Type ℓ} {B : Type 0} (f : A → B) (ys : List A) → All (λ a. Memᴰ (f a) (map f ys)) ys
all_mapped f [] = tt
all_mapped f (a ∷ ys) = (Memᴰ.head refl, all_map (λ b. Memᴰ.tail) ys (all_mapped f ys))
