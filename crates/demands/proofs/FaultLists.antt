-- Lists of faults in the words of docs/SCOPE.md: their order, the faults of a class, those of a list that are caught, and the verdict on a list.
use Prim.Native.Nat.{ℕ, ◌*◌, ◌^◌, ◌≤◌, ◌<◌}
use mathlib.Core.Path.{◌≡◌}
use mathlib.Core.Logic.{◌≢◌}
use mathlib.Core.List.{List, [], ◌∷◌, ◌++◌, Memᴰ}
use lib.ListN.{length}
use Rattle.basics.specs.Lists.{All}
use Rattle.circuit.specs.declared.Gate.{Gate}
use Rattle.faults.specs.declared.Fault.{Fault}
use Rattle.demands.proofs.Machine.{Caught, Missed, Has}

-- ---- order: by level or gate, then line, then value 0 before 1

pub data Before (f h : Fault) : Type 0 where
  by_place : f.place < h.place → Before f h
  by_line : f.place ≡ h.place → f.line < h.line → Before f h
  by_value : f.place ≡ h.place → f.line ≡ h.line → f.value < h.value → Before f h

-- each comes before all that follow it, so none stands there twice
abbrev pub Ordered : List Fault → Type 0
Ordered [] = Unit {0}
Ordered (f ∷ fs) = All (Before f) fs × Ordered fs

-- ---- the faults of a class: each that the circuit has, once and in order

pub record Class (n : ℕ) (gs : List Gate) (class : ℕ) (fs : List Fault) : Type 0 where
  pub each-is : All (λ f. (f.class ≡ class) × Has n gs f) fs
  pub has_all : (f : Fault) → f.class ≡ class → Has n gs f → Memᴰ f fs
  pub ordered : Ordered fs

-- ---- those of a list that have one property, in their order; each other has another, which is its contrary wherever this is said: `not_both` of
-- `Conditions`, `apart` of `Completeness`

pub data Kept {A : Type 0} (Yes No : A → Type 0) : List A → List A → Type 0 where
  none : Kept Yes No [] []
  stays : {a : A} {ys zs : List A} → Yes a → Kept Yes No ys zs → Kept Yes No (a ∷ ys) (a ∷ zs)
  goes : {a : A} {ys zs : List A} → No a → Kept Yes No ys zs → Kept Yes No (a ∷ ys) zs

-- ---- a set of vectors

-- some vector of it catches the fault
abbrev pub CaughtBySome : List Gate → List ℕ → Fault → Type 0
CaughtBySome gs xs f = (x : ℕ) × Memᴰ x xs × Caught gs f x

-- every vector of it misses the fault
abbrev pub CaughtByNone : List Gate → List ℕ → Fault → Type 0
CaughtByNone gs xs f = All (Missed gs f) xs

-- ---- the verdict on a list, by which faults of it are caught

-- 1 and four zeros where all are, and else 0 and the fields of the first that is not
pub data Shows (Yes No : Fault → Type 0) (fs : List Fault) (values : List ℕ) : Type 0 where
  complete : All Yes fs → values ≡ 1 ∷ 0 ∷ 0 ∷ 0 ∷ 0 ∷ [] → Shows Yes No fs values
  first : (before : List Fault) (f : Fault) (later : List Fault) → fs ≡ before ++ (f ∷ later) → All Yes before → No f
      → values ≡ 0 ∷ f.class ∷ f.place ∷ f.line ∷ f.value ∷ [] → Shows Yes No fs values

-- the number caught, the number in all, and that
pub record Verdict (Yes No : Fault → Type 0) (fs : List Fault) (values : List ℕ) : Type 0 where
  pub caught : List Fault
  pub caught-are : Kept Yes No fs caught
  pub shown : List ℕ
  pub values-are : values ≡ length caught ∷ length fs ∷ shown
  pub shows : Shows Yes No fs shown

-- ---- the pick rule

-- of all inputs v catches the most of a list of faults, and every smaller input catches fewer
pub record Best (n : ℕ) (gs : List Gate) (fs : List Fault) (v : ℕ) : Type 0 where
  pub input : v < 2 ^ n
  pub caught : List Fault
  pub caught-are : Kept (λ f. Caught gs f v) (λ f. Missed gs f v) fs caught
  pub most : (x : ℕ) → x < 2 ^ n → (theirs : List Fault) → Kept (λ f. Caught gs f x) (λ f. Missed gs f x) fs theirs → length theirs ≤ length caught
  pub smallest : (x : ℕ) → x < v → (theirs : List Fault) → Kept (λ f. Caught gs f x) (λ f. Missed gs f x) fs theirs → length theirs < length caught
  -- at least half of them
  pub half : length fs ≤ 2 * length caught

-- the best for the faults that are left, and again, until none is left
abbrev pub Picks : ℕ → List Gate → List Fault → List ℕ → Type 0
Picks n gs fs [] = fs ≡ []
Picks n gs fs (v ∷ vs) = (fs ≢ []) × Best n gs fs v
    × ((rest : List Fault) × Kept (λ f. Missed gs f v) (λ f. Caught gs f v) fs rest × Picks n gs rest vs)
