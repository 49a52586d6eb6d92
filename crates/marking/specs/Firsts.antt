-- The first fault of a list: 1 and four zeros where the list has none, and else 0 with the fault's class, place, line and value.
use Rattle.std.specs.Prelude.{ℕ, Bool, not, Option, Some, None, List, [], ◌∷◌}
use Rattle.basics.specs.Lists.{keep}
use Rattle.faults.specs.declared.Fault.{Fault}

abbrev pub first_told : List Fault → List ℕ
first_told [] = 1 ∷ 0 ∷ 0 ∷ 0 ∷ 0 ∷ []
first_told (f ∷ rest) = 0 ∷ f.class ∷ f.place ∷ f.line ∷ f.value ∷ []

-- the first fault of a list that a test does not call caught
abbrev pub first_uncaught : (Fault → Bool) → List Fault → List ℕ
first_uncaught isCaught fs = first_told (keep (λ f. not (isCaught f)) fs)

-- what a search tells
abbrev pub told_first : Option Fault → List ℕ
told_first None = 1 ∷ 0 ∷ 0 ∷ 0 ∷ 0 ∷ []
told_first (Some f) = 0 ∷ f.class ∷ f.place ∷ f.line ∷ f.value ∷ []
