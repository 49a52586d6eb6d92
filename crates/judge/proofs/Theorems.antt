-- The order of the vectors of a set, and repeats among them, change no verdict.
use Rattle.std.specs.Prelude.{ℕ, ◌≡◌, refl, List, ◌∷◌, length}
use Rattle.std.proofs.Common.{sym, ◌∙◌}
use Rattle.refusals.specs.Tables.Told.{answered}
use Rattle.circuit.specs.declared.Gate.{Gate}
use Rattle.faults.specs.declared.Fault.{Fault}
use Rattle.judge.specs.Judging.{caught_by_some, caught_of, uncaught_of, verdict}
use Rattle.marking.specs.Firsts.{first_told}
use Rattle.judge.proofs.Verdicts.{SameVectors, caught_of-same, uncaught-same}

-- a verdict tells the number caught, the number in all, and the first uncaught fault
verdict-is : (gs : List Gate) (xs : List ℕ) (fs : List Fault)
    → verdict (caught_by_some gs xs) fs ≡ answered (length (caught_of gs xs fs) ∷ length fs ∷ first_told (uncaught_of gs xs fs))
unfolding verdict caught_of uncaught_of
verdict-is gs xs fs = refl

module _ (gs : List Gate) (xs : List ℕ) (fs : List Fault) where
  -- the order of vectors and repeats change nothing
  pub same_vectors_same_verdict : (ys : List ℕ) → SameVectors xs ys → verdict (caught_by_some gs xs) fs ≡ verdict (caught_by_some gs ys) fs
  same_vectors_same_verdict ys same =
      verdict-is gs xs fs ∙ rw (caught_of-same gs xs fs ys same, uncaught-same gs xs fs ys same) (sym (verdict-is gs ys fs))
