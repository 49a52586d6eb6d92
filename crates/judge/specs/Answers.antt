-- What the verdict on a set for a class tells.
use Rattle.std.specs.Prelude.{ℕ, List, ◌∷◌}
use Rattle.marking.specs.Firsts.{told_first}
use Rattle.judge.specs.declared.Verdict.{Verdict}

-- the number caught, the number in the class, and 1 for complete with four zeros, or 0 and the first uncaught fault
abbrev pub verdict_values : Verdict → List ℕ
verdict_values v = v.caught ∷ v.total ∷ told_first v.first
