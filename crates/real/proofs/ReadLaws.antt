-- Laws of a reading, one line on.
use Prim.Native.Nat.{ℕ, suc}
use mathlib.Core.Path.{◌≡◌, ap}
use mathlib.Core.List.{List, ◌∷◌}
use Rattle.real.specs.Form.{Stage, step_of}
use Rattle.real.specs.Form.Step.{goes, stops}
use Rattle.real.specs.Reading.{read_from, onward}
use Rattle.real.specs.Reading.Reading.{faulty}

module _ (at : ℕ) (s : Stage) (l : List ℕ) (ls : List (List ℕ)) where
  pub read_goes : (t : Stage) → step_of s l ≡ goes t → read_from at s (l ∷ ls) ≡ read_from (suc at) t ls
  unfolding read_from
  read_goes t e = ap (λ step. onward at step (λ next. read_from (suc at) next ls)) e

  pub read-stops : (k : ℕ) → step_of s l ≡ stops k → read_from at s (l ∷ ls) ≡ faulty k at
  unfolding read_from
  read-stops k e = ap (λ step. onward at step (λ next. read_from (suc at) next ls)) e
