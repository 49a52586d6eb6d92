-- The fields of a C answer, in their order. The first two are a refusal's number and place: 0 and 0 where the call answers.
use Rattle.std.specs.Prelude.{ℕ, List, ◌∷◌, replicate}
use Rattle.refusals.specs.Tables.{Told}
use Rattle.refusals.specs.Tables.Told.{answered, refused}

-- what a call tells, as an answer with so many fields after the first two: its values there, or zeros after a refusal
abbrev pub fields : ℕ → Told → List ℕ
fields others (answered values) = 0 ∷ 0 ∷ values
fields others (refused number place) = number ∷ place ∷ replicate others 0
