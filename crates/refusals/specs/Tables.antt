-- Tables of rules. A call's rules stand in a table in the order in which they are checked, and the first that is broken is told.
use Rattle.std.specs.Prelude.{ℕ, Bool, List, [], ◌∷◌}
use Rattle.basics.specs.Choice.{choice}

infix 68 refuse◌at◌when◌
-- one rule: the refusal's number, its place, and when it is given
pub data Row : Type 0 where
  refuse◌at◌when◌ : ℕ → ℕ → Bool → Row

-- what a call tells: the values of its answer, or a refusal's number and place
pub data Told : Type 0 where
  answered : List ℕ → Told
  refused : ℕ → ℕ → Told

-- the first rule that is broken, and the answer where none is
abbrev pub first_of : List Row → Told → Told
first_of [] answer = answer
first_of (refuse number at place when broken ∷ rows) answer = choice broken (refused number place) (first_of rows answer)

-- what lent memory holds after a call: what the call makes of it where no rule is broken, and else what it held
abbrev pub after {ℓ} : {A : Type ℓ} → List Row → A → A → A
after [] made old = made
after (refuse number at place when broken ∷ rows) made old = choice broken old (after rows made old)
