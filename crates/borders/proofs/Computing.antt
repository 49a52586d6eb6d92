-- Rows by computing: each is tested, and where every test passes every row is right. A test that fails ends the computing with the row's
-- number and what came of it, so that a check shows them. Assumes nothing.
use Rattle.std.proofs.Common.{◌≡◌, refl, ℕ, suc, Bool, true, false, ◌&&◌, eqb, List, [], ◌∷◌, arith, eqb-true}
use Rattle.std.proofs.lemmas.Bool.{false≢true}
use Rattle.basics.specs.Choice.{choice}
use Rattle.basics.specs.Lists.{All}
use Rattle.basics.proofs.Tests.{and_both}
use Rattle.refusals.specs.Tables.{Told}
use Rattle.refusals.specs.Tables.Told.{answered, refused}
use Rattle.proved_samples.specs.Table.{same}
use Rattle.borders.specs.Rows.{Row, Right}
use Rattle.borders.specs.Rows.Row.{◌tells◌, ◌gives◌}

abbrev pub same_told : Told → Told → Bool
same_told (answered values) (answered expected) = same values expected
same_told (answered values) (refused number place) = false
same_told (refused number place) (answered expected) = false
same_told (refused number place) (refused expected at) = eqb number expected && eqb place at

-- every row passes, or one, with its number from 1, is the first that does not
pub data Outcome : Type 0 where
  right : Outcome
  wrong : ℕ → Row → Outcome

abbrev pub outcome_from : ℕ → List Row → Outcome
outcome_from number [] = right
outcome_from number (asked tells expected ∷ rows) =
    choice (same_told asked expected) (outcome_from (suc number) rows) (wrong number (asked tells expected))
outcome_from number (made gives expected ∷ rows) =
    choice (same made expected) (outcome_from (suc number) rows) (wrong number (made gives expected))

abbrev pub outcome : List Row → Outcome
outcome rows = outcome_from 1 rows

-- ---- what passes is right

same_equal : (values expected : List ℕ) → same values expected ≡ true → values ≡ expected
same_equal [] [] e = refl
same_equal [] (b ∷ bs) e = absurd (false≢true e)
same_equal (a ∷ rest) [] e = absurd (false≢true e)
same_equal (a ∷ rest) (b ∷ bs) e =
    let both = and_both (eqb a b) (same rest bs) e in
    let first = eqb-true a b both.0 in
    let others = same_equal rest bs both.1 in
    cc

told_equal : (asked expected : Told) → same_told asked expected ≡ true → asked ≡ expected
told_equal (answered values) (answered expected) e = let equal = same_equal values expected e in cc
told_equal (answered values) (refused number place) e = absurd (false≢true e)
told_equal (refused number place) (answered expected) e = absurd (false≢true e)
told_equal (refused number place) (refused expected at) e =
    let both = and_both (eqb number expected) (eqb place at) e in
    let numbers = eqb-true number expected both.0 in
    let places = eqb-true place at both.1 in
    cc

passed : (test : Bool) (rest : Outcome) (number : ℕ) (row : Row) → choice test rest (wrong number row) ≡ right → (test ≡ true) × (rest ≡ right)
passed true rest number row e = (refl, e)
passed false rest number row e = let z : ◌≡◌ {A = ℕ} 0 1 = cc in absurd (omega arith)

right_from : (number : ℕ) (rows : List Row) → outcome_from number rows ≡ right → All Right rows
right_from number [] e = tt
right_from number (asked tells expected ∷ rows) e =
    let w = passed (same_told asked expected) (outcome_from (suc number) rows) number (asked tells expected) e in
    (told_equal asked expected w.0, right_from (suc number) rows w.1)
right_from number (made gives expected ∷ rows) e =
    let w = passed (same made expected) (outcome_from (suc number) rows) number (made gives expected) e in
    (same_equal made expected w.0, right_from (suc number) rows w.1)

pub by_computing : (rows : List Row) → outcome rows ≡ right → All Right rows
by_computing rows e = right_from 1 rows e
