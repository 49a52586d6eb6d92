-- The rows of a table of borders.
use Rattle.std.specs.Prelude.{ℕ, ◌≡◌, List}
use Rattle.refusals.specs.Tables.{Told}
use Rattle.faults.specs.declared.Fault.{Fault}

infix 68 ◌tells◌
infix 68 ◌gives◌
-- what a call is asked and what it tells; a list that is made and what stands in it
pub data Row : Type 0 where
  ◌tells◌ : Told → Told → Row
  ◌gives◌ : List ℕ → List ℕ → Row

-- a row is right when what comes is what it says
abbrev pub Right : Row → Type 0
Right (asked tells expected) = asked ≡ expected
Right (made gives expected) = made ≡ expected

-- a fault record: class, place, line, value
abbrev pub fault : ℕ → ℕ → ℕ → ℕ → Fault
fault class place line value = record { class = class; place = place; line = line; value = value }
