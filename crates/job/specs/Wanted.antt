-- The classes that a job wants: bit 0 for class 1 up to bit 3 for class 4.
use Rattle.std.specs.Prelude.{ℕ, ◌-◌, Bool, List, eqb}
use Rattle.basics.specs.Lists.{up_from, keep}
use Rattle.words.specs.Word.{bit}

unfoldable pub is_wanted : ℕ → ℕ → Bool
is_wanted classes class = eqb (bit classes (class - 1)) 1

-- in code order
unfoldable pub wanted : ℕ → List ℕ
wanted classes = keep (is_wanted classes) (up_from 1 4)
