-- Judging a set: which faults of a list some vector of it catches, and which none does.
use Rattle.std.specs.Prelude.{ℕ, Bool, not, List, ◌∷◌, length}
use Rattle.basics.specs.Lists.{keep, some}
use Rattle.refusals.specs.Tables.{Told}
use Rattle.refusals.specs.Tables.Told.{answered}
use Rattle.circuit.specs.declared.Gate.{Gate}
use Rattle.simulator.specs.Faulty.{caught}
use Rattle.marking.specs.Firsts.{first_uncaught}
use Rattle.faults.specs.Classes.{class_faults}
use Rattle.faults.specs.declared.Fault.{Fault}

-- some vector of the set catches the fault
unfoldable pub caught_by_some : List Gate → List ℕ → Fault → Bool
caught_by_some gs xs f = some (caught gs f) xs

-- the faults of a list that some vector catches, and those that none does
unfoldable pub caught_of : List Gate → List ℕ → List Fault → List Fault
caught_of gs xs fs = keep (caught_by_some gs xs) fs

unfoldable pub uncaught_of : List Gate → List ℕ → List Fault → List Fault
uncaught_of gs xs fs = keep (λ f. not (caught_by_some gs xs f)) fs

-- the verdict on a list of faults of which a test says which are caught: the number caught, the number in all,
-- and 1 for complete with four zeros, or 0 with the class, place, line and value of the first uncaught fault
unfoldable pub verdict : (Fault → Bool) → List Fault → Told
verdict isCaught fs = answered (length (keep isCaught fs) ∷ length fs ∷ first_uncaught isCaught fs)

-- the verdict on a set of vectors for a class
abbrev pub set_verdict : ℕ → List Gate → List ℕ → ℕ → Told
set_verdict n gs xs class = verdict (caught_by_some gs xs) (class_faults n gs class)
