-- A plain list of fault records, four words a record: class, place, line, value.
use Rattle.std.specs.Prelude.{ℕ, ◌%◌, Bool, not, List, [], ◌∷◌, length, eqb}
use Rattle.refusals.specs.Places.{first_bad}
use Rattle.faults.specs.declared.Fault.{Fault}

-- a blank record is all zero, and no fault
unfoldable pub no_fault : Fault
no_fault = record { class = 0; place = 0; line = 0; value = 0 }

-- the whole records
unfoldable pub faults_of : List ℕ → List Fault
faults_of [] = []
faults_of (c ∷ []) = []
faults_of (c ∷ p ∷ []) = []
faults_of (c ∷ p ∷ l ∷ []) = []
faults_of (c ∷ p ∷ l ∷ v ∷ rest) = record { class = c; place = p; line = l; value = v } ∷ faults_of rest

-- the place of the first bad record; words left over are one more bad record
unfoldable pub first_bad_record : (Fault → Bool) → List ℕ → ℕ
first_bad_record bad list = first_bad bad (not (eqb (length list % 4) 0)) (faults_of list)
