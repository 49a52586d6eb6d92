-- What a list of fault records is after a vector: the uncaught at the front in their old order, the rest blank.
use Rattle.std.specs.Prelude.{ℕ, ◌-◌, not, List, [], ◌∷◌, ◌++◌, length, replicate}
use Rattle.basics.specs.Lists.{keep}
use Rattle.circuit.specs.declared.Gate.{Gate}
use Rattle.simulator.specs.Faulty.{caught}
use Rattle.faults.specs.Records.{no_fault}
use Rattle.faults.specs.declared.Fault.{Fault}

-- the faults that the vector does not catch
unfoldable pub uncaught : List Gate → ℕ → List Fault → List Fault
uncaught gs x fs = keep (λ f. not (caught gs f x)) fs

-- a blank record is all zero
unfoldable pub dropped : List Gate → ℕ → List Fault → List Fault
dropped gs x fs = uncaught gs x fs ++ replicate (length fs - length (uncaught gs x fs)) no_fault

-- records as plain numbers, four a record
unfoldable pub words_of : List Fault → List ℕ
words_of [] = []
words_of (f ∷ fs) = f.class ∷ f.place ∷ f.line ∷ f.value ∷ words_of fs
