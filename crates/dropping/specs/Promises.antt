-- What each call promises: what it tells, and what the lent list holds afterwards.
use Rattle.std.specs.Prelude.{ℕ, List, [], ◌∷◌, length}
use Rattle.refusals.specs.Tables.{Told, first_of, after}
use Rattle.refusals.specs.Tables.Told.{answered}
use Rattle.refusals.specs.Places.{in_word}
use Rattle.circuit.specs.Gates.{gates_of}
use Rattle.faults.specs.Records.{faults_of}
use Rattle.faults.specs.declared.Fault.{Fault}
use Rattle.dropping.specs.Dropping.{uncaught, dropped, words_of}
use Rattle.dropping.specs.Rules.{drop_rows, drop_records_rows}

-- ---- a plain list, four words a record

-- the number of records left
abbrev pub drop_tells : ℕ → List ℕ → ℕ → List ℕ → Told
drop_tells n words x list = first_of (drop_rows n words x list) (answered (in_word (length (uncaught (gates_of words) x (faults_of list))) ∷ []))

abbrev pub drop_leaves : ℕ → List ℕ → ℕ → List ℕ → List ℕ
drop_leaves n words x list = after (drop_rows n words x list) (words_of (dropped (gates_of words) x (faults_of list))) list

-- ---- a slice of records

abbrev pub drop_records_tells : ℕ → List ℕ → ℕ → List Fault → Told
drop_records_tells n words x fs = first_of (drop_records_rows n words x fs) (answered (in_word (length (uncaught (gates_of words) x fs)) ∷ []))

abbrev pub drop_records_leaves : ℕ → List ℕ → ℕ → List Fault → List Fault
drop_records_leaves n words x fs = after (drop_records_rows n words x fs) (dropped (gates_of words) x fs) fs
