-- What each result tells, case by case: the values of an answer in their order, and of a refusal its number and place.
use Rattle.std.specs.Prelude.{ℕ, ◌≡◌, refl, true, false, Some, None, Ok, Err, List, [], ◌∷◌}
use Rattle.refusals.specs.Tables.Told.{answered, refused}
use Rattle.refusals.specs.Answers.{told, told_word, told_yes, fine, number_of, place_of}
use Rattle.refusals.specs.declared.Refusal.{Refusal}
use Rattle.refusals.specs.declared.Refusal.TheVariants.{ShortJob, Form, Lines, Classes, Counts, Sizes, Gate, Vector, Fault as BadFault, Room}
use Rattle.refusals.specs.declared.Refusal.TheVariants.{ManyLines, Level, Entries, Text, OtherGate}
use Rattle.faults.specs.declared.Fault.{Fault}
use Rattle.judge.specs.Answers.{verdict_values}
use Rattle.judge.specs.Added.{told_added}
use Rattle.judge.specs.declared.coverage.Coverage.{Coverage}
use Rattle.real_import.specs.Answers.{imported_values}
use Rattle.job.specs.Answers.{job_values}

-- ---- answers

-- one number: a state, an output, a vector, how many records, vectors or bytes
pub word_tells : (word : ℕ) → told_word (Ok word) ≡ answered (word ∷ [])
word_tells word = refl

-- caught: 1 for yes, 0 for no
pub catch_tells : (told_yes (Ok true) ≡ answered (1 ∷ [])) × (told_yes (Ok false) ≡ answered (0 ∷ []))
catch_tells = (refl, refl)

-- a verdict: the number caught, the number in the class, and 1 for complete, or 0 and the first uncaught fault
pub complete_tells : (number total : ℕ)
    → told verdict_values (Ok (record { caught = number; total = total; first = None })) ≡ answered (number ∷ total ∷ 1 ∷ 0 ∷ 0 ∷ 0 ∷ 0 ∷ [])
complete_tells number total = refl

pub left-tells : (number total : ℕ) (f : Fault)
    → told verdict_values (Ok (record { caught = number; total = total; first = Some f }))
    ≡ answered (number ∷ total ∷ 0 ∷ f.class ∷ f.place ∷ f.line ∷ f.value ∷ [])
left-tells number total f = refl

-- a coverage with a vector added tells no refusal
pub added_tells : (coverage : Coverage) → told_added (Ok coverage) ≡ fine
added_tells coverage = refl

-- lines, gates
pub import_tells_lem : (lines gates : ℕ) → told imported_values (Ok (record { lines = lines; gates = gates })) ≡ answered (lines ∷ gates ∷ [])
import_tells_lem lines gates = refl

-- lines, classes wanted, gates, vectors
pub read_tells_lem : (lines classes gates vectors : ℕ)
    → told job_values (Ok (record { lines = lines; classes = classes; gates = gates; vectors = vectors }))
    ≡ answered (lines ∷ classes ∷ gates ∷ vectors ∷ [])
read_tells_lem lines classes gates vectors = refl

-- ---- refusals

-- whatever the answer would be, and beside a coverage too
pub refusals_tell : {A : Type 0} (values : A → List ℕ) (r : Refusal) → told values (Err r) ≡ refused (number_of r) (place_of r)
refusals_tell values r = refl

pub added_refused : (r : Refusal) (coverage : Coverage)
    → told_added (Err (record { refusal = r; coverage = coverage })) ≡ refused (number_of r) (place_of r)
added_refused r coverage = refl

-- the number of each rule, and the place that it tells, 0 where it tells none
pub numbers_are : (p : ℕ)
    → (number_of ShortJob ≡ 1) × (number_of Form ≡ 2) × (number_of Lines ≡ 3) × (number_of Classes ≡ 4) × (number_of Counts ≡ 5)
    × (number_of Sizes ≡ 6) × (number_of (Gate p) ≡ 7) × (number_of (Vector p) ≡ 8) × (number_of (BadFault p) ≡ 9) × (number_of Room ≡ 10)
    × (number_of ManyLines ≡ 11) × (number_of Level ≡ 12) × (number_of Entries ≡ 13) × (number_of (Text p) ≡ 14) × (number_of (OtherGate p) ≡ 15)
numbers_are p = (refl, refl, refl, refl, refl, refl, refl, refl, refl, refl, refl, refl, refl, refl, refl)

pub places_are : (p : ℕ)
    → (place_of (Gate p) ≡ p) × (place_of (Vector p) ≡ p) × (place_of (BadFault p) ≡ p) × (place_of (Text p) ≡ p) × (place_of (OtherGate p) ≡ p)
    × (place_of ShortJob ≡ 0) × (place_of Form ≡ 0) × (place_of Lines ≡ 0) × (place_of Classes ≡ 0) × (place_of Counts ≡ 0)
    × (place_of Sizes ≡ 0) × (place_of Room ≡ 0) × (place_of ManyLines ≡ 0) × (place_of Level ≡ 0) × (place_of Entries ≡ 0)
places_are p = (refl, refl, refl, refl, refl, refl, refl, refl, refl, refl, refl, refl, refl, refl, refl)
