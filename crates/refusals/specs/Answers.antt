-- What an answer tells, in the words of a table: its values, or the number and the place of a refusal.
use Rattle.std.specs.Prelude.{ℕ, Bool, Result, Ok, Err, List, [], ◌∷◌}
use Rattle.basics.specs.Choice.{count}
use Rattle.refusals.specs.Tables.{Told}
use Rattle.refusals.specs.Tables.Told.{answered, refused}
use Rattle.refusals.specs.declared.Refusal.{Refusal}
use Rattle.refusals.specs.declared.Refusal.TheVariants.{ShortJob, Form, Lines, Classes, Counts, Sizes, Gate, Vector, Fault, Room, ManyLines, Level, Entries, Text, OtherGate}

-- the number of each rule
abbrev pub number_of : Refusal → ℕ
number_of ShortJob = 1
number_of Form = 2
number_of Lines = 3
number_of Classes = 4
number_of Counts = 5
number_of Sizes = 6
number_of (Gate p) = 7
number_of (Vector p) = 8
number_of (Fault p) = 9
number_of Room = 10
number_of ManyLines = 11
number_of Level = 12
number_of Entries = 13
number_of (Text p) = 14
number_of (OtherGate p) = 15

-- the place that it tells
abbrev pub place_of : Refusal → ℕ
place_of ShortJob = 0
place_of Form = 0
place_of Lines = 0
place_of Classes = 0
place_of Counts = 0
place_of Sizes = 0
place_of (Gate p) = p
place_of (Vector p) = p
place_of (Fault p) = p
place_of Room = 0
place_of ManyLines = 0
place_of Level = 0
place_of Entries = 0
place_of (Text p) = p
place_of (OtherGate p) = p

-- what an answer tells whose values are some numbers
abbrev pub told : {A : Type 0} → (A → List ℕ) → Result A Refusal → Told
told values (Ok a) = answered (values a)
told values (Err r) = refused (number_of r) (place_of r)

-- an answer that is one number: a state, a vector, how many
abbrev pub told_word : Result ℕ Refusal → Told
told_word = told (λ word. word ∷ [])

-- an answer that is yes or no: 1 or 0
abbrev pub told_yes : Result Bool Refusal → Told
told_yes = told (λ yes. count yes ∷ [])

-- what a check finds: no rule is broken, or the first that is
abbrev pub fine : Told
fine = answered []

abbrev pub found : {A : Type 0} → Result A Refusal → Told
found result = told (λ _. []) result
