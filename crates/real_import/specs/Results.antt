-- What the code below the call answers: the same as the call, of a text that is read already.
use Rattle.std.specs.Prelude.{ℕ, ◌≡◌, Result, List, [], ◌∷◌, ◌++◌, length, ltb}
use Rattle.basics.specs.Lists.{onto}
use Rattle.refusals.specs.Tables.{Row, first_of, after}
use Rattle.refusals.specs.Tables.Row.{refuse◌at◌when◌}
use Rattle.refusals.specs.Tables.Told.{answered}
use Rattle.refusals.specs.Answers.{fine, found, told}
use Rattle.refusals.specs.declared.Refusal.{Refusal}
use Rattle.circuit.specs.Gates.{gates_of}
use Rattle.circuit.specs.Rules.{circuit_rows}
use Rattle.circuit.specs.declared.checked.Circuit.{Circuit}
use Rattle.real.specs.Reading.{Reading}
use Rattle.real.specs.Reading.Reading.{circuit}
use Rattle.real_import.specs.Rules.{lines_read, words_read, reading_rows}
use Rattle.real_import.specs.Lines.{Held}
use Rattle.real_import.specs.Answers.{imported_values}
use Rattle.real_import.specs.declared.Imported.{Imported}

-- the rules of a circuit whose gates are held, and of the room for them
abbrev pub held_rows : ℕ → List ℕ → ℕ → List Row
held_rows n words room = circuit_rows n words ++ (refuse 10 at 0 when ltb room (length words) ∷ [])

abbrev pub ReadChecked : ℕ → ℕ → List ℕ → ℕ → Result Circuit Refusal → Type 0
ReadChecked n gates own room r = (words : List ℕ) → Held n own gates words → found r ≡ first_of (held_rows n words room) fine

pub record Answers (read : Reading) (room : List ℕ) (r : Result Imported Refusal) (last : List ℕ) : Type 0 where
  pub tells : told imported_values r
      ≡ first_of (reading_rows read (length room)) (answered (lines_read read ∷ length (gates_of (words_read read)) ∷ []))
  pub leaves : last ≡ after (reading_rows read (length room)) (onto (words_read read) room) room

abbrev pub HeldAnswers : ℕ → ℕ → List ℕ → List ℕ → Result Imported Refusal → List ℕ → Type 0
HeldAnswers n gates own room r last = (words : List ℕ) → Held n own gates words → Answers (circuit n words) room r last

-- some words are held
abbrev pub SomeHeld : ℕ → List ℕ → ℕ → Type 0
SomeHeld n own gates = (words : List ℕ) × Held n own gates words
