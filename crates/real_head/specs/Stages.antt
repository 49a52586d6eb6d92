-- What the code's stages mean: each is a stage of the form, with the words of what was read.
use Rattle.std.specs.Prelude.{ℕ, ◌+◌, ◌-◌, ◌≤◌, ◌≡◌, Bool, true, false, ◌&&◌, Option, Some, None, Result, Ok, Err, List, [], ◌∷◌, length, drop}
use Rattle.text.specs.Texts.{ascii, every, same, distinct}
use Rattle.text.specs.Decimal.{decimal}
use Rattle.text_words.specs.Words.{lines_of, words_of}
use Rattle.text_words.specs.Runs.{IsPart}
use Rattle.real.specs.Form.{Word, Stage, Step, is_name}
use Rattle.real.specs.Form.Stage.{start, versioned, counted, named, begun}
use Rattle.real.specs.Form.Step.{goes, stops}
use Rattle.real.specs.Reading.{reading, read_from}
use Rattle.real.specs.Reading.Reading.{faulty}
use Rattle.real_head.specs.declared.Parts.{Parts}
use Rattle.real_head.specs.declared.Due.{Due}
use Rattle.real_head.specs.declared.Due.TheVariants as due
use Rattle.real_head.specs.declared.Turn.{Turn}
use Rattle.real_head.specs.declared.Turn.TheVariants as turn
use Rattle.real_head.specs.declared.FaultyLine.{FaultyLine}
use Rattle.real_head.specs.declared.Head.{Head}

abbrev pub picked : Bool → Word → List Word → List Word
picked true w rest = w ∷ rest
picked false w rest = rest

-- the optional parts that may come
unfoldable pub parts_in : Parts → List Word
parts_in p =
    picked p.inputs (ascii ".inputs")
    (picked p.outputs (ascii ".outputs")
    (picked p.garbage (ascii ".garbage")
    (picked p.constants (ascii ".constants") [])))

abbrev pub stage_of : Due → Stage
stage_of due.Version = start
stage_of due.Numvars = versioned
stage_of (due.Variables number) = counted number.now
stage_of (due.Part names parts) = named (words_of names.line.now) (parts_in parts)

-- what a turn is a step to; none is a line that is not of the form
abbrev pub turn_step : Option Turn → Step
turn_step None = stops 14
turn_step (Some (turn.Goes d)) = goes (stage_of d)
turn_step (Some (turn.Begins names)) = goes (begun (words_of names.line.now))

-- the same where only parts are told, of these names
abbrev pub parts_step : List Word → Option Parts → Step
parts_step names None = stops 14
parts_step names (Some parts) = goes (named names (parts_in parts))

-- .variables, and as many names as the number says, none twice
abbrev pub is_variables : Word → Word → List Word → Bool
is_variables number word more = same word (ascii ".variables") && (every is_name more && (distinct more && same number (decimal (length more))))

-- what was read stands in the text
abbrev pub InText : List ℕ → Due → Type 0
InText text due.Version = Unit {0}
InText text due.Numvars = Unit {0}
InText text (due.Variables number) = IsPart text number.now
InText text (due.Part names parts) = IsPart text names.line.now

abbrev pub InTurn : List ℕ → Option Turn → Type 0
InTurn text None = Unit {0}
InTurn text (Some (turn.Goes d)) = InText text d
InTurn text (Some (turn.Begins names)) = IsPart text names.line.now

-- what a turn tells stands in each text in which this slice of it does
abbrev pub TakenFrom : List ℕ → Option Turn → Type 0
TakenFrom slice t = (text : List ℕ) → IsPart text slice → InTurn text t

-- the same with what was read so far
abbrev pub LedFrom : Due → List ℕ → Option Turn → Type 0
LedFrom d slice t = (text : List ℕ) → InText text d → IsPart text slice → InTurn text t

-- the head ends with .begin: its names, which stand in the text, and what is left of the text, with the number of the first line of it
pub record Begins (text : List ℕ) (head : Head) : Type 0 where
  pub names : IsPart text head.names.line.now
  pub ends : head.rest.now ≡ drop (length text - length head.rest.now) text
  pub counted : head.line + length head.rest.now ≤ length text + 1
  pub read : reading text ≡ read_from head.line (begun (words_of head.names.line.now)) (lines_of head.rest.now)

-- or a line is faulty: the first one, by rule 14
abbrev pub HeadRead : List ℕ → Result Head FaultyLine → Type 0
HeadRead text (Ok head) = Begins text head
HeadRead text (Err fault) = reading text ≡ faulty 14 fault.line
