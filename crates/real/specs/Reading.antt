-- What a text is read as: a circuit, or its first faulty line.
use Rattle.std.specs.Prelude.{ℕ, suc, List, [], ◌∷◌, ◌++◌, length}
use Rattle.text_words.specs.Words.{lines_of}
use Rattle.real.specs.Form.{Stage, Step, step_of}
use Rattle.real.specs.Form.Stage.{start, versioned, counted, named, begun, done}
use Rattle.real.specs.Form.Step.{goes, adds, stops}

-- the number of lines and the words of the gates; or a refusal's number and the faulty line
pub data Reading : Type 0 where
  circuit : ℕ → List ℕ → Reading
  faulty : ℕ → ℕ → Reading

-- the words of a gate in front of the others
abbrev pub with_gate : List ℕ → Reading → Reading
with_gate words (circuit n more) = circuit n (words ++ more)
with_gate words (faulty number line) = faulty number line

-- after the last line; `at` is the number of the next
abbrev pub at_end : ℕ → Stage → Reading
at_end at start = faulty 14 at
at_end at versioned = faulty 14 at
at_end at (counted number) = faulty 14 at
at_end at (named names parts) = faulty 14 at
at_end at (begun names) = faulty 14 at
at_end at (done names) = circuit (length names) []

abbrev pub onward : ℕ → Step → (Stage → Reading) → Reading
onward at (goes stage) rest = rest stage
onward at (adds words stage) rest = with_gate words (rest stage)
onward at (stops number) rest = faulty number at

-- the lines from number `at` on
unfoldable pub read_from : ℕ → Stage → List (List ℕ) → Reading
read_from at stage [] = at_end at stage
read_from at stage (line ∷ lines) = onward at (step_of stage line) (λ next. read_from (suc at) next lines)

unfoldable pub reading : List ℕ → Reading
reading text = read_from 1 start (lines_of text)
