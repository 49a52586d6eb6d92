-- What the code's stages after .begin mean, and what is held of the gates.
use Rattle.std.specs.Prelude.{ℕ, ◌+◌, ◌*◌, ◌/◌, ◌≤◌, ◌≡◌, false, Result, Ok, Err, List, [], ◌∷◌, ◌++◌, length, take, eqb, ltb}
use Rattle.std.proofs.lemmas.List.Edits.{sets}
use Rattle.basics.specs.Choice.{choice}
use Rattle.circuit.specs.Limits.{most_lines}
use Rattle.refusals.specs.Answers.{number_of, place_of}
use Rattle.refusals.specs.Places.{in_word}
use Rattle.refusals.specs.declared.Refusal.{Refusal}
use Rattle.text.specs.Texts.{begins}
use Rattle.text_words.specs.Words.{words_of}
use Rattle.real.specs.Form.{Word, Stage, step_of}
use Rattle.real.specs.Form.Stage.{begun, done}
use Rattle.real.specs.Form.Step.{stops}
use Rattle.real.specs.Reading.{Reading, with_gate, onward}
use Rattle.real.specs.Reading.Reading.{circuit, faulty}
use Rattle.real_import.specs.declared.lines.Due.{Due}
use Rattle.real_import.specs.declared.lines.Due.TheVariants as due
use Rattle.real_import.specs.declared.lines.Form.{Form}

abbrev pub stage_of : List Word → Due → Stage
stage_of names (due.Gate gates) = begun names
stage_of names (due.Nothing gates) = done names

abbrev pub gates_so_far : Due → ℕ
gates_so_far (due.Gate gates) = gates
gates_so_far (due.Nothing gates) = gates

-- a line is not skipped: its first word, which does not begin with # (35), and what follows it
pub record Counts (line word rest : List ℕ) : Type 0 where
  pub split : words_of line ≡ word ∷ words_of rest
  pub first : begins (eqb 35) word ≡ false

-- a gate is held after so many others, if there is room for it
unfoldable pub held_after : List ℕ → ℕ → ℕ → ℕ → List ℕ
held_after own gates controls target = choice (ltb gates (length own / 3)) (sets own (3 * gates) (controls ∷ 0 ∷ target ∷ [])) own

-- the words of so many gates are held, if there is room for them and the circuit has no more lines than it may have
pub record Held (n : ℕ) (own : List ℕ) (gates : ℕ) (words : List ℕ) : Type 0 where
  pub whole : length words ≡ 3 * gates
  pub first : n ≤ most_lines → 3 * gates ≤ length own → take (3 * gates) own ≡ words

-- a line leads on: the words of the gate that it adds, or none, are held after those before
pub record Leads (names : List Word) (d : Due) (line own : List ℕ) (then : Due) (last : List ℕ) : Type 0 where
  pub words : List ℕ
  pub step : (at : ℕ) (rest : Stage → Reading) → onward at (step_of (stage_of names d) line) rest ≡ with_gate words (rest (stage_of names then))
  pub count : gates_so_far then ≤ gates_so_far d + 1
  pub holds : (before : List ℕ) → Held (length names) own (gates_so_far d) before → Held (length names) last (gates_so_far then) (before ++ words)

-- or it is refused by its number, and told
abbrev pub Turned : List Word → Due → List ℕ → ℕ → List ℕ → Result Due Refusal → List ℕ → Type 0
Turned names d line at own (Ok then) last = Leads names d line own then last
Turned names d line at own (Err r) last = (step_of (stage_of names d) line ≡ stops (number_of r)) × (place_of r ≡ in_word at)

-- a text, or what is left of it, is read as a circuit, whose gates are held
pub record Formed (read : Reading) (form : Form) (own : List ℕ) : Type 0 where
  pub words : List ℕ
  pub is : read ≡ circuit form.lines words
  pub held : Held form.lines own form.gates words

-- a refusal tells the number and the place of the first faulty line
pub record Tells (read : Reading) (r : Refusal) : Type 0 where
  pub line : ℕ
  pub faulty_there : read ≡ faulty (number_of r) line
  pub place : place_of r ≡ in_word line

-- or a line is faulty
abbrev pub FormRead : Reading → Result Form Refusal → List ℕ → Type 0
FormRead read (Ok form) own = Formed read form own
FormRead read (Err r) own = Tells read r
