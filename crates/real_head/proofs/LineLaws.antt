-- Laws of the lines up to .begin.
use Rattle.std.proofs.Common.{ℕ, ◌+◌, ◌-◌, ◌≡◌, refl, sym, ap, ◌∙◌, Bool, true, false, List, [], ◌∷◌, length, drop, eqb, add-one}
use Rattle.std.specs.Bool.{then_some}
use Rattle.std.specs.List.{starts_with}
use mathlib.Core.Bool.{and-true}
use Rattle.text.specs.Texts.{begins}
use Rattle.text_words.specs.Words.{lines_of}
use Rattle.text_words.specs.Runs.{IsFirstLine, IsPart}
use Rattle.text_words.proofs.PartLaws.{part_in, end_part, line_part}
use Rattle.real.specs.Form.{Stage, gate_due, step_of}
use Rattle.real.specs.Form.Step.{goes, stops}
use Rattle.real.specs.Reading.{Reading, read_from}
use Rattle.real.specs.Reading.Reading.{faulty}
use Rattle.real.proofs.ReadLaws.{read_goes, read-stops}
use Rattle.real_head.specs.declared.Due.{Due}
use Rattle.real_head.specs.declared.Due.TheVariants as due
use Rattle.real_head.specs.declared.Turn.TheVariants as turn
use Rattle.real_head.specs.Stages.{stage_of, InTurn}

-- no gate is due before .begin
pub head_due : (d : Due) → gate_due (stage_of d) ≡ false
head_due due.Version = refl
head_due due.Numvars = refl
head_due (due.Variables number) = refl
head_due (due.Part names parts) = refl

-- a text of one byte in front, as `starts_with` tells
pub first_byte : (b : ℕ) (t : List ℕ) → starts_with eqb t (b ∷ []) ≡ begins (eqb b) t
unfolding begins
first_byte b [] = refl
first_byte b (c ∷ t) = and-true (eqb b c)

-- ---- line by line

module _ (read : Reading) (line : ℕ) (d : Due) {left here rest : List ℕ} (l : IsFirstLine left here rest)
    (so_far : read ≡ read_from line (stage_of d) (lines_of left)) where
  this_line : read ≡ read_from line (stage_of d) (here ∷ lines_of rest)
  this_line = so_far ∙ ap (read_from line (stage_of d)) l.split

  pub head_goes : (s : Stage) → goes s ≡ step_of (stage_of d) here → read ≡ read_from (line + 1) s (lines_of rest)
  head_goes s e = rw (add-one line) (this_line ∙ read_goes line (stage_of d) here (lines_of rest) s (sym e))

  pub head_stops : (k : ℕ) → stops k ≡ step_of (stage_of d) here → read ≡ faulty k line
  head_stops k e = this_line ∙ read-stops line (stage_of d) here (lines_of rest) k (sym e)

-- a line of what is left stands in the text
pub line_in : (text : List ℕ) {left here rest : List ℕ} → left ≡ drop (length text - length left) text → IsFirstLine left here rest
    → IsPart text here
line_in text e l = part_in (end_part _ e) (line_part l)

-- .version, or another word
pub version_within : (test : Bool) (text : List ℕ) → InTurn text (then_some test (turn.Goes due.Numvars))
version_within true text = tt
version_within false text = tt

-- after the last line .begin is missing
pub head_ends : (line : ℕ) (d : Due) → read_from line (stage_of d) [] ≡ faulty 14 line
unfolding read_from
head_ends line due.Version = refl
head_ends line due.Numvars = refl
head_ends line (due.Variables number) = refl
head_ends line (due.Part names parts) = refl
