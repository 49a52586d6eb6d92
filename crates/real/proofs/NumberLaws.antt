-- Laws of what becomes of a line, and of what a text is refused by: 15 or 14, and nothing else.
use Prim.Native.Nat.{ℕ, suc}
use mathlib.Core.Path.{◌≡◌, refl, sym, ap, ◌∙◌}
use mathlib.Core.Bool.{Bool, true, false, not, ◌&&◌, ◌||◌}
use mathlib.Core.List.{List, [], ◌∷◌}
use lib.ListN.{length, get_or}
use lib.Dec.{eqb}
use Rattle.basics.specs.Choice.{choice}
use Rattle.basics.specs.Lists.{keep}
use Rattle.text.specs.Texts.{ascii, every, begins, same, among, distinct}
use Rattle.text.specs.Decimal.{decimal, is_number}
use Rattle.text_words.specs.Words.{words_of, lines_of}
use Rattle.real.specs.Form.{Word, Stage, Step, is_name, is_plain, is_constants, is_gate, is_other, gate_due, gate_of, optional_parts, next, step_with, step_of}
use Rattle.real.specs.Form.Stage.{start, versioned, counted, named, begun, done}
use Rattle.real.specs.Form.Step.{goes, adds, stops}
use Rattle.real.specs.Reading.{Reading, with_gate, at_end, onward, read_from, reading}
use Rattle.real.specs.Reading.Reading.{circuit, faulty}

by_choice {ℓ κ} : {A : Type ℓ} (P : A → Type κ) (b : Bool) {x y : A} → P x → P y → P (choice b x y)
by_choice P true p q = p
by_choice P false p q = q

module _ {κ} (P : Step → Type κ) (lead : (stage : Stage) → P (goes stage)) (add : (words : List ℕ) (stage : Stage) → P (adds words stage))
    (stop : P (stops 14)) where
  -- what holds where a line leads on, adds a gate and stops by 14 holds of every line that is not skipped and has no other gate token
  pub by_next : (stage : Stage) (word : Word) (more : List Word) → P (next stage word more)
  unfolding next
  by_next start word more = by_choice P (same word (ascii ".version")) (lead versioned) stop
  by_next versioned word more =
      by_choice P (same word (ascii ".numvars") && (eqb (length more) 1 && is_number (get_or more 0 []))) (lead (counted (get_or more 0 []))) stop
  by_next (counted number) word more =
      by_choice P
      (same word (ascii ".variables") && (every is_name more && (distinct more && same number (decimal (length more)))))
      (lead (named more optional_parts)) stop
  by_next (named names parts) word more =
      by_choice P (same word (ascii ".begin") && eqb (length more) 0) (lead (begun names))
      (by_choice P (among word parts && (not (same word (ascii ".constants")) || is_constants (length names) more))
      (lead (named names (keep (λ p. not (same p word)) parts))) stop)
  by_next (begun names) word more =
      by_choice P (same word (ascii ".end") && eqb (length more) 0) (lead (done names))
      (by_choice P (is_gate names word more) (add (gate_of names more) (begun names)) stop)
  by_next (done names) word more = stop

  -- and where it stops by 15 too, of every line
  module _ (other : P (stops 15)) where
    by_with : (stage : Stage) (line : List ℕ) (words : List Word) → P (step_with stage line words)
    unfolding step_with
    by_with stage line [] = lead stage
    by_with stage line (word ∷ more) =
        by_choice P (begins (eqb 35) word) (lead stage)
        (by_choice P (gate_due stage && is_other word) other
        (by_choice P (every is_plain line) (by_next stage word more) stop))

    pub by_step : (stage : Stage) (line : List ℕ) → P (step_of stage line)
    unfolding step_of
    by_step stage line = by_with stage line (words_of line)

abbrev pub fifteen_or_fourteen : ℕ → Bool
fifteen_or_fourteen k = eqb k 15 || eqb k 14

-- a step that stops does so by one of the two
abbrev right : Step → Bool
right (goes stage) = true
right (adds words stage) = true
right (stops k) = fifteen_or_fourteen k

right-step : (stage : Stage) (line : List ℕ) → right (step_of stage line) ≡ true
right-step = by_step (λ step. right step ≡ true) (λ stage. refl) (λ words stage. refl) refl refl

-- the same of a reading
abbrev rightly : Reading → Bool
rightly (circuit n words) = true
rightly (faulty k line) = fifteen_or_fourteen k

rightly_with : (words : List ℕ) (r : Reading) → rightly r ≡ true → rightly (with_gate words r) ≡ true
rightly_with words (circuit n more) e = e
rightly_with words (faulty k line) e = e

rightly_end : (at : ℕ) (stage : Stage) → rightly (at_end at stage) ≡ true
rightly_end at start = refl
rightly_end at versioned = refl
rightly_end at (counted number) = refl
rightly_end at (named names parts) = refl
rightly_end at (begun names) = refl
rightly_end at (done names) = refl

rightly_on : (at : ℕ) (step : Step) (rest : Stage → Reading) → right step ≡ true → ((s : Stage) → rightly (rest s) ≡ true)
    → rightly (onward at step rest) ≡ true
rightly_on at (goes stage) rest e f = f stage
rightly_on at (adds words stage) rest e f = rightly_with words (rest stage) (f stage)
rightly_on at (stops k) rest e f = e

rightly_from : (at : ℕ) (stage : Stage) (lines : List (List ℕ)) → rightly (read_from at stage lines) ≡ true
unfolding read_from
rightly_from at stage [] = rightly_end at stage
rightly_from at stage (line ∷ lines) =
    rightly_on at (step_of stage line) (λ next. read_from (suc at) next lines) (right-step stage line) (λ s. rightly_from (suc at) s lines)

-- A faulty text is refused by 15 or 14.
pub faulty_by : (text : List ℕ) (k line : ℕ) → reading text ≡ faulty k line → fifteen_or_fourteen k ≡ true
unfolding reading
faulty_by text k line e = sym (ap rightly e) ∙ rightly_from 1 start (lines_of text)
