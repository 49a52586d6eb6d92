-- A text is read as a circuit exactly if it is of the .real form and says that circuit, and it is refused, by 14 or 15, exactly if it says none:
-- the reading of the contracts, which goes from stage to stage, and the grammar of `RealForm` agree on every text.
use Prim.Native.Nat.{ℕ, suc}
use mathlib.Core.Path.{◌≡◌, refl, sym, ◌∙◌}
use mathlib.Core.Logic.{◌↔◌, ◌⊎◌}
use mathlib.Core.Logic.◌⊎◌.{inl, inr}
use mathlib.Core.Bool.{Bool, true, false, not, ◌&&◌}
use mathlib.Core.List.{List, [], ◌∷◌, map}
use lib.ListN.{length, get_or}
use lib.Dec.{eqb}
use Rattle.basics.specs.Choice.{choice}
use Rattle.basics.specs.Lists.{keep}
use Rattle.refusals.specs.Tables.{first_of}
use Rattle.refusals.specs.Answers.{fine}
use Rattle.circuit.specs.Rules.{circuit_rows}
use Rattle.text.specs.Texts.{ascii, every, begins, same, among, distinct}
use Rattle.text.specs.Decimal.{decimal, is_number}
use Rattle.text_words.specs.Words.{lines_of, words_of}
use Rattle.real.specs.Form.{Stage, Step, is_name, is_plain, is_gate, is_other, optional_parts, gate_of, gate_due, next, step_with, step_of}
use Rattle.real.specs.Form.Stage.{start, versioned, counted, named, begun, done}
use Rattle.real.specs.Form.Step.{goes, adds, stops}
use Rattle.real.specs.Reading.{Reading, with_gate, at_end, onward, read_from, reading}
use Rattle.real.specs.Reading.Reading.{circuit, faulty}
use Rattle.real.specs.Export.{real_text}
use Rattle.real.proofs.RoundTrip.{round_trip}
use Rattle.demands.proofs.RealForm.{Word, OfForm}
use Rattle.demands.proofs.RealParts.{part_ok}
use Rattle.demands.proofs.RealLines.{clash, same-circuit, lines_counted, counted_lines}
use Rattle.demands.proofs.RealStages.{some_words, said, say_read}

-- ---- refusals have number 14 or 15

abbrev Number : ℕ → Type 0
Number k = (k ≡ 14) ⊎ (k ≡ 15)

abbrev Numbered : Step → Type 0
Numbered (goes t) = Unit {0}
Numbered (adds words t) = Unit {0}
Numbered (stops k) = Number k

abbrev Told : Reading → Type 0
Told (circuit n words) = Unit {0}
Told (faulty k p) = Number k

of_two : (b : Bool) (x y : Step) → Numbered x → Numbered y → Numbered (choice b x y)
of_two true x y v w = v
of_two false x y v w = w

next_numbered : (s : Stage) (w : Word) (more : List Word) → Numbered (next s w more)
unfolding next
next_numbered start w more = of_two (same w (ascii ".version")) (goes versioned) (stops 14) tt (inl refl)
next_numbered versioned w more =
    of_two (same w (ascii ".numvars") && (eqb (length more) 1 && is_number (get_or more 0 [])))
    (goes (counted (get_or more 0 []))) (stops 14) tt (inl refl)
next_numbered (counted number) w more =
    of_two (same w (ascii ".variables") && (every is_name more && (distinct more && same number (decimal (length more)))))
    (goes (named more optional_parts)) (stops 14) tt (inl refl)
next_numbered (named names parts) w more =
    of_two (same w (ascii ".begin") && eqb (length more) 0) (goes (begun names)) _ tt
    (of_two (among w parts && part_ok (length names) w more) (goes (named names (keep (λ p. not (same p w)) parts))) (stops 14) tt (inl refl))
next_numbered (begun names) w more =
    of_two (same w (ascii ".end") && eqb (length more) 0) (goes (done names)) _ tt
    (of_two (is_gate names w more) (adds (gate_of names more) (begun names)) (stops 14) tt (inl refl))
next_numbered (done names) w more = inl refl

step_numbered : (s : Stage) (l : List ℕ) (ws : List Word) → Numbered (step_with s l ws)
unfolding step_with
step_numbered s l [] = tt
step_numbered s l (w ∷ more) =
    of_two (begins (eqb 35) w) (goes s) _ tt
    (of_two (gate_due s && is_other w) (stops 15) _ (inr refl)
    (of_two (every is_plain l) (next s w more) (stops 14) (next_numbered s w more) (inl refl)))

gate_told : (g : List ℕ) (r : Reading) → Told r → Told (with_gate g r)
gate_told g (circuit n words) t = tt
gate_told g (faulty k p) t = t

onward_told : (at : ℕ) (step : Step) (f : Stage → Reading) → Numbered step → ((t : Stage) → Told (f t)) → Told (onward at step f)
onward_told at (goes t) f n h = h t
onward_told at (adds words t) f n h = gate_told words (f t) (h t)
onward_told at (stops k) f n h = n

end_told : (at : ℕ) (s : Stage) → Told (at_end at s)
end_told at start = inl refl
end_told at versioned = inl refl
end_told at (counted number) = inl refl
end_told at (named names parts) = inl refl
end_told at (begun names) = inl refl
end_told at (done names) = tt

lines_told : (at : ℕ) (s : Stage) (ls : List (List ℕ)) → Told (read_from at s ls)
unfolding read_from step_of
lines_told at s [] = end_told at s
lines_told at s (l ∷ ls) =
    onward_told at (step_with s l (words_of l)) (λ t. read_from (suc at) t ls) (step_numbered s l (words_of l)) (λ t. lines_told (suc at) t ls)

-- ---- the theorems

-- A text is read as a circuit exactly if it is of the form and says that circuit.
pub form_read : (text : List ℕ) (n : ℕ) (words : List ℕ) → (reading text ≡ circuit n words) ↔ OfForm text n words
unfolding reading
form_read text n words = (
  λ e.
      let c = lines_counted 1 start (lines_of text) n words e in
      record { lines = c.0; lines_are = c.1; plain = c.2; say = said (map words_of c.0) n words (some_words c.0) c.3 },
  λ f. counted_lines 1 start (lines_of text) f.lines f.lines_are f.plain n words (say_read (map words_of f.lines) n words f.say),
)

-- So it says at most one.
pub form_one : (text : List ℕ) (n m : ℕ) (words others : List ℕ) → OfForm text n words → OfForm text m others → (n ≡ m) × (words ≡ others)
form_one text n m words others f g = same-circuit (sym ((form_read text n words).1 f) ∙ (form_read text m others).1 g)

-- It is refused, by 14 or 15, exactly if it says none.
pub no_form : (text : List ℕ)
    → ((k : ℕ) × (line : ℕ) × ((k ≡ 14) ⊎ (k ≡ 15)) × (reading text ≡ faulty k line)) ↔ ((n : ℕ) (words : List ℕ) → OfForm text n words → ⊥)
unfolding reading
no_form text = (
  λ w n words f. clash (sym w.3 ∙ (form_read text n words).1 f),
  λ never. by_reading (reading text) refl (lines_told 1 start (lines_of text)) never,
)
  where
    by_reading : (r : Reading) → reading text ≡ r → Told r → ((n : ℕ) (words : List ℕ) → OfForm text n words → ⊥)
        → (k : ℕ) × (line : ℕ) × Number k × (reading text ≡ faulty k line)
    by_reading (circuit n words) e t never = absurd (never n words ((form_read text n words).0 e))
    by_reading (faulty k line) e t never = (k, line, t, e)

-- The text that a circuit is written as is of the form, and says that circuit.
pub export_of_form : (n : ℕ) (words : List ℕ) → fine ≡ first_of (circuit_rows n words) fine → OfForm (real_text n words) n words
export_of_form n words e = (form_read (real_text n words) n words).0 (round_trip n words e)
