-- A circuit that is written is read again as it was: the reading of an export is the circuit.
use Prim.Native.Nat.{ℕ, suc, ◌*◌, ◌^◌, ◌<◌, ◌≤◌}
use mathlib.Core.Path.{◌≡◌, refl, sym, ap, ap₂, ◌∙◌}
use mathlib.Core.Bool.{true, false, not, ◌&&◌}
use mathlib.Core.List.{List, [], ◌∷◌, ◌++◌, map}
use native.Mathlib.Omega.{arith}
use lib.ListN.{length, length-map}
use lib.Dec.{eqb}
use borrow.Author.Tests.{le-leb, eqb-true, not-false}
use Rattle.basics.specs.Lists.{up_from, keep, each, All}
use Rattle.basics.proofs.Tests.{and-true, choice-true, choice-false}
use Rattle.basics.proofs.Rising.{rising_up, rising_keep}
use Rattle.basics.proofs.Lists.{all-up_from, length-up_from}
use Rattle.basics.proofs.All.{all_map, all_append}
use Rattle.refusals.specs.Tables.{first_of}
use Rattle.refusals.specs.Answers.{fine}
use Rattle.refusals.proofs.Tables.{fine_row}
use Rattle.refusals.proofs.Places.{none_bad}
use Rattle.words.specs.Word.{bit, lines_on}
use Rattle.words.proofs.LineLists.{all_lines}
use Rattle.circuit.specs.Gates.{gates_of}
use Rattle.circuit.specs.Rules.{bad_lines, bad_counts, bad_gate, first_bad_gate, circuit_set_rows, circuit_rows}
use Rattle.circuit.specs.Sound.{GateOk}
use Rattle.circuit.specs.declared.Gate.{Gate}
use Rattle.circuit.proofs.RuleLaws.{sound}
use Rattle.circuit.proofs.WordLaws.{good_spare}
use Rattle.text.specs.Texts.{ascii, every, begins, same, distinct, place}
use Rattle.text_words.specs.Words.{lines_of}
use Rattle.text.specs.Decimal.{decimal}
use Rattle.text.proofs.SameLaws.{same_refl}
use Rattle.text.proofs.DecimalLaws.{number_of, decimal-some}
use Rattle.real.specs.Form.{Word, Stage, Step, is_gate, is_other, is_letter, gate_due, optional_parts, mask_of, gate_of, next, step_with, step_of}
use Rattle.real.specs.Form.Stage.{start, versioned, counted, named, begun, done}
use Rattle.real.specs.Form.Step.{goes, adds}
use Rattle.real.specs.Reading.{with_gate, onward, read_from, reading}
use Rattle.real.specs.Reading.Reading.{circuit}
use Rattle.real.specs.Export.{name_of, gate_line, head_lines, joined, real_text}
use Rattle.real.proofs.JoinLaws.{visible, Visible, joined_words, joined_plain, joined_lines}
use Rattle.real.proofs.NameLaws.{visible_decimal, all_visible, all-names, all_declared, distinct_rising, place_of}
use Rattle.real.proofs.MaskLaws.{mask_of_lem, length_snoc, controls_of_lem, target_of_lem}

-- a line of visible words is read by its words
step-joined : (stage : Stage) (w : Word) (ws : List Word) → All Visible (w ∷ ws) → begins (eqb 35) w ≡ false → (gate_due stage && is_other w) ≡ false
    → step_of stage (joined (w ∷ ws)) ≡ next stage w ws
unfolding step_of step_with
step-joined stage w ws v h o =
    ap (step_with stage (joined (w ∷ ws))) (joined_words w ws v) ∙ choice-false h _ _ ∙ choice-false o _ _ ∙ choice-true (joined_plain (w ∷ ws) v) _ _

module _ (at : ℕ) (stage : Stage) (w : Word) (ws : List Word) (v : All Visible (w ∷ ws)) (h : begins (eqb 35) w ≡ false)
    (o : (gate_due stage && is_other w) ≡ false) (step : Step) (e : next stage w ws ≡ step) (rest : List (List ℕ)) where
  read-line : read_from at stage (joined (w ∷ ws) ∷ rest) ≡ onward at step (λ s. read_from (suc at) s rest)
  unfolding read_from
  read-line = ap (λ s. onward at s (λ t. read_from (suc at) t rest)) (step-joined stage w ws v h o ∙ e)

-- ---- the head

abbrev names : ℕ → List Word
names n = map name_of (up_from 0 n)

length-names : (n : ℕ) → length (names n) ≡ n
length-names n = length-map (up_from 0 n) name_of ∙ length-up_from 0 n

v_version : Visible (ascii ".version")
unfolding ascii every visible
v_version = record { some = omega arith; all = refl }

v_one : Visible (ascii "1.0")
unfolding ascii every visible
v_one = record { some = omega arith; all = refl }

v_numvars : Visible (ascii ".numvars")
unfolding ascii every visible
v_numvars = record { some = omega arith; all = refl }

v_variables : Visible (ascii ".variables")
unfolding ascii every visible
v_variables = record { some = omega arith; all = refl }

v_begin : Visible (ascii ".begin")
unfolding ascii every visible
v_begin = record { some = omega arith; all = refl }

v_end : Visible (ascii ".end")
unfolding ascii every visible
v_end = record { some = omega arith; all = refl }

v_decimal : (x : ℕ) → Visible (decimal x)
v_decimal x = record { some = decimal-some x; all = visible_decimal x }

next_version : next start (ascii ".version") (ascii "1.0" ∷ []) ≡ goes versioned
unfolding next
next_version = choice-true (same_refl (ascii ".version")) _ _

next_numvars : (n : ℕ) → next versioned (ascii ".numvars") (decimal n ∷ []) ≡ goes (counted (decimal n))
unfolding next
next_numvars n = choice-true (and-true (same_refl (ascii ".numvars")) (number_of n)) _ _

next_variables : (n : ℕ) → n ≤ 32 → next (counted (decimal n)) (ascii ".variables") (names n) ≡ goes (named (names n) optional_parts)
unfolding next
next_variables n h = choice-true
    (and-true (same_refl (ascii ".variables"))
    (and-true (all-names (up_from 0 n) (all-up_from (λ j. j < 100) 0 n (λ i a b. omega arith)))
    (and-true (distinct_rising (up_from 0 n) (rising_up 0 n)) (ap (λ k. same (decimal n) (decimal k)) (length-names n) ∙ same_refl (decimal n)))))
    _ _

next_begin : (n : ℕ) → next (named (names n) optional_parts) (ascii ".begin") [] ≡ goes (begun (names n))
unfolding next
next_begin n = choice-true (and-true (same_refl (ascii ".begin")) refl) _ _

head_read : (n : ℕ) (rest : List (List ℕ)) → n ≤ 32 → read_from 1 start (map joined (head_lines n) ++ rest) ≡ read_from 5 (begun (names n)) rest
unfolding head_lines begins ascii
head_read n rest h =
    read-line 1 start (ascii ".version") (ascii "1.0" ∷ []) (v_version, (v_one, tt)) refl refl (goes versioned) next_version _
    ∙ read-line 2 versioned (ascii ".numvars") (decimal n ∷ []) (v_numvars, (v_decimal n, tt)) refl refl (goes (counted (decimal n)))
    (next_numvars n) _
    ∙ read-line 3 (counted (decimal n)) (ascii ".variables") (names n) (v_variables, all_visible (up_from 0 n)) refl refl
    (goes (named (names n) optional_parts)) (next_variables n h) _
    ∙ read-line 4 (named (names n) optional_parts) (ascii ".begin") [] (v_begin, tt) refl refl (goes (begun (names n))) (next_begin n) rest

-- ---- the gates

-- a gate on n lines, by its words
abbrev flat : Gate → List ℕ
flat g = g.controls ∷ 0 ∷ g.target ∷ []

abbrev token : ℕ → Gate → Word
token n g = ascii "t" ++ decimal (suc (length (lines_on n g.controls)))

module _ (n : ℕ) (g : Gate) (in_lines : g.controls < 2 ^ n) (on_line : g.target < n) where
  lines_in_lem : All (λ j. j < n) (lines_on n g.controls)
  lines_in_lem = all_lines (λ j. j < n) n g.controls (λ j h o. h)

  rising : distinct (map name_of (lines_on n g.controls)) ≡ true
  unfolding lines_on
  rising = distinct_rising (keep (λ j. eqb (bit g.controls j) 1) (up_from 0 n))
      (rising_keep (λ j. eqb (bit g.controls j) 1) (up_from 0 n) (rising_up 0 n))

  is_gate_lem : is_gate (names n) (token n g) (map name_of (lines_on n g.controls ++ (g.target ∷ []))) ≡ true
  unfolding is_gate
  is_gate_lem =
      let l = length_snoc (lines_on n g.controls) g.target in
      and-true
      (and-true (le-leb 1 (length (map name_of (lines_on n g.controls ++ (g.target ∷ [])))) (omega arith))
      (ap (λ k. same (token n g) (ascii "t" ++ decimal k)) l ∙ same_refl (token n g)))
      (and-true
      (all_declared n (lines_on n g.controls ++ (g.target ∷ []))
      (all_append (λ j. j < n) (lines_on n g.controls) (g.target ∷ []) lines_in_lem (on_line, tt)))
      (ap distinct (controls_of_lem (lines_on n g.controls) g.target) ∙ rising))

  gate_of_lem : gate_of (names n) (map name_of (lines_on n g.controls ++ (g.target ∷ []))) ≡ flat g
  unfolding gate_of
  gate_of_lem = ap₂ (λ c t. c ∷ 0 ∷ t ∷ [])
      (ap (mask_of (names n)) (controls_of_lem (lines_on n g.controls) g.target) ∙ mask_of_lem n g.controls in_lines lines_in_lem)
      (ap (place (names n)) (target_of_lem (lines_on n g.controls) g.target) ∙ place_of n g.target on_line)

  next-gate : next (begun (names n)) (token n g) (map name_of (lines_on n g.controls ++ (g.target ∷ []))) ≡ adds (flat g) (begun (names n))
  unfolding next ascii same
  next-gate = choice-true is_gate_lem _ _ ∙ ap (λ ws. adds ws (begun (names n))) gate_of_lem

v_token : (n : ℕ) (g : Gate) → Visible (token n g)
unfolding ascii every visible
v_token n g = record { some = omega arith; all = visible_decimal (suc (length (lines_on n g.controls))) }

visible_gate : (n : ℕ) (g : Gate) → All Visible (gate_line n g)
unfolding gate_line
visible_gate n g = (v_token n g, all_visible (lines_on n g.controls ++ (g.target ∷ [])))

abbrev OnLines : ℕ → Gate → Type 0
OnLines n g = (g.controls < 2 ^ n) × (g.target < n)

gates_read : (n at : ℕ) (gs : List Gate) → All (OnLines n) gs
    → read_from at (begun (names n)) (map joined (map (gate_line n) gs ++ ((ascii ".end" ∷ []) ∷ []))) ≡ circuit n (each flat gs)
unfolding gate_line each begins ascii is_other is_letter read_from next same
gates_read n at [] h =
    read-line at (begun (names n)) (ascii ".end") [] (v_end, tt) refl refl (goes (done (names n))) refl []
    ∙ ap (λ k. circuit k []) (length-names n)
gates_read n at (g ∷ gs) h =
    read-line at (begun (names n)) (token n g) (map name_of (lines_on n g.controls ++ (g.target ∷ []))) (visible_gate n g) refl refl
    (adds (flat g) (begun (names n))) (next-gate n g h.0.0 h.0.1) (map joined (map (gate_line n) gs ++ ((ascii ".end" ∷ []) ∷ [])))
    ∙ ap (with_gate (flat g)) (gates_read n (suc at) gs h.1)

-- ---- the whole text

abbrev every_line : ℕ → List ℕ → List (List Word)
every_line n words = head_lines n ++ (map (gate_line n) (gates_of words) ++ ((ascii ".end" ∷ []) ∷ []))

visible_gates : (n : ℕ) (gs : List Gate) → All (All Visible) (map (gate_line n) gs ++ ((ascii ".end" ∷ []) ∷ []))
visible_gates n [] = ((v_end, tt), tt)
visible_gates n (g ∷ gs) = (visible_gate n g, visible_gates n gs)

visible_lines : (n : ℕ) (words : List ℕ) → All (All Visible) (every_line n words)
unfolding head_lines
visible_lines n words = (
  (v_version, (v_one, tt)),
  (
    (v_numvars, (v_decimal n, tt)),
    (
      (v_variables, all_visible (up_from 0 n)),
      ((v_begin, tt), visible_gates n (gates_of words)),
    ),
  ),
)

-- the text's lines are the lines of its words
pub text_lines : (n : ℕ) (words : List ℕ) → lines_of (real_text n words) ≡ map joined (every_line n words)
unfolding real_text
text_lines n words = joined_lines (every_line n words) (visible_lines n words)

pub text_read : (n : ℕ) (words : List ℕ) → n ≤ 32 → All (OnLines n) (gates_of words)
    → reading (real_text n words) ≡ circuit n (each flat (gates_of words))
unfolding reading head_lines
text_read n words h ok =
    ap (read_from 1 start) (text_lines n words)
    ∙ head_read n (map joined (map (gate_line n) (gates_of words) ++ ((ascii ".end" ∷ []) ∷ []))) h
    ∙ gates_read n 5 (gates_of words) ok

-- words of whole gates with nothing in their spare words
flat_words : (words : List ℕ) → length words ≡ 3 * length (gates_of words) → All (λ g. g.spare ≡ 0) (gates_of words)
    → each flat (gates_of words) ≡ words
unfolding each gates_of
flat_words [] w h = refl
flat_words (c ∷ []) w h = absurd (omega arith)
flat_words (c ∷ s ∷ []) w h = absurd (omega arith)
flat_words (c ∷ s ∷ t ∷ rest) w h = ap₂ (λ x more. c ∷ x ∷ t ∷ more) (sym h.0) (flat_words rest (omega arith) h.1)

spares_none : (n : ℕ) (words : List ℕ) → fine ≡ first_of (circuit_rows n words) fine → All (λ g. g.spare ≡ 0) (gates_of words)
unfolding circuit_rows circuit_set_rows first_bad_gate
spares_none n words e0 =
    let e1 = fine_row (bad_lines n) 3 0 _ e0 in
    let e2 = fine_row (bad_counts (length (gates_of words)) 0) 5 0 _ e1.1 in
    let e3 = fine_row (not (eqb (first_bad_gate n words) 0)) 7 (first_bad_gate n words) _ e2.1 in
    all_map (good_spare n) (gates_of words)
    (none_bad (bad_gate n) _ (gates_of words) 0 (eqb-true (first_bad_gate n words) 0 (not-false (eqb (first_bad_gate n words) 0) e3.0)))

-- the reading of the export of a circuit that breaks no rule is that circuit
pub round_trip : (n : ℕ) (words : List ℕ) → fine ≡ first_of (circuit_rows n words) fine → reading (real_text n words) ≡ circuit n words
round_trip n words e =
    let s = sound n words e in
    text_read n words s.lines_fit (all_map (λ g (ok : GateOk n g). (ok.controls_in, ok.target_in)) (gates_of words) s.gates_ok)
    ∙ ap (circuit n) (flat_words words s.whole (spares_none n words e))
