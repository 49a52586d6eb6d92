-- The first unmarked fault, as loops find it: at each level or gate the lowest line that a word lacks.
use Rattle.std.specs.Prelude.{ℕ, suc, ◌+◌, ◌-◌, ◌^◌, ◌≤◌, ◌<◌, ◌≡◌, ◌≢◌, refl, Bool, true, false, not, ◌&&◌, ◌||◌}
use Rattle.std.specs.Prelude.{List, [], ◌∷◌, ◌++◌, length, get_or, drop, eqb, bit_or}
use Rattle.std.proofs.Common.{sym, ap, ◌∙◌, arith, eqb-true, eq-eqb}
use Rattle.std.proofs.lemmas.Bool.{eqb-false}
use Rattle.basics.specs.Choice.{choice}
use Rattle.basics.specs.Lists.{up_from, keep, each}
use Rattle.basics.proofs.Tests.{by_test, and_both, or_neither}
use Rattle.basics.proofs.Lists.{keep-cong}
use Rattle.basics.proofs.ListMore.{keep_append}
use Rattle.words.specs.Word.{bit, lines_on}
use Rattle.words.specs.WordOf.{lacking}
use Rattle.words.proofs.Bits.{bit_le}
use Rattle.words.proofs.AndLaws.{lacking-lt, lacking-or-lt, lines_zero, lowest_first, lowest_on, on_lacking, on_lacking_or, lines_lacking}
use Rattle.words.proofs.AndLaws.{lines_lacking_or}
use Rattle.circuit.specs.Limits.{most_lines}
use Rattle.circuit.specs.declared.Gate.{Gate}
use Rattle.faults.specs.Sites.{sites}
use Rattle.faults.specs.declared.Fault.{Fault}
use Rattle.faults.proofs.SiteLaws.{sites-lt}
use Rattle.faults.specs.Classes.{fault_of, stuck_faults, class_faults}
use Rattle.faults.specs.Kinds.{gate_class_number}
use Rattle.faults.specs.declared.classes.GateClass.{GateClass}
use Rattle.marking.specs.Marks.{level_marked, gate_marked}
use Rattle.marking.specs.Firsts.{first_told}
use Rattle.marking.specs.Tallies.{gate_lines}
use Rattle.marking.proofs.Counting.{passed_to, found_to}
use Rattle.marking.proofs.TallyLaws.{gate_place, class_places, gate_mark}
use Rattle.marking.proofs.FaultLines.{gate_lines-lt}

-- ---- what is kept of one fault made of each line, and of two

module _ (q : Fault → Bool) where
  choice-one : (f : ℕ → Fault) (b : Bool) (a : ℕ) (ys : List ℕ)
      → choice b (f a ∷ []) [] ++ each (λ j. f j ∷ []) ys ≡ each (λ j. f j ∷ []) (choice b (a ∷ ys) ys)
  unfolding each
  choice-one f true a ys = refl
  choice-one f false a ys = refl

  keep_ones : (f : ℕ → Fault) (ys : List ℕ) → keep q (each (λ j. f j ∷ []) ys) ≡ each (λ j. f j ∷ []) (keep (λ j. q (f j)) ys)
  unfolding keep each
  keep_ones f [] = refl
  keep_ones f (a ∷ ys) =
      keep_append q (f a ∷ []) (each (λ j. f j ∷ []) ys)
      ∙ ap (λ l. choice (q (f a)) (f a ∷ []) [] ++ l) (keep_ones f ys)
      ∙ choice-one f (q (f a)) a (keep (λ j. q (f j)) ys)

  -- the pairs of which one passes
  module _ (f g : ℕ → Fault) where
    pair : ℕ → List Fault
    pair j = keep q (f j ∷ g j ∷ [])

    pair_none : (a : ℕ) → q (f a) || q (g a) ≡ false → pair a ≡ []
    unfolding pair keep
    pair_none a e = let w = or_neither (q (f a)) (q (g a)) e in rw (w.0, w.1)

    keep_twos : (ys : List ℕ) → keep q (each (λ j. f j ∷ g j ∷ []) ys) ≡ each pair (keep (λ j. q (f j) || q (g j)) ys)
    unfolding pair keep each
    keep_twos [] = refl
    keep_twos (a ∷ ys) =
        keep_append q (f a ∷ g a ∷ []) (each (λ j. f j ∷ g j ∷ []) ys)
        ∙ ap (λ l. pair a ++ l) (keep_twos ys)
        ∙ by_test (q (f a) || q (g a))
        (λ t. rw t)
        (λ t. rw (t, pair_none a t))

    -- of a pair of which one passes, the first that does
    pair_first : (a : ℕ) → q (f a) || q (g a) ≡ true → pair a ≡ choice (q (f a)) (f a) (g a) ∷ choice (q (f a)) (choice (q (g a)) (g a ∷ []) []) []
    unfolding pair keep
    pair_first a e = by_test (q (f a))
        (λ t. rw t)
        (λ t. let s : q (g a) ≡ true = rw t at e in rw (t, s))

-- ---- a gate: the lines that its word of marks lacks

abbrev pub gate_left : List ℕ → Fault → Bool
gate_left ws f = not (gate_marked ws f)

-- the lines of the gate after i others that its word lacks
abbrev pub gate_lacks : ℕ → List Gate → ℕ → List ℕ → ℕ → ℕ
gate_lacks n gs class ws i = lacking (gate_lines n gs class (i + 1)) (get_or ws i 0)

-- from the first gate on it is the whole class
pub gates_start : (n : ℕ) (gs : List Gate) (class : GateClass) (ws : List ℕ) → 1 ≤ n
    → keep (gate_left ws) (class_faults n gs (gate_class_number class))
    ≡ keep (gate_left ws) (each (gate_place n gs (gate_class_number class)) (up_from (0 + 1) (length gs + 1 - (0 + 1))))
gates_start n gs class ws some =
    let k : length gs ≡ length gs + 1 - (0 + 1) = omega arith in
    ap (keep (gate_left ws)) (class_places n gs class some ∙ ap (λ m. each (gate_place n gs (gate_class_number class)) (up_from 1 m)) k)

module _ (n : ℕ) (gs : List Gate) (class : ℕ) (ws : List ℕ) (i e : ℕ) (h : i < e) where
  -- one fault at each such line
  gate-left : keep (gate_left ws) (gate_place n gs class (i + 1))
      ≡ each (λ j. fault_of class (i + 1) j 0 ∷ []) (lines_on n (gate_lacks n gs class ws i))
  gate-left =
      let mask : ℕ = gate_lines n gs class (i + 1) in
      keep_ones (gate_left ws) (λ j. fault_of class (i + 1) j 0) (lines_on n mask)
      ∙ ap (each (λ j. fault_of class (i + 1) j 0 ∷ []))
      (keep-cong (λ j. ap not (gate_mark ws class i j)) (lines_on n mask) ∙ sym (lines_lacking n mask (get_or ws i 0)))

  -- none is left at this gate
  pub gate_passed : gate_lacks n gs class ws i ≡ 0
      → keep (gate_left ws) (each (gate_place n gs class) (up_from (i + 1) (e + 1 - (i + 1))))
      ≡ keep (gate_left ws) (each (gate_place n gs class) (up_from (i + 1 + 1) (e + 1 - (i + 1 + 1))))
  unfolding each
  gate_passed z =
      passed_to (gate_left ws) (gate_place n gs class) (i + 1) (e + 1) (omega arith)
      (gate-left ∙ ap (each (λ j. fault_of class (i + 1) j 0 ∷ [])) (ap (lines_on n) z ∙ lines_zero n))

  -- some is left, and the lowest line is the first
  pub gate-found : n ≤ most_lines → gate_lacks n gs class ws i ≢ 0
      → first_told (keep (gate_left ws) (each (gate_place n gs class) (up_from (i + 1) (e + 1 - (i + 1)))))
      ≡ 0 ∷ class ∷ (i + 1) ∷ get_or (lines_on most_lines (gate_lacks n gs class ws i)) 0 0 ∷ 0 ∷ []
  unfolding each fault_of
  gate-found wide d =
      ap first_told (found_to (gate_left ws) (gate_place n gs class) (i + 1) (e + 1) _ _ (omega arith)
      (gate-left ∙ ap (each (λ j. fault_of class (i + 1) j 0 ∷ []))
      (lowest_first n (gate_lacks n gs class ws i) wide
      (lacking-lt n (gate_lines n gs class (i + 1)) (get_or ws i 0) (gate_lines-lt n gs class (i + 1))) d)))

-- ---- a level: the lines that either of its words of marks lacks

abbrev pub level_left : List ℕ → List ℕ → Fault → Bool
level_left at0 at1 f = not (level_marked at0 at1 f)

-- the pairs of a level, as the class lists them
abbrev pub level_place : ℕ → List Gate → ℕ → List Fault
level_place n gs i = each (λ j. fault_of 1 i j 0 ∷ fault_of 1 i j 1 ∷ []) (lines_on n (sites n gs i))

abbrev pub level_lacks : ℕ → List Gate → List ℕ → ℕ → ℕ
level_lacks n gs ws i = lacking (sites n gs i) (get_or ws i 0)

-- from level 0 on it is the whole class
pub levels-start : (n : ℕ) (gs : List Gate) (at0 at1 : List ℕ)
    → keep (level_left at0 at1) (stuck_faults n gs) ≡ keep (level_left at0 at1) (each (level_place n gs) (up_from 0 (length gs + 1 - 0)))
unfolding stuck_faults
levels-start n gs at0 at1 =
    let k : suc (length gs) ≡ length gs + 1 - 0 = omega arith in
    ap (λ m. keep (level_left at0 at1) (each (level_place n gs) (up_from 0 m))) k

-- at a line that lacks in one of two words, the value is 0 where it lacks in the first, and else 1
first_value : (mask s t a i : ℕ) → bit (bit_or (lacking mask s) (lacking mask t)) a ≡ 1
    → (not (eqb (bit s a) 1) || not (eqb (bit t a) 1) ≡ true)
    × (choice (not (eqb (bit s a) 1)) (fault_of 1 i a 0) (fault_of 1 i a 1) ≡ fault_of 1 i a (1 - bit (lacking mask s) a))
first_value mask s t a i o =
    let w = and_both (eqb (bit mask a) 1) (not (eqb (bit s a) 1) || not (eqb (bit t a) 1)) (sym (on_lacking_or mask s t a) ∙ eq-eqb _ 1 o) in
    let same : eqb (bit (lacking mask s) a) 1 ≡ not (eqb (bit s a) 1) = on_lacking mask s a ∙ ap (λ b. b && not (eqb (bit s a) 1)) w.0 in (
      w.1,
      by_test (not (eqb (bit s a) 1))
          (λ y. rw y (ap (fault_of 1 i a) (let one = eqb-true (bit (lacking mask s) a) 1 (same ∙ y) in omega arith)))
          (λ y. rw y (ap (fault_of 1 i a) (let d = eqb-false (bit (lacking mask s) a) 1 (same ∙ y) in omega (arith, bit_le (lacking mask s) a)))),
    )

module _ (n : ℕ) (gs : List Gate) (at0 at1 : List ℕ) (i e : ℕ) (h : i < e) where
  -- the faults of the level that are left, line by line
  both : ℕ → List Fault
  both = pair (level_left at0 at1) (λ j. fault_of 1 i j 0) (λ j. fault_of 1 i j 1)

  level_left_lem : keep (level_left at0 at1) (level_place n gs i) ≡ each both (lines_on n (bit_or (level_lacks n gs at0 i) (level_lacks n gs at1 i)))
  unfolding fault_of both
  level_left_lem =
      keep_twos (level_left at0 at1) (λ j. fault_of 1 i j 0) (λ j. fault_of 1 i j 1) (lines_on n (sites n gs i))
      ∙ ap (each both) (sym (lines_lacking_or n (sites n gs i) (get_or at0 i 0) (get_or at1 i 0)))

  -- none is left at this level
  pub level_passed : bit_or (level_lacks n gs at0 i) (level_lacks n gs at1 i) ≡ 0
      → keep (level_left at0 at1) (each (level_place n gs) (up_from i (e - i)))
      ≡ keep (level_left at0 at1) (each (level_place n gs) (up_from (i + 1) (e - (i + 1))))
  unfolding each
  level_passed z = passed_to (level_left at0 at1) (level_place n gs) i e h (level_left_lem ∙ ap (each both) (ap (lines_on n) z ∙ lines_zero n))

  -- some is left: the lowest line, and value 0 where it is left
  module _ (wide : n ≤ most_lines) (d : bit_or (level_lacks n gs at0 i) (level_lacks n gs at1 i) ≢ 0) where
    word : ℕ
    word = bit_or (level_lacks n gs at0 i) (level_lacks n gs at1 i)

    line : ℕ
    line = get_or (lines_on most_lines word) 0 0

    below : word < 2 ^ n
    unfolding word
    below = lacking-or-lt n (sites n gs i) (get_or at0 i 0) (get_or at1 i 0) (sites-lt n gs i)

    on : bit word line ≡ 1
    unfolding word line
    on = lowest_on n word wide below d

    level_first : keep (level_left at0 at1) (level_place n gs i)
        ≡ fault_of 1 i line (1 - bit (level_lacks n gs at0 i) line)
        ∷ (choice (level_left at0 at1 (fault_of 1 i line 0)) (choice (level_left at0 at1 (fault_of 1 i line 1)) (fault_of 1 i line 1 ∷ []) []) []
        ++ each both (drop 1 (lines_on n word)))
    unfolding each both fault_of word line
    level_first =
        let v = first_value (sites n gs i) (get_or at0 i 0) (get_or at1 i 0) line i on in
        level_left_lem ∙ ap (each both) (lowest_first n word wide below d)
        ∙ ap (λ l. l ++ each both (drop 1 (lines_on n word)))
        (pair_first (level_left at0 at1) (λ j. fault_of 1 i j 0) (λ j. fault_of 1 i j 1) line v.0
        ∙ ap (λ f. f ∷ choice (level_left at0 at1 (fault_of 1 i line 0))
        (choice (level_left at0 at1 (fault_of 1 i line 1)) (fault_of 1 i line 1 ∷ []) []) []) v.1)

    pub level_found : (f : Fault)
        → f ≡ fault_of 1 i (get_or (lines_on most_lines (bit_or (level_lacks n gs at0 i) (level_lacks n gs at1 i))) 0 0)
        (1 - bit (level_lacks n gs at0 i) (get_or (lines_on most_lines (bit_or (level_lacks n gs at0 i) (level_lacks n gs at1 i))) 0 0))
        → first_told (keep (level_left at0 at1) (each (level_place n gs) (up_from i (e - i)))) ≡ 0 ∷ f.class ∷ f.place ∷ f.line ∷ f.value ∷ []
    unfolding word line
    level_found f same =
        ap first_told (found_to (level_left at0 at1) (level_place n gs) i e _ _ h level_first)
        ∙ ap (λ (k : Fault). 0 ∷ k.class ∷ k.place ∷ k.line ∷ k.value ∷ []) (sym same)
