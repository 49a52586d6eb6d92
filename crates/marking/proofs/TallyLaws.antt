-- Counts of marks, as loops add them up: at each level or gate the ones of a word.
use Rattle.std.specs.Prelude.{ℕ, zero, suc, ◌+◌, ◌-◌, ◌*◌, ◌^◌, ◌≤◌, ◌<◌, ◌≡◌, refl, List, [], ◌∷◌, length, get_or, eqb, bit_and}
use Rattle.std.proofs.Common.{sym, ap, ap₂, ◌∙◌, arith, add-one, mul-one, le-leb}
use Rattle.basics.specs.Lists.{up_from, keep, each}
use Rattle.basics.specs.Sums.{sum_from}
use Rattle.basics.proofs.Lists.{length-each, keep-cong, all-up_from}
use Rattle.basics.proofs.ListMore.{count-one}
use Rattle.basics.proofs.SumLaws.{sum-cong, sum_more, sum_end, length-sum}
use Rattle.words.specs.Word.{bit, lines_on}
use Rattle.words.proofs.OrLaws.{lines_and}
use Rattle.words.proofs.WordOfLaws.{lines_word_of}
use Rattle.words.proofs.AndLaws.{and_lt, length_lines_le, lines_wide, lines_one}
use Rattle.circuit.specs.Gates.{gate_at}
use Rattle.circuit.specs.Controls.{is_control, is_other}
use Rattle.circuit.specs.Limits.{most_lines}
use Rattle.circuit.specs.declared.Gate.{Gate}
use Rattle.faults.specs.Sites.{sites}
use Rattle.faults.specs.declared.Fault.{Fault}
use Rattle.faults.proofs.SiteLaws.{sites-lt}
use Rattle.marking.proofs.FaultLines.{lines_two, lines_three, lines_four, gate_lines-lt}
use Rattle.faults.specs.Classes.{fault_of, stuck_faults, missing_gates, missing_controls, extra_controls, class_faults}
use Rattle.faults.specs.Kinds.{gate_class_number}
use Rattle.faults.specs.declared.classes.GateClass.{GateClass}
use Rattle.faults.specs.declared.classes.GateClass.TheVariants.{MissingGate, MissingControl, ExtraControl}
use Rattle.marking.specs.Marks.{is_on, level_marked, gate_marked}
use Rattle.marking.specs.Tallies.{gate_lines}
use Rattle.faults.proofs.ClassLists.{list_two, list_three, list_four}
use Rattle.marking.proofs.Counting.{each_agree, count_places, count_stuck}

-- ---- the faults of a class of gate faults, gate by gate: one at each line of the gate's word

abbrev pub gate_place : ℕ → List Gate → ℕ → ℕ → List Fault
gate_place n gs class i = each (λ j. fault_of class i j 0 ∷ []) (lines_on n (gate_lines n gs class i))

module _ (n : ℕ) (gs : List Gate) where
  -- what a class lists gate by gate, where each gate's part is as above
  by_gate : (class : ℕ) (part : ℕ → List Fault) → ((i : ℕ) → 1 ≤ i → i ≤ length gs → part i ≡ gate_place n gs class i)
      → each part (up_from 1 (length gs)) ≡ each (gate_place n gs class) (up_from 1 (length gs))
  by_gate class part same = each_agree part (gate_place n gs class) (up_from 1 (length gs))
      (all-up_from _ 1 (length gs) (λ i lo hi. same i lo (omega arith)))

  two_places : 1 ≤ n → missing_gates gs ≡ each (gate_place n gs 2) (up_from 1 (length gs))
  unfolding missing_gates each
  two_places some = by_gate 2 _ (λ i lo hi.
      ap (each (λ j. fault_of 2 i j 0 ∷ [])) (sym (ap (lines_on n) (lines_two n gs i lo hi some) ∙ lines_one n some)))

  three_places : missing_controls n gs ≡ each (gate_place n gs 3) (up_from 1 (length gs))
  unfolding missing_controls
  three_places = by_gate 3 _ (λ i lo hi.
      ap (each (λ j. fault_of 3 i j 0 ∷ [])) (sym (ap (lines_on n) (lines_three n gs i lo hi) ∙ lines_word_of n (is_control (gate_at gs i)))))

  four_places : extra_controls n gs ≡ each (gate_place n gs 4) (up_from 1 (length gs))
  unfolding extra_controls
  four_places = by_gate 4 _ (λ i lo hi.
      ap (each (λ j. fault_of 4 i j 0 ∷ [])) (sym (ap (lines_on n) (lines_four n gs i lo hi) ∙ lines_word_of n (is_other (gate_at gs i)))))

  pub class_places : (class : GateClass) → 1 ≤ n
      → class_faults n gs (gate_class_number class) ≡ each (gate_place n gs (gate_class_number class)) (up_from 1 (length gs))
  class_places MissingGate some = list_two n gs 2 refl ∙ two_places some
  class_places MissingControl some = list_three n gs 3 refl ∙ three_places
  class_places ExtraControl some = list_four n gs 4 refl ∙ four_places

-- ---- the terms of the sums

-- the marked faults at level i and at the gate after i others, and all faults there, as code counts them
abbrev pub level_count : ℕ → List Gate → List ℕ → List ℕ → ℕ → ℕ
level_count n gs at0 at1 i =
    length (lines_on most_lines (bit_and (get_or at0 i 0) (sites n gs i))) + length (lines_on most_lines (bit_and (get_or at1 i 0) (sites n gs i)))

abbrev pub gate_count : ℕ → List Gate → ℕ → List ℕ → ℕ → ℕ
gate_count n gs class ws i = length (lines_on most_lines (bit_and (get_or ws i 0) (gate_lines n gs class (i + 1))))

abbrev pub gate_total : ℕ → List Gate → ℕ → ℕ → ℕ
gate_total n gs class i = length (lines_on most_lines (gate_lines n gs class (i + 1)))

-- no word has more ones than a circuit may have lines
pub ones_le : (w : ℕ) → length (lines_on most_lines w) ≤ most_lines
ones_le w = length_lines_le most_lines w

-- the ones of a word of n lines are its lines below n
ones_of : (n w : ℕ) → n ≤ most_lines → w < 2 ^ n → length (lines_on n w) ≡ length (lines_on most_lines w)
ones_of n w wide h = ap length (sym (lines_wide n most_lines w wide h))

-- of the lines of a mask, those that are on in a word
ones_and : (n a b : ℕ) → n ≤ most_lines → b < 2 ^ n → length (keep (λ j. eqb (bit a j) 1) (lines_on n b)) ≡ length (lines_on most_lines (bit_and a b))
ones_and n a b wide h = ap length (sym (lines_and n a b)) ∙ ones_of n (bit_and a b) wide (and_lt n a b h)

-- the marks of gate i + 1 stand in the word after i others
pub gate_mark : (ws : List ℕ) (class i j : ℕ) → gate_marked ws (fault_of class (i + 1) j 0) ≡ is_on ws i j
unfolding fault_of
gate_mark ws class i j =
    let before : i + 1 - 1 ≡ i = omega arith in
    rw (le-leb 1 (i + 1) (omega arith), before)

-- places from 1 are places from 0 with one added
sum_from-one : (f : ℕ → ℕ) (a k : ℕ) → sum_from f (suc a) k ≡ sum_from (λ i. f (i + 1)) a k
unfolding sum_from
sum_from-one f a zero = refl
sum_from-one f a (suc k) = ap₂ ◌+◌ (ap f (sym (add-one a))) (sum_from-one f (suc a) k)

-- ---- a sum, as a loop adds it up

-- of `end` places those below i have been added, each with at most two faults for each line
pub record Adding (f : ℕ → ℕ) (total end sum i : ℕ) : Type 0 where
  pub small : sum ≤ 2 * most_lines * i
  pub rest : sum + sum_from f i (end - i) ≡ total

pub adding_start : (f : ℕ → ℕ) (total end : ℕ) → total ≡ sum_from f 0 end → Adding f total end 0 0
adding_start f total end whole =
    let all : end - 0 ≡ end = omega arith in
    record { small = omega arith; rest = rw all (omega (arith, whole)) }

module _ (f : ℕ → ℕ) (total end sum i : ℕ) (so_far : Adding f total end sum i) where
  pub adding_more : (word : ℕ) → i < end → word ≡ f i → word ≤ 2 * most_lines → Adding f total end (sum + word) (i + 1)
  adding_more word h here small = record { small = omega arith; rest = omega (arith, sum_more f i end h) }

  pub adding_done : end ≤ i → sum ≡ total
  adding_done h = omega (arith, sum_end f i end h)

-- ---- the sums

module _ (n : ℕ) (gs : List Gate) (wide : n ≤ most_lines) where
  pub count-levels-sum : (at0 at1 : List ℕ)
      → length (keep (level_marked at0 at1) (stuck_faults n gs)) ≡ sum_from (level_count n gs at0 at1) 0 (length gs + 1)
  unfolding fault_of
  count-levels-sum at0 at1 =
      count_stuck (level_marked at0 at1) n gs
      ∙ sum-cong _ (level_count n gs at0 at1) 0 (suc (length gs)) (λ i l h.
      ap₂ ◌+◌ (ones_and n (get_or at0 i 0) (sites n gs i) wide (sites-lt n gs i)) (ones_and n (get_or at1 i 0) (sites n gs i) wide (sites-lt n gs i)))
      ∙ ap (sum_from (level_count n gs at0 at1) 0) (sym (add-one (length gs)))

  gate_count_lem : (class : ℕ) (ws : List ℕ) (i : ℕ) → length (keep (gate_marked ws) (gate_place n gs class (i + 1))) ≡ gate_count n gs class ws i
  gate_count_lem class ws i =
      let mask : ℕ = gate_lines n gs class (i + 1) in
      count-one (gate_marked ws) (λ j. fault_of class (i + 1) j 0) (lines_on n mask)
      ∙ ap length (keep-cong (gate_mark ws class i) (lines_on n mask))
      ∙ ones_and n (get_or ws i 0) mask wide (gate_lines-lt n gs class (i + 1))

  module _ (kind : GateClass) (some : 1 ≤ n) where
    pub count_gates_sum : (ws : List ℕ) → length (keep (gate_marked ws) (class_faults n gs (gate_class_number kind)))
        ≡ sum_from (gate_count n gs (gate_class_number kind) ws) 0 (length gs)
    count_gates_sum ws =
        let class : ℕ = gate_class_number kind in
        ap (λ l. length (keep (gate_marked ws) l)) (class_places n gs kind some)
        ∙ count_places (gate_marked ws) (gate_place n gs class) 1 (length gs)
        ∙ sum_from-one (λ i. length (keep (gate_marked ws) (gate_place n gs class i))) 0 (length gs)
        ∙ sum-cong _ (gate_count n gs class ws) 0 (length gs) (λ i l h. gate_count_lem class ws i)

    pub total_gates_sum : length (class_faults n gs (gate_class_number kind)) ≡ sum_from (gate_total n gs (gate_class_number kind)) 0 (length gs)
    total_gates_sum =
        let class : ℕ = gate_class_number kind in
        ap length (class_places n gs kind some)
        ∙ length-sum (gate_place n gs class) 1 (length gs)
        ∙ sum_from-one (λ i. length (gate_place n gs class i)) 0 (length gs)
        ∙ sum-cong _ (gate_total n gs class) 0 (length gs) (λ i l h.
        let mask = gate_lines n gs class (i + 1) in
        length-each (λ j. fault_of class (i + 1) j 0 ∷ []) 1 (λ j. refl) (lines_on n mask)
        ∙ mul-one (length (lines_on n mask))
        ∙ ones_of n mask wide (gate_lines-lt n gs class (i + 1)))
