-- Which lines of a level or a gate have a fault: the sites of a level, line 0 for the gate itself, its controls, its other lines.
use Rattle.std.specs.Prelude.{ℕ, zero, suc, ◌+◌, ◌*◌, ◌^◌, ◌≤◌, ◌<◌, ◌≡◌, List, length, eqb}
use Rattle.std.proofs.Common.{ap, ◌∙◌, arith, ne_eqb, le-leb, lt-ltb}
use mathlib.Core.Bool.{and-true}
use Rattle.words.specs.Word.{bit}
use Rattle.words.specs.WordOf.{word_of}
use Rattle.words.proofs.WordOfLaws.{word_of-lt, word_of-cong, word_of_none}
use Rattle.circuit.specs.Gates.{gate_at}
use Rattle.circuit.specs.Controls.{is_control, is_other}
use Rattle.circuit.specs.declared.Gate.{Gate}
use Rattle.faults.specs.Classes.{fault_of}
use Rattle.faults.specs.Rules.{is_stuck_at, is_gate, is_missing_gate, is_missing_control, is_extra_control, is_fault}
use Rattle.faults.specs.Sites.{sites}
use Rattle.marking.specs.Tallies.{gate_lines}

-- the word of line 0
pub line-zero : (n : ℕ) → 1 ≤ n → word_of n (λ line. eqb line 0) ≡ 1
unfolding word_of
line-zero zero some = absurd (omega arith)
line-zero (suc n) some = ap (λ w. 1 + 2 * w) (word_of_none n (λ line. eqb (suc line) 0) (λ line h. ne_eqb (suc line) 0 (λ e. omega arith)))

module _ (n : ℕ) (gs : List Gate) where
  -- class 1: at a level, the sites
  pub stuck_here : (i j v : ℕ) → i ≤ length gs → v ≤ 1 → is_fault n gs (fault_of 1 i j v) ≡ eqb (bit (sites n gs i) j) 1
  unfolding fault_of is_fault is_stuck_at
  stuck_here i j v h u = rw (le-leb i (length gs) h, le-leb v 1 u) (and-true (eqb (bit (sites n gs i) j) 1))

  module _ (i : ℕ) (lo : 1 ≤ i) (hi : i ≤ length gs) where
    -- class 2: at a gate, line 0
    pub gate_here : (j : ℕ) → is_fault n gs (fault_of 2 i j 0) ≡ eqb j 0
    unfolding fault_of is_fault is_missing_gate is_gate
    gate_here j = rw (le-leb 1 i lo, le-leb i (length gs) hi) (and-true (eqb j 0))

    -- class 3: its controls
    pub control_here : (j : ℕ) → is_fault n gs (fault_of 3 i j 0) ≡ is_control (gate_at gs i) j
    unfolding fault_of is_fault is_missing_control is_gate
    control_here j = rw (le-leb 1 i lo, le-leb i (length gs) hi) (and-true (is_control (gate_at gs i) j))

    -- class 4: its other lines
    pub other_here : (j : ℕ) → j < n → is_fault n gs (fault_of 4 i j 0) ≡ is_other (gate_at gs i) j
    unfolding fault_of is_fault is_extra_control is_gate
    other_here j h = rw (le-leb 1 i lo, le-leb i (length gs) hi, lt-ltb j n h) (and-true (is_other (gate_at gs i) j))

    -- the same as words
    pub lines_two : 1 ≤ n → gate_lines n gs 2 i ≡ 1
    unfolding gate_lines
    lines_two some = word_of-cong n _ (λ j. eqb j 0) (λ j h. gate_here j) ∙ line-zero n some

    pub lines_three : gate_lines n gs 3 i ≡ word_of n (is_control (gate_at gs i))
    unfolding gate_lines
    lines_three = word_of-cong n _ (is_control (gate_at gs i)) (λ j h. control_here j)

    pub lines_four : gate_lines n gs 4 i ≡ word_of n (is_other (gate_at gs i))
    unfolding gate_lines
    lines_four = word_of-cong n _ (is_other (gate_at gs i)) other_here

  -- the word of a gate is one of n lines
  pub gate_lines-lt : (class i : ℕ) → gate_lines n gs class i < 2 ^ n
  unfolding gate_lines
  gate_lines-lt class i = word_of-lt n (λ line. is_fault n gs (fault_of class i line 0))
