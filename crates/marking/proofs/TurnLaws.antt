-- The turns of the marking loops, on the terms that code makes: one word is marked, and the state goes one level up.
use Rattle.std.specs.Prelude.{ℕ, ◌+◌, ◌-◌, ◌≤◌, ◌<◌, ◌≡◌, refl, List, [], length, get_or, take, bit_and}
use Rattle.std.proofs.Common.{sym, ap, ◌∙◌, arith, add-one, take_all}
use Rattle.words.specs.WordOf.{lacking}
use Rattle.circuit.specs.Gates.{gates_of, gate_at}
use Rattle.circuit.specs.Runs.{step, forward}
use Rattle.circuit.specs.Sound.{Sound}
use Rattle.circuit.specs.declared.Gate.{Gate}
use Rattle.circuit.proofs.RunLaws.{forward_none}
use Rattle.faults.specs.Kinds.{gate_class_number}
use Rattle.faults.specs.Sites.{sites}
use Rattle.faults.specs.declared.classes.GateClass.{GateClass}
use Rattle.marking.specs.Levels.{with_levels}
use Rattle.marking.specs.Marks.{caught_at_gate, marked_at, marked, level_marks, gate_marks}
use Rattle.marking.specs.declared.marks.LevelMarks.{LevelMarks}
use Rattle.marking.proofs.Levels.{level_next}
use Rattle.marking.proofs.MarkedLaws.{mark_more, level_marks-length, gate_marks-length, level_mark_at, gate_mark_at}
use Rattle.marking.proofs.MarkLaws.{level_zero, level_one, gate-caught}

-- ---- marks, a word at a time

mark_none : (ws : List ℕ) → ws ≡ marked ws []
unfolding marked
mark_none ws = refl

mark_turn : (ws ms now : List ℕ) (i k word : ℕ) → i < length ms → now ≡ marked ws (take i ms) → k ≡ i → word ≡ get_or ms i 0
    → marked_at now k word ≡ marked ws (take (i + 1) ms)
mark_turn ws ms now i k word h e level w = rw (e, level, w, add-one i) (mark_more ws ms i h)

mark_done : (ws ms now : List ℕ) (k : ℕ) → length ms ≤ k → now ≡ marked ws (take k ms) → now ≡ marked ws ms
mark_done ws ms now k h e = e ∙ ap (marked ws) (take_all k ms h)

-- ---- level by level

-- vector x is at level i with state s, and the levels before are marked
pub record LevelsTo (n : ℕ) (gates : List ℕ) (x : ℕ) (was now : LevelMarks) (s i : ℕ) : Type 0 where
  pub state_is : s ≡ forward (gates_of gates) i x
  pub marks_0 : now.at_0 ≡ marked was.at_0 (take i (level_marks n (gates_of gates) 0 x))
  pub marks_1 : now.at_1 ≡ marked was.at_1 (take i (level_marks n (gates_of gates) 1 x))

pub levels_start : (n : ℕ) (gates : List ℕ) (x : ℕ) (was : LevelMarks) → LevelsTo n gates x was was x 0
levels_start n gates x was = record {
  state_is = sym (forward_none (gates_of gates) x);
  marks_0 = mark_none was.at_0;
  marks_1 = mark_none was.at_1;
}

module _ (n : ℕ) (gates : List ℕ) (ok : Sound n gates) (x : ℕ) (was now next : LevelMarks) (s i : ℕ) (here : LevelsTo n gates x was now s i)
    (within : i ≤ length (gates_of gates)) (k : ℕ) (level : k ≡ i)
    (next_0 : next.at_0 ≡ marked_at now.at_0 k (bit_and s (sites n (gates_of gates) k)))
    (next_1 : next.at_1 ≡ marked_at now.at_1 k (lacking (sites n (gates_of gates) k) s)) where
  -- the marks of this level, stuck at 0 and stuck at 1
  turn_0 : next.at_0 ≡ marked was.at_0 (take (i + 1) (level_marks n (gates_of gates) 0 x))
  turn_0 =
      next_0 ∙ mark_turn was.at_0 (level_marks n (gates_of gates) 0 x) now.at_0 i k _ (omega (arith, level_marks-length n (gates_of gates) 0 x))
      here.marks_0 level
      (rw (level, here.state_is) (sym (level_mark_at n (gates_of gates) 0 x i within ∙ level_zero n (gates_of gates) ok.gates_ok x i within)))

  turn_1 : next.at_1 ≡ marked was.at_1 (take (i + 1) (level_marks n (gates_of gates) 1 x))
  turn_1 =
      next_1 ∙ mark_turn was.at_1 (level_marks n (gates_of gates) 1 x) now.at_1 i k _ (omega (arith, level_marks-length n (gates_of gates) 1 x))
      here.marks_1 level
      (rw (level, here.state_is) (sym (level_mark_at n (gates_of gates) 1 x i within ∙ level_one n (gates_of gates) ok.gates_ok x i within)))

  -- the next level, by the gate that reads this one
  pub levels-turn : (t m : ℕ) (g : Gate) → i < length (gates_of gates) → t ≡ step g s → g ≡ gate_at (gates_of gates) m → m ≡ i + 1
      → LevelsTo n gates x was next t (i + 1)
  levels-turn t m g more state is number = record {
    state_is = state ∙ level_next (gates_of gates) x s i m g here.state_is more is number;
    marks_0 = turn_0;
    marks_1 = turn_1;
  }

  -- after the last level all are marked
  pub levels-done : length (gates_of gates) ≤ i → next ≡ with_levels was n (gates_of gates) x
  levels-done last =
      let all_0 : next.at_0 ≡ marked was.at_0 (level_marks n (gates_of gates) 0 x) =
      mark_done was.at_0 _ next.at_0 (i + 1) (omega (arith, level_marks-length n (gates_of gates) 0 x)) turn_0 in
      let all_1 : next.at_1 ≡ marked was.at_1 (level_marks n (gates_of gates) 1 x) =
      mark_done was.at_1 _ next.at_1 (i + 1) (omega (arith, level_marks-length n (gates_of gates) 1 x)) turn_1 in
      λ j. record { at_0 = all_0 j; at_1 = all_1 j }

-- ---- gate by gate

-- vector x is at level i with state s, and the gates before are marked
pub record GatesTo (n : ℕ) (gates : List ℕ) (class x : ℕ) (was now : List ℕ) (s i : ℕ) : Type 0 where
  pub state_is : s ≡ forward (gates_of gates) i x
  pub marks_are : now ≡ marked was (take i (gate_marks n (gates_of gates) class x))

pub gates_start : (n : ℕ) (gates : List ℕ) (class x : ℕ) (was : List ℕ) → GatesTo n gates class x was was x 0
gates_start n gates class x was = record { state_is = sym (forward_none (gates_of gates) x); marks_are = mark_none was }

module _ (n : ℕ) (gates : List ℕ) (ok : Sound n gates) (x : ℕ) (was now : List ℕ) (s i : ℕ) where
  -- the marks of the gate that reads this level, and the next level
  pub gates-turn : (class : GateClass) → GatesTo n gates (gate_class_number class) x was now s i → i < length (gates_of gates)
      → (t m word : ℕ) (g : Gate) → t ≡ step g s → g ≡ gate_at (gates_of gates) m → m ≡ i + 1
      → word ≡ caught_at_gate (gate_class_number class) n g s
      → GatesTo n gates (gate_class_number class) x was (marked_at now i word) t (i + 1)
  gates-turn class here more t m word g state is number caught =
      let before : i + 1 - 1 ≡ i = omega arith in record {
        state_is = state ∙ level_next (gates_of gates) x s i m g here.state_is more is number;
        marks_are = mark_turn was (gate_marks n (gates_of gates) (gate_class_number class) x) now i i word
            (omega (arith, gate_marks-length n (gates_of gates) (gate_class_number class) x)) here.marks_are refl
            (caught ∙ rw (is, number, here.state_is)
            (sym (simp before at (gate_mark_at n (gates_of gates) (gate_class_number class) x (i + 1) (omega arith) (omega arith)
            ∙ gate-caught n (gates_of gates) ok.gates_ok x (i + 1) (omega arith) (omega arith) class))));
      }

  pub gates_done : (class : ℕ) → GatesTo n gates class x was now s i → length (gates_of gates) ≤ i
      → now ≡ marked was (gate_marks n (gates_of gates) class x)
  gates_done class here last = mark_done was _ now i (omega (arith, gate_marks-length n (gates_of gates) class x)) here.marks_are
