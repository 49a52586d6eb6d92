-- Laws of marks added to words: one place at a time, and the words and the marks of a place.
use Rattle.std.specs.Prelude.{ℕ, zero, suc, ◌-◌, ◌≤◌, ◌<◌, ◌≡◌, refl, true, List, [], ◌∷◌, length, get_or, take, bit_or, eqb}
use Rattle.std.proofs.Common.{ap, ◌∙◌, not-suc-le-zero, zero-add, arith}
use Rattle.basics.proofs.Tests.{or_left}
use Rattle.basics.proofs.Lists.{map_up_from_at, length-map-up_from}
use Rattle.words.specs.Word.{bit}
use Rattle.words.proofs.OrLaws.{on_or}
use Rattle.circuit.specs.declared.Gate.{Gate}
use Rattle.marking.specs.Marks.{caught_lines, marked_at, marked, level_marks, gate_marks, is_on}

-- ---- the marks of one vector

-- a list of marks is added one place at a time
pub mark_more : (ws ms : List ℕ) (i : ℕ) → i < length ms
    → marked_at (marked ws (take i ms)) i (get_or ms i 0) ≡ marked ws (take (suc i) ms)
unfolding marked
mark_more ws [] i h = absurd (not-suc-le-zero h)
mark_more [] (m ∷ ms) zero h = refl
mark_more [] (m ∷ ms) (suc i) h = refl
mark_more (w ∷ ws) (m ∷ ms) zero h = refl
mark_more (w ∷ ws) (m ∷ ms) (suc i) h = ap (λ (l : List ℕ). bit_or w m ∷ l) (mark_more ws ms i (omega arith))

pub marked-length : (ws ms : List ℕ) → length (marked ws ms) ≡ length ws
unfolding marked
marked-length ws [] = refl
marked-length [] (m ∷ ms) = refl
marked-length (w ∷ ws) (m ∷ ms) = ap suc (marked-length ws ms)

-- a word with its mark
pub marked_at_lem : (ws ms : List ℕ) (i : ℕ) → i < length ws → i < length ms → get_or (marked ws ms) i 0 ≡ bit_or (get_or ws i 0) (get_or ms i 0)
unfolding marked
marked_at_lem [] ms i p q = absurd (not-suc-le-zero p)
marked_at_lem (w ∷ ws) [] i p q = absurd (not-suc-le-zero q)
marked_at_lem (w ∷ ws) (m ∷ ms) zero p q = refl
marked_at_lem (w ∷ ws) (m ∷ ms) (suc i) p q = marked_at_lem ws ms i (omega arith) (omega arith)

-- a word past the marks
pub marked_past : (ws ms : List ℕ) (i : ℕ) → length ms ≤ i → get_or (marked ws ms) i 0 ≡ get_or ws i 0
unfolding marked
marked_past ws [] i h = refl
marked_past [] (m ∷ ms) i h = refl
marked_past (w ∷ ws) (m ∷ ms) zero h = absurd (omega arith)
marked_past (w ∷ ws) (m ∷ ms) (suc i) h = marked_past ws ms i (omega arith)

-- a mark stays, whatever is marked
pub on_stays : (ws ms : List ℕ) (i j : ℕ) → is_on ws i j ≡ true → is_on (marked ws ms) i j ≡ true
unfolding marked
on_stays ws [] i j e = e
on_stays [] (m ∷ ms) i j e = e
on_stays (w ∷ ws) (m ∷ ms) zero j e = on_or w m j ∙ or_left (eqb (bit m j) 1) e
on_stays (w ∷ ws) (m ∷ ms) (suc i) j e = on_stays ws ms i j e

-- the mark of level i, and of gate i, from 1
module _ (n : ℕ) (gs : List Gate) where
  pub level_marks-length : (v x : ℕ) → length (level_marks n gs v x) ≡ suc (length gs)
  level_marks-length v x = length-map-up_from (caught_lines n gs 1 v x) 0 (suc (length gs))

  pub gate_marks-length : (k x : ℕ) → length (gate_marks n gs k x) ≡ length gs
  gate_marks-length k x = length-map-up_from (caught_lines n gs k 0 x) 1 (length gs)

  pub level_mark_at : (v x i : ℕ) → i ≤ length gs → get_or (level_marks n gs v x) i 0 ≡ caught_lines n gs 1 v x i
  level_mark_at v x i h = map_up_from_at (caught_lines n gs 1 v x) 0 (suc (length gs)) i (omega arith) ∙ ap (caught_lines n gs 1 v x) (zero-add i)

  pub gate_mark_at : (k x i : ℕ) → 1 ≤ i → i ≤ length gs → get_or (gate_marks n gs k x) (i - 1) 0 ≡ caught_lines n gs k 0 x i
  gate_mark_at k x i lo hi = map_up_from_at (caught_lines n gs k 0 x) 1 (length gs) (i - 1) (omega arith) ∙ ap (caught_lines n gs k 0 x) (omega arith)
