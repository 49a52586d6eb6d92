-- Laws of the marks of one vector: the lines at which it catches a fault of the circuit, as words that code computes.
use Rattle.std.specs.Prelude.{ℕ, ◌-◌, ◌≤◌, ◌<◌, ◌≡◌, refl, Bool, not, ◌&&◌, List, length, eqb, bit_and}
use Rattle.std.proofs.Common.{sym, ap, ap₂, ◌∙◌, arith}
use mathlib.Core.Bool.{and_comm, and_assoc, and_self_left}
use Rattle.basics.specs.Choice.{choice}
use Rattle.words.specs.Word.{bit}
use Rattle.words.specs.WordOf.{word_of, lacking}
use Rattle.words.proofs.AndLaws.{and_lt, lacking-lt, on_lacking}
use Rattle.words.proofs.Inverse.{not_off, not_on}
use Rattle.words.proofs.OrLaws.{on_and}
use Rattle.words.proofs.WordOfLaws.{word_is, word_of-cong, word_of-when, on_word_of, word_of-lt}
use Rattle.circuit.specs.Gates.{gate_at}
use Rattle.circuit.specs.Controls.{is_control, less_control, is_other, stops, stopping}
use Rattle.circuit.specs.Runs.{fires, forward}
use Rattle.circuit.specs.Sound.{AllOk}
use Rattle.circuit.specs.declared.Gate.{Gate}
use Rattle.simulator.specs.Faulty.{caught}
use Rattle.circuit.proofs.StopLaws.{stops-zero}
use Rattle.simulator.proofs.FaultyLaws.{stuck_caught, missing_gate_caught}
use Rattle.simulator.proofs.UnchangedLaws.{missing_stops, extra_caught}
use Rattle.faults.specs.Classes.{fault_of}
use Rattle.faults.specs.Kinds.{gate_class_number}
use Rattle.faults.specs.declared.classes.GateClass.{GateClass}
use Rattle.faults.specs.declared.classes.GateClass.TheVariants.{MissingGate, MissingControl, ExtraControl}
use Rattle.faults.specs.Stuck.{StuckOk}
use Rattle.faults.specs.Sites.{sites}
use Rattle.faults.proofs.SiteLaws.{sites-lt}
use Rattle.marking.specs.Marks.{caught_lines, caught_at_gate}
use Rattle.marking.proofs.FaultLines.{line-zero, stuck_here, gate_here, control_here, other_here}

-- ---- what is caught at a gate, as code computes it

module _ (n : ℕ) (g : Gate) (s : ℕ) where
  pub fires_word : 1 ≤ n → choice (fires g s) 1 0 ≡ caught_at_gate 2 n g s
  unfolding caught_at_gate
  fires_word some = sym (word_of-when n (λ line. eqb line 0) (fires g s) ∙ ap (λ w. choice (fires g s) w 0) (line-zero n some))

  pub stops_word : stopping n g s ≡ caught_at_gate 3 n g s
  unfolding caught_at_gate
  stops_word = refl

  pub extra_word : choice (fires g s) (lacking (word_of n (is_other g)) s) 0 ≡ caught_at_gate 4 n g s
  unfolding caught_at_gate
  extra_word = sym (
      word_of-cong n _ (λ j. (is_other g j && eqb (bit s j) 0) && fires g s) (λ j l. sym (and_assoc (is_other g j) (eqb (bit s j) 0) (fires g s)))
      ∙ word_of-when n (λ j. is_other g j && eqb (bit s j) 0) (fires g s)
      ∙ ap (λ w. choice (fires g s) w 0)
      (sym (word_is n (lacking (word_of n (is_other g)) s) _ (lacking-lt n (word_of n (is_other g)) s (word_of-lt n (is_other g))) (λ j l.
      on_lacking (word_of n (is_other g)) s j ∙ ap₂ ◌&&◌ (on_word_of n (is_other g) j l) (not_on s j)))))

-- ---- the marks of a vector

-- a line stuck at a level
pub stuck_of : (n : ℕ) (gs : List Gate) (i j v : ℕ) → i ≤ length gs → j < n → v ≤ 1 → StuckOk n (length gs) (fault_of 1 i j v)
unfolding fault_of
stuck_of n gs i j v p l h = record { class_is = refl; place_in = p; line_in = l; value_in = h }

module _ (n : ℕ) (gs : List Gate) (ok : AllOk n gs) (x i : ℕ) where
  -- a level: stuck at 0, the sites that should be 1, and stuck at 1, those that should be 0

  pub caught_stuck : (j v : ℕ) → i ≤ length gs → j < n → v ≤ 1 → caught gs (fault_of 1 i j v) x ≡ not (eqb (bit (forward gs i x) j) v)
  unfolding fault_of
  caught_stuck j v h l u = stuck_caught n gs ok (fault_of 1 i j v) (stuck_of n gs i j v h l u) x

  pub level_zero : i ≤ length gs → caught_lines n gs 1 0 x i ≡ bit_and (forward gs i x) (sites n gs i)
  unfolding caught_lines
  level_zero h =
      let s : ℕ = forward gs i x in
      sym (word_is n (bit_and s (sites n gs i)) _ (and_lt n s (sites n gs i) (sites-lt n gs i)) (λ j l.
      on_and s (sites n gs i) j ∙ and_comm (eqb (bit s j) 1) (eqb (bit (sites n gs i) j) 1)
      ∙ sym (ap₂ ◌&&◌ (stuck_here n gs i j 0 h (omega arith)) (caught_stuck j 0 h l (omega arith) ∙ not_off s j))))

  pub level_one : i ≤ length gs → caught_lines n gs 1 1 x i ≡ lacking (sites n gs i) (forward gs i x)
  unfolding caught_lines
  level_one h =
      let s : ℕ = forward gs i x in
      sym (word_is n (lacking (sites n gs i) s) _ (lacking-lt n (sites n gs i) s (sites-lt n gs i)) (λ j l.
      on_lacking (sites n gs i) s j
      ∙ sym (ap₂ ◌&&◌ (stuck_here n gs i j 1 h (omega arith)) (caught_stuck j 1 h l (omega arith)))))

  -- a gate: by the state that it reads

  module _ (lo : 1 ≤ i) (hi : i ≤ length gs) where
    gate : Gate
    gate = gate_at gs i

    state : ℕ
    state = forward gs (i - 1) x

    two_is : caught_lines n gs 2 0 x i ≡ caught_at_gate 2 n gate state
    unfolding caught_lines caught_at_gate fault_of gate state
    two_is = word_of-cong n _ _ (λ j l. ap₂ ◌&&◌ (gate_here n gs i lo hi j) (missing_gate_caught n gs ok (fault_of 2 i j 0) lo hi x refl))

    -- what alone stops a gate is one of its controls
    stops_control : (j : ℕ) → is_control gate j && stops gate state j ≡ stops gate state j
    stops_control j =
        let off : Bool = eqb (bit state j) 0 && fires (less_control j gate) state in
        ap (λ b. is_control gate j && b) (stops-zero gate state j) ∙ and_self_left (is_control gate j) off ∙ sym (stops-zero gate state j)

    three-is : caught_lines n gs 3 0 x i ≡ caught_at_gate 3 n gate state
    unfolding caught_lines caught_at_gate stopping fault_of gate state
    three-is = word_of-cong n _ _ (λ j l.
        ap₂ ◌&&◌ (control_here n gs i lo hi j) (missing_stops n gs ok (fault_of 3 i j 0) lo hi x refl) ∙ stops_control j)

    four_is : caught_lines n gs 4 0 x i ≡ caught_at_gate 4 n gate state
    unfolding caught_lines caught_at_gate fault_of gate state
    four_is = word_of-cong n _ _ (λ j l. ap₂ ◌&&◌ (other_here n gs i lo hi j l) (extra_caught n gs ok (fault_of 4 i j 0) lo hi x refl))

    pub gate-caught : (class : GateClass)
        → caught_lines n gs (gate_class_number class) 0 x i ≡ caught_at_gate (gate_class_number class) n (gate_at gs i) (forward gs (i - 1) x)
    unfolding gate state
    gate-caught MissingGate = two_is
    gate-caught MissingControl = three-is
    gate-caught ExtraControl = four_is
