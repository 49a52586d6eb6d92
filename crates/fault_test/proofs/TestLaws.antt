-- The test for a fault: its level and state by class, and that it catches the fault.
use Rattle.std.proofs.Common.{ℕ, ◌-◌, ◌^◌, ◌<◌, ◌≡◌, ◌≢◌, sym, ap, ◌∙◌, arith, true, not, ◌&&◌, eqb, List}
use borrow.Author.Tests.{eq-eqb, ne_eqb}
use Rattle.basics.proofs.Tests.{by_test, by_equal, and-true, choice-true, choice-false}
use Rattle.words.specs.Word.{bit, force, all_ones}
use Rattle.words.proofs.Lines.{bit-force-same, force-lt}
use Rattle.words.proofs.Masks.{bit-all_ones, all_ones-lt}
use Rattle.circuit.specs.Gates.{gates_of, gate_at}
use Rattle.circuit.specs.Controls.{less_control}
use Rattle.circuit.specs.Runs.{fires, forward}
use Rattle.circuit.specs.Sound.{Sound}
use Rattle.circuit.proofs.ControlLaws.{fires_ones, fires_but, less_fires_but}
use Rattle.circuit.proofs.RuleLaws.{gate_ok}
use Rattle.circuit.proofs.RunLaws.{forward-backward, backward-lt}
use Rattle.simulator.specs.Faulty.{caught}
use Rattle.faults.specs.Rules.{is_fault}
use Rattle.fault_test.specs.Tests.{test_level, line_at_zero, test_state, test_for}
use Rattle.faults.specs.declared.Fault.{Fault}
use Rattle.simulator.proofs.FaultyLaws.{stuck_caught, missing_gate_caught, missing_control_caught, extra_control_caught}
use Rattle.faults.proofs.RuleLaws.{class_last}
use Rattle.faults.proofs.ClassLaws.{stuck_fault, names-gate, names-line, is_missing, is_extra}

-- ---- the level and the state of each class

pub level_stuck : (f : Fault) → f.class ≡ 1 → test_level f ≡ f.place
unfolding test_level
level_stuck f e = choice-true (eq-eqb f.class 1 e) _ _

pub level_gate : (f : Fault) → f.class ≢ 1 → test_level f ≡ f.place - 1
unfolding test_level
level_gate f d = choice-false (ne_eqb f.class 1 d) _ _

module _ (n : ℕ) (f : Fault) where
  -- stuck-at-1, and stuck-at-0
  pub state_stuck_one : f.class ≡ 1 → f.value ≡ 1 → test_state n f ≡ force (all_ones n) f.line 0
  unfolding test_state line_at_zero
  state_stuck_one e v = rw (eq-eqb f.class 1 e, eq-eqb f.value 1 v)

  pub state_stuck_zero : f.class ≡ 1 → f.value ≢ 1 → test_state n f ≡ all_ones n
  unfolding test_state line_at_zero
  state_stuck_zero e v = rw (eq-eqb f.class 1 e, ne_eqb f.value 1 v)

  pub state_missing_gate : f.class ≡ 2 → test_state n f ≡ all_ones n
  unfolding test_state line_at_zero
  state_missing_gate e = rw (ne_eqb f.class 1 (λ q. omega arith), ne_eqb f.class 3 (λ q. omega arith), ne_eqb f.class 4 (λ q. omega arith))

  pub state_missing_control : f.class ≡ 3 → test_state n f ≡ force (all_ones n) f.line 0
  unfolding test_state line_at_zero
  state_missing_control e = rw (ne_eqb f.class 1 (λ q. omega arith), eq-eqb f.class 3 e)

  pub state_extra_control : f.class ≡ 4 → test_state n f ≡ force (all_ones n) f.line 0
  unfolding test_state line_at_zero
  state_extra_control e = rw (ne_eqb f.class 1 (λ q. omega arith), ne_eqb f.class 3 (λ q. omega arith), eq-eqb f.class 4 e)

  -- the line that is to be 0 is 0, and every other is 1
  zero_there : bit (force (all_ones n) f.line 0) f.line ≡ 0
  zero_there = bit-force-same (all_ones n) f.line 0 (omega arith)

-- ---- the theorem

module _ (n : ℕ) (words : List ℕ) (f : Fault) (ok : Sound n words) (is : is_fault n (gates_of words) f ≡ true) where
  -- the test gives at its level the state that it was worked back from
  seen : forward (gates_of words) (test_level f) (test_for n (gates_of words) f) ≡ test_state n f
  unfolding test_for
  seen = forward-backward n (gates_of words) ok.gates_ok (test_level f) (test_state n f)

  catches_stuck : f.class ≡ 1 → caught (gates_of words) f (test_for n (gates_of words) f) ≡ true
  catches_stuck e =
      let k = stuck_fault n words f ok is e in
      let there : forward (gates_of words) f.place (test_for n (gates_of words) f) ≡ test_state n f = ap
      (λ i. forward (gates_of words) i (test_for n (gates_of words) f)) (sym (level_stuck f e)) ∙ seen in
      stuck_caught n (gates_of words) ok.gates_ok f k (test_for n (gates_of words) f)
      ∙ ap (λ s. not (eqb (bit s f.line) f.value)) there
      ∙ ap not (ne_eqb (bit (test_state n f) f.line) f.value (λ same. by_equal f.value 1
      (λ one. omega (arith, ap (λ s. bit s f.line) (state_stuck_one n f e one), zero_there n f))
      (λ other. omega (arith, ap (λ s. bit s f.line) (state_stuck_zero n f e other), bit-all_ones n f.line k.line_in, k.value_in))))

  -- for a gate fault, what is known at the level that the gate reads
  read : f.class ≢ 1 → forward (gates_of words) (f.place - 1) (test_for n (gates_of words) f) ≡ test_state n f
  read d = ap (λ i. forward (gates_of words) i (test_for n (gates_of words) f)) (sym (level_gate f d)) ∙ seen

  catches_missing_gate : f.class ≡ 2 → caught (gates_of words) f (test_for n (gates_of words) f) ≡ true
  catches_missing_gate e =
      let d : f.class ≢ 1 = λ q. omega arith in
      let w = names-gate n words f ok is d in
      missing_gate_caught n (gates_of words) ok.gates_ok f w.0 w.1 (test_for n (gates_of words) f) e
      ∙ ap (fires (gate_at (gates_of words) f.place)) (read d ∙ state_missing_gate n f e)
      ∙ fires_ones n (gate_at (gates_of words) f.place) (gate_ok n words f.place ok w.0 w.1)

  catches_missing_control : f.class ≡ 3 → caught (gates_of words) f (test_for n (gates_of words) f) ≡ true
  catches_missing_control e =
      let d : f.class ≢ 1 = λ q. omega arith in
      let w = names-gate n words f ok is d in
      let c = is_missing n words f ok is e in
      missing_control_caught n (gates_of words) ok.gates_ok f w.0 w.1 (test_for n (gates_of words) f) e c
      ∙ ap (λ s. eqb (bit s f.line) 0 && fires (less_control f.line (gate_at (gates_of words) f.place)) s)
      (read d ∙ state_missing_control n f e)
      ∙ and-true (eq-eqb _ 0 (zero_there n f))
      (less_fires_but n (gate_at (gates_of words) f.place) f.line (gate_ok n words f.place ok w.0 w.1) c)

  catches_extra_control : f.class ≡ 4 → caught (gates_of words) f (test_for n (gates_of words) f) ≡ true
  catches_extra_control e =
      let d : f.class ≢ 1 = λ q. omega arith in
      let w = names-gate n words f ok is d in
      let c = is_extra n words f ok is e in
      extra_control_caught n (gates_of words) ok.gates_ok f w.0 w.1 (test_for n (gates_of words) f) e c
      ∙ ap (λ s. eqb (bit s f.line) 0 && fires (gate_at (gates_of words) f.place) s) (read d ∙ state_extra_control n f e)
      ∙ and-true (eq-eqb _ 0 (zero_there n f))
      (fires_but n (gate_at (gates_of words) f.place) f.line (gate_ok n words f.place ok w.0 w.1) c)

  -- the test for a fault catches it
  pub test_catches : caught (gates_of words) f (test_for n (gates_of words) f) ≡ true
  test_catches =
      by_equal f.class 1 catches_stuck (λ d1. by_equal f.class 2 catches_missing_gate (λ d2. by_equal f.class 3 catches_missing_control
      (λ d3. catches_extra_control (class_last n (gates_of words) f is d1 d2 d3))))

-- and it is a vector of the circuit
pub test_lt : (n : ℕ) (words : List ℕ) (f : Fault) → Sound n words → is_fault n (gates_of words) f ≡ true → test_for n (gates_of words) f < 2 ^ n
unfolding test_for test_state
test_lt n words f ok is = backward-lt n (gates_of words) ok.gates_ok (test_level f) (test_state n f) (by_test (line_at_zero f)
    (λ t. rw t (force-lt n (all_ones n) f.line 0 (all_ones-lt n) (names-line n words f ok is)))
    (λ t. rw t (all_ones-lt n)))
