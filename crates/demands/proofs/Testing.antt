-- What is answered for the test of one fault: a vector worked backward from a state of all ones, save one line; it catches the fault.
use Prim.Native.Nat.{ℕ, ◌-◌, ◌^◌, ◌<◌}
use mathlib.Core.Path.{◌≡◌, refl, ap, ◌∙◌, subst}
use mathlib.Core.Logic.{◌≢◌}
use mathlib.Core.Bool.{true}
use mathlib.Core.List.{List, [], ◌∷◌}
use native.Mathlib.Omega.{arith}
use lib.ListN.{take}
use Rattle.basics.proofs.Tests.{by_equal}
use Rattle.words.specs.Word.{bit, force, all_ones}
use Rattle.words.proofs.Lines.{bit-force-same, bit_force_other}
use Rattle.words.proofs.Masks.{bit-all_ones}
use Rattle.refusals.specs.Tables.{first_of}
use Rattle.refusals.specs.Answers.{fine, told_word}
use Rattle.circuit.specs.Gates.{gates_of}
use Rattle.circuit.specs.Runs.{forward}
use Rattle.circuit.specs.declared.Gate.{Gate}
use Rattle.circuit.proofs.RunLaws.{forward-backward}
use Rattle.faults.specs.Rules.{is_fault}
use Rattle.fault_test.specs.Rules.{test_rows}
use Rattle.fault_test.specs.Tests.{test_level, test_state, test_for}
use Rattle.faults.specs.declared.Fault.{Fault}
use Rattle.fault_test.proofs.RuleLaws.{TestOk, test_ok}
use Rattle.faults.proofs.RuleLaws.{class_last}
use Rattle.fault_test.proofs.TestLaws.{level_stuck, level_gate, state_stuck_one, state_stuck_zero, state_missing_gate, state_missing_control}
use Rattle.fault_test.proofs.TestLaws.{state_extra_control, test_catches, test_lt}
use Rattle.fault_test.proofs.test_for.Reads as test-for
use Rattle.nufsadeem.proofs.nuf_test_for.Reads as c-test-for
use Rattle.demands.proofs.Machine.{Level, Circuit, Caught, Has}
use Rattle.demands.proofs.MachineLaws.{runs_run, circuit-is}
use Rattle.demands.proofs.HasLaws.{has_of}
use Rattle.demands.proofs.FaultyLaws.{caught_means}
use Rattle.demands.proofs.Answering.{Answers, means}
use Rattle.demands.proofs.InC.{AnswersInC, means_in_c}
use Rattle.demands.proofs.Demand1 as refusing
use Rattle.demands.proofs.Demand1OfC as refusing-in-c

-- a test has one line at 0 for stuck-at-1, and for classes 3 and 4: the line that is named
pub data NamesZero (f : Fault) : Type 0 where
  stuck_at_1_lem : f.class ≡ 1 → f.value ≡ 1 → NamesZero f
  missing_control : f.class ≡ 3 → NamesZero f
  extra_control : f.class ≡ 4 → NamesZero f

-- the vector that gives at the fault's level, for a gate fault the level that the gate reads, all lines 1 save that one; it catches the fault
pub record Tests (n : ℕ) (words : List ℕ) (f : Fault) (values : List ℕ) : Type 0 where
  pub gs : List Gate
  pub circuit : Circuit n words gs
  pub fault : Has n gs f
  pub vector : ℕ
  pub values-are : values ≡ vector ∷ []
  pub inside : vector < 2 ^ n
  pub state : ℕ
  pub at_level : f.class ≡ 1 → Level gs f.place vector state
  pub at_gate : f.class ≢ 1 → Level gs (f.place - 1) vector state
  pub zero : NamesZero f → bit state f.line ≡ 0
  pub ones : (j : ℕ) → j < n → (NamesZero f → f.line ≢ j) → bit state j ≡ 1
  pub catches : Caught gs f vector

-- ---- the promised vector is so

module _ (n : ℕ) (f : Fault) where
  -- the state that it is worked backward from
  forced_zero : test_state n f ≡ force (all_ones n) f.line 0 → bit (test_state n f) f.line ≡ 0
  forced_zero e = ap (λ s. bit s f.line) e ∙ bit-force-same (all_ones n) f.line 0 (omega arith)

  zero_there : NamesZero f → bit (test_state n f) f.line ≡ 0
  zero_there (stuck_at_1_lem e v) = forced_zero (state_stuck_one n f e v)
  zero_there (missing_control e) = forced_zero (state_missing_control n f e)
  zero_there (extra_control e) = forced_zero (state_extra_control n f e)

  module _ (j : ℕ) (below : j < n) where
    forced_one : test_state n f ≡ force (all_ones n) f.line 0 → f.line ≢ j → bit (test_state n f) j ≡ 1
    forced_one e d = ap (λ s. bit s j) e ∙ bit_force_other (all_ones n) f.line 0 j d ∙ bit-all_ones n j below

    all_one : test_state n f ≡ all_ones n → bit (test_state n f) j ≡ 1
    all_one e = ap (λ s. bit s j) e ∙ bit-all_ones n j below

    ones_there : (gs : List Gate) → is_fault n gs f ≡ true → (NamesZero f → f.line ≢ j) → bit (test_state n f) j ≡ 1
    ones_there gs is other = by_equal f.class 1
        (λ e. by_equal f.value 1
        (λ v. forced_one (state_stuck_one n f e v) (other (stuck_at_1_lem e v)))
        (λ v. all_one (state_stuck_zero n f e v)))
        (λ a. by_equal f.class 2
        (λ e. all_one (state_missing_gate n f e))
        (λ b. by_equal f.class 3
        (λ e. forced_one (state_missing_control n f e) (other (missing_control e)))
        (λ c. let e = class_last n gs f is a b c in forced_one (state_extra_control n f e) (other (extra_control e)))))

module _ (n : ℕ) (words : List ℕ) (f : Fault) (unbroken : fine ≡ first_of (test_rows n words f) fine) where
  abbrev its : List Gate
  its = gates_of words

  abbrev ok : TestOk n words f
  ok = test_ok n words f unbroken

  seen : Level its (test_level f) (test_for n its f) (test_state n f)
  unfolding test_for forward
  seen = subst (Level its (test_level f) (test_for n its f)) (forward-backward n its ok.circuit.gates_ok (test_level f) (test_state n f))
      (runs_run (take (test_level f) its) (test_for n its f))

  tests : Tests n words f (test_for n its f ∷ [])
  tests =
      let has = has_of n its f ok.fault in
      record {
        gs = its;
        circuit = circuit-is n words ok.circuit;
        fault = has;
        vector = test_for n its f;
        values-are = refl;
        inside = test_lt n words f ok.circuit ok.fault;
        state = test_state n f;
        at_level = λ e. subst (λ i. Level its i (test_for n its f) (test_state n f)) (level_stuck f e) seen;
        at_gate = λ d. subst (λ i. Level its i (test_for n its f) (test_state n f)) (level_gate f d) seen;
        zero = zero_there n f;
        ones = λ j h other. ones_there n f j h its ok.fault other;
        catches = (caught_means n its f has (test_for n its f)).0 (test_catches n words f ok.circuit ok.fault);
      }

-- ---- the call

pub test_for_means : Answers test-for.Post (λ κs. told_word)
    (λ κs (lines, (gates, (fault, _))) values e. Tests lines gates.now fault values)
test_for_means = means refusing.test_for_refuses _ (λ κs a r e p. p) (λ κs a r e p u. tests _ _ _ u)

pub test_for_in_c : AnswersInC c-test-for.Post (λ κs r. r.number) (λ κs r. r.vector ∷ [])
    (λ κs (lines, (gates, (fault, _))) values e. Tests lines gates.now fault values)
test_for_in_c = means_in_c 1 refusing-in-c.test_for_refuses _ (λ κs a r e p. p) (λ κs a r e p u. tests _ _ _ u)
