-- What the runs answer: the state at a level, and the input that leads to a state at a level.
use Prim.Native.Nat.{ℕ, suc, ◌^◌, ◌≤◌, ◌<◌}
use mathlib.Core.Path.{◌≡◌, refl, sym, ap, ◌∙◌, subst}
use mathlib.Core.List.{List, [], ◌∷◌, ◌++◌}
use native.Mathlib.Omega.{arith}
use lib.ListN.{length, take}
use Rattle.refusals.specs.Tables.{Row, Told, first_of}
use Rattle.refusals.specs.Tables.Told.{answered}
use Rattle.refusals.specs.Answers.{fine, told_word}
use Rattle.refusals.proofs.Tables.{fine_on, fine_all, fine-parts, answered-fine}
use Rattle.circuit.specs.Gates.{gates_of, gate_at, no_gate}
use Rattle.circuit.specs.Runs.{step, run, forward, backward}
use Rattle.circuit.specs.Rules.{circuit_rows, vector_rows, level_rows, run_rows}
use Rattle.circuit.specs.Sound.{AllOk}
use Rattle.circuit.specs.declared.Gate.{Gate}
use Rattle.circuit.proofs.RuleLaws.{RunOk, run_ok}
use Rattle.circuit.proofs.RunLaws.{forward-lt, backward-lt, forward-backward, backward-forward, level_step, suc-sub-one}
use Rattle.circuit.proofs.forward.Reads as forward-call
use Rattle.circuit.proofs.backward.Reads as backward-call
use Rattle.judge.proofs.RuleLaws.{vector_passes}
use Rattle.nufsadeem.proofs.nuf_forward.Reads as c-forward
use Rattle.nufsadeem.proofs.nuf_backward.Reads as c-backward
use Rattle.demands.proofs.Machine.{Makes, Level, gate, Circuit}
use Rattle.demands.proofs.MachineLaws.{makes_step, runs_run, runs_is, circuit-is, circuit-one}
use Rattle.demands.proofs.Answering.{Answers, means}
use Rattle.demands.proofs.InC.{AnswersInC, means_in_c}
use Rattle.demands.proofs.Demand1 as refusing
use Rattle.demands.proofs.Demand1OfC as refusing-in-c

-- the values are one state of the circuit, which is the level of the input
pub record RunsForward (n : ℕ) (words : List ℕ) (level input : ℕ) (values : List ℕ) : Type 0 where
  pub gs : List Gate
  pub circuit : Circuit n words gs
  pub there : level ≤ length gs
  pub state : ℕ
  pub values-are : values ≡ state ∷ []
  pub is_level : Level gs level input state
  pub inside : state < 2 ^ n

-- the values are one input of the circuit, whose level is the state
pub record RunsBackward (n : ℕ) (words : List ℕ) (level state : ℕ) (values : List ℕ) : Type 0 where
  pub gs : List Gate
  pub circuit : Circuit n words gs
  pub there : level ≤ length gs
  pub input : ℕ
  pub values-are : values ≡ input ∷ []
  pub leads : Level gs level input state
  pub inside : input < 2 ^ n

module _ (n : ℕ) (words : List ℕ) (level state : ℕ) (unbroken : fine ≡ first_of (run_rows n words level state) fine) where
  abbrev ok : RunOk n words level state
  ok = run_ok n words level state unbroken

  abbrev its : List Gate
  its = gates_of words

  runs_forward : RunsForward n words level state (forward its level state ∷ [])
  unfolding forward
  runs_forward = record {
    gs = its;
    circuit = circuit-is n words ok.state.circuit;
    there = ok.level;
    state = forward its level state;
    values-are = refl;
    is_level = runs_run (take level its) state;
    inside = forward-lt n its ok.state.circuit.gates_ok level state ok.state.vector;
  }

  runs_backward : RunsBackward n words level state (backward its level state ∷ [])
  unfolding forward
  runs_backward =
      let x : ℕ = backward its level state in
      record {
        gs = its;
        circuit = circuit-is n words ok.state.circuit;
        there = ok.level;
        input = x;
        values-are = refl;
        leads = subst (Level its level x) (forward-backward n its ok.state.circuit.gates_ok level state) (runs_run (take level its) x);
        inside = backward-lt n its ok.state.circuit.gates_ok level state ok.state.vector;
      }

-- ---- the calls

pub forward_means : Answers forward-call.Post (λ κs. told_word)
    (λ κs (lines, (gates, (level, (state, _)))) values e. RunsForward lines gates.now level state values)
forward_means = means refusing.forward_refuses _ (λ κs a r e p. p) (λ κs a r e p u. runs_forward _ _ _ _ u)

pub backward_means : Answers backward-call.Post (λ κs. told_word)
    (λ κs (lines, (gates, (level, (state, _)))) values e. RunsBackward lines gates.now level state values)
backward_means = means refusing.backward_refuses _ (λ κs a r e p. p) (λ κs a r e p u. runs_backward _ _ _ _ u)

pub forward_in_c : AnswersInC c-forward.Post (λ κs r. r.number) (λ κs r. r.state ∷ [])
    (λ κs (lines, (gates, (level, (state, _)))) values e. RunsForward lines gates.now level state values)
forward_in_c = means_in_c 1 refusing-in-c.forward_refuses _ (λ κs a r e p. p) (λ κs a r e p u. runs_forward _ _ _ _ u)

pub backward_in_c : AnswersInC c-backward.Post (λ κs r. r.number) (λ κs r. r.state ∷ [])
    (λ κs (lines, (gates, (level, (state, _)))) values e. RunsBackward lines gates.now level state values)
backward_in_c = means_in_c 1 refusing-in-c.backward_refuses _ (λ κs a r e p. p) (λ κs a r e p u. runs_backward _ _ _ _ u)

-- ---- what follows of two runs of one circuit

-- level 0 is the input
pub level_none : {n : ℕ} {words : List ℕ} {x s : ℕ} → RunsForward n words 0 x (s ∷ []) → s ≡ x
level_none w = let e = w.is_level in let t = w.values-are in cc

-- gate i + 1 makes level i + 1 of level i
pub level_more : {n : ℕ} {words : List ℕ} {i x s t : ℕ} → RunsForward n words i x (s ∷ []) → RunsForward n words (suc i) x (t ∷ [])
    → (gs : List Gate) × Circuit n words gs × (suc i ≤ length gs) × Makes (gate gs (suc i)) s t
unfolding forward gate_at no_gate
level_more {n} {words} {i} {x} {s} {t} low high =
    let gs : List Gate = high.gs in
    let same : low.gs ≡ gs = circuit-one n n words low.gs gs low.circuit high.circuit in
    let from : s ≡ run (take i gs) x =
    (let e = low.values-are in cc) ∙ runs_is (take i gs) x low.state (subst (λ hs. Level hs i x low.state) same low.is_level) in
    let to : t ≡ run (take (suc i) gs) x = (let e = high.values-are in cc) ∙ runs_is (take (suc i) gs) x high.state high.is_level in
    let made : t ≡ step (gate gs (suc i)) s =
    to ∙ level_step gs (suc i) x (omega arith) high.there
    ∙ ap (λ k. step (gate gs (suc i)) (run (take k gs) x)) (suc-sub-one i) ∙ ap (step (gate gs (suc i))) (sym from) in
    (gs, high.circuit, high.there, subst (Makes (gate gs (suc i)) s) (sym made) (makes_step (gate gs (suc i)) s))

-- rules that one vector passes any other vector of the circuit passes
pub passes_too : (n : ℕ) (words : List ℕ) (s t : ℕ) (more : List Row)
    → fine ≡ first_of ((circuit_rows n words ++ vector_rows n s) ++ more) fine → t < 2 ^ n
    → fine ≡ first_of ((circuit_rows n words ++ vector_rows n t) ++ more) fine
passes_too n words s t more e h =
    let w = fine-parts (circuit_rows n words ++ vector_rows n s) more e in
    let v = fine-parts (circuit_rows n words) (vector_rows n s) w.0 in
    w.1 ∙ sym (fine_on (circuit_rows n words ++ vector_rows n t) more fine (vector_passes n words t v.0 h))

other_state : (n : ℕ) (words : List ℕ) (level s t : ℕ) → fine ≡ first_of (run_rows n words level s) fine → t < 2 ^ n
    → fine ≡ first_of (run_rows n words level t) fine
unfolding run_rows
other_state n words level s t e h = passes_too n words s t (level_rows words level) e h

-- a run of x to or from a level tells s, and the run of s the other way tells x
module _ (n : ℕ) (words : List ℕ) (level x s : ℕ) (first second : Told) where
  abbrev gates : List Gate
  gates = gates_of words

  module _ (run back : List Gate → ℕ → ℕ → ℕ) (undone : AllOk n gates → back gates level (run gates level x) ≡ x)
      (stays : AllOk n gates → x < 2 ^ n → run gates level x < 2 ^ n) where
    run_and_back : first ≡ first_of (run_rows n words level x) (answered (run gates level x ∷ [])) → first ≡ answered (s ∷ [])
        → second ≡ first_of (run_rows n words level s) (answered (back gates level s ∷ [])) → second ≡ answered (x ∷ [])
    run_and_back p told q =
        let w = answered-fine (run_rows n words level x) (s ∷ []) (run gates level x ∷ []) (sym told ∙ p) in
        let ok = run_ok n words level x w.1 in
        let sound : AllOk n gates = ok.state.circuit.gates_ok in
        let there : s ≡ run gates level x = cc in
        let fits : s < 2 ^ n = subst (λ t. t < 2 ^ n) (sym there) (stays sound ok.state.vector) in
        q ∙ sym (fine_all (run_rows n words level s) _ (other_state n words level x s w.1 fits))
        ∙ ap (λ t. answered (t ∷ [])) (ap (back gates level) there ∙ undone sound)

  pub back_again : first ≡ first_of (run_rows n words level x) (answered (forward gates level x ∷ [])) → first ≡ answered (s ∷ [])
      → second ≡ first_of (run_rows n words level s) (answered (backward gates level s ∷ [])) → second ≡ answered (x ∷ [])
  back_again = run_and_back forward backward (λ ok. backward-forward n gates ok level x) (λ ok h. forward-lt n gates ok level x h)

  pub forth_again : first ≡ first_of (run_rows n words level x) (answered (backward gates level x ∷ [])) → first ≡ answered (s ∷ [])
      → second ≡ first_of (run_rows n words level s) (answered (forward gates level s ∷ [])) → second ≡ answered (x ∷ [])
  forth_again = run_and_back backward forward (λ ok. forward-backward n gates ok level x) (λ ok h. backward-lt n gates ok level x h)
