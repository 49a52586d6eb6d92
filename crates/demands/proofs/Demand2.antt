-- Demand 2, over the contracts: runs undo each other at every level; caught means exactly that the output of the faulty circuit differs, and each
-- class has its condition for that; complete means exactly that all faults of the class are caught, and otherwise the first uncaught fault and true
-- counts are shown. What each call answers stands in `Runs`, `Catching`, `Testing`, `Judging`, `Covering` and `Dropping`, in the words of
-- `Machine` and `FaultLists`; here stand the sentences of the demand that follow.
use Prim.Native.Nat.{ℕ, suc, ◌-◌, ◌*◌, ◌/◌, ◌%◌, ◌^◌, ◌≤◌}
use mathlib.Core.Path.{◌≡◌, refl, ap, subst}
use mathlib.Core.Logic.{◌↔◌, ◌⊎◌}
use mathlib.Core.List.{List, [], ◌∷◌}
use native.Mathlib.Omega.{arith}
use lib.ListN.{length}
use Rattle.refusals.specs.Answers.{told, told_word, told_yes}
use Rattle.basics.proofs.Tests.{by_equal}
use Rattle.words.specs.Word.{bit}
use Rattle.words.proofs.Bits.{word_ext_all}
use Rattle.refusals.specs.Tables.{Told}
use Rattle.refusals.specs.Tables.Told.{answered}
use Rattle.circuit.specs.declared.Gate.{Gate}
use Rattle.circuit.proofs.forward.Reads as forward
use Rattle.circuit.proofs.backward.Reads as backward
use Rattle.faults.specs.declared.Fault.{Fault}
use Rattle.simulator.proofs.catches.Reads as catches
use Rattle.multiple_faults.proofs.catches_multiple.Reads as catches-multiple
use Rattle.judge.specs.Answers.{verdict_values}
use Rattle.judge.proofs.judge.Reads as judge
use Rattle.judge.proofs.covering.cover.Reads as cover
use Rattle.answers.specs.declared.Run.{Run}
use Rattle.nufsadeem.proofs.nuf_forward.Reads as c-forward
use Rattle.nufsadeem.proofs.nuf_backward.Reads as c-backward
use Rattle.nufsadeem.proofs.nuf_catches.Reads as c-catches
use Rattle.nufsadeem.proofs.nuf_catches_multiple.Reads as c-catches-multiple
use Rattle.nufsadeem.proofs.judging.nuf_judge.Reads as c-judge
use Rattle.nufsadeem.proofs.judging.nuf_cover.Reads as c-cover
use Rattle.demands.proofs.Machine.{Control, Makes, gate, Circuit, Caught, CaughtTogether, site_total, Has, records, Multiple}
use Rattle.demands.proofs.Answering.{Answers, Ended}
use Rattle.demands.proofs.InC.{told_by, tells_answer, told_in_c, AnswersInC}
use Rattle.demands.proofs.Runs.{RunsForward, forward_means, forward_in_c, level_none, level_more, back_again, forth_again}
use Rattle.demands.proofs.Catching.{TellsCaught, TellsCaughtTogether, catches_means, catches_in_c}
use Rattle.demands.proofs.Catching.{catches_multiple_means, catches_multiple_in_c}
use Rattle.demands.proofs.Conditions.{Conditions, conditions, one_or_zero, told_caught_lem, told_together}
use Rattle.demands.proofs.Judging.{Judges, judge_means, judge_in_c, cover_means, cover_in_c}
use Rattle.demands.proofs.Completeness.{EveryCaught, FirstUncaught, Counted, only_told, complete_means, first_means, counts_mean, total_means}
use Rattle.demands.proofs.Demand1OfC as refusing-in-c

-- ---- a gate, over bits: what `Makes` says; that a run does this is `gate_makes_level`

-- bit j is the value of line j
pub bit_is : (s j : ℕ) → bit s j ≡ s / 2 ^ j % 2
unfolding bit
bit_is s j = refl

module _ (g : Gate) (s t : ℕ) (made : Makes g s t) where
  -- where all controls are 1 the target is inverted
  pub controls_1_invert : ((c : ℕ) → Control g c → bit s c ≡ 1) → bit t g.target ≡ 1 - bit s g.target
  controls_1_invert all = made.inverts all

  -- where some control is 0 nothing changes
  pub control_0_rests : (c : ℕ) → Control g c → bit s c ≡ 0 → t ≡ s
  control_0_rests c o z = word_ext_all t s (λ j. by_equal g.target j
      (λ e. subst (λ k. bit t k ≡ bit s k) e (made.rests (λ all. let one = all c o in omega arith)))
      (λ d. made.others j d))

  -- every other line stays
  pub other_lines_stay : (j : ℕ) → (g.target ≡ j → ⊥) → bit t j ≡ bit s j
  other_lines_stay j d = made.others j d

  -- a gate with no controls always inverts
  pub no_control_inverts : ((c : ℕ) → Control g c → ⊥) → bit t g.target ≡ 1 - bit s g.target
  no_control_inverts none = made.inverts (λ c o. absurd (none c o))

-- ---- levels, by runs of one circuit and input

pub level_0_is_input : (call : Ended forward.Post)
    → let (_, (_, (level, (input, _)))) = call.inputs in
    level ≡ 0 → (s : ℕ) → told_word call.result ≡ answered (s ∷ []) → s ≡ input
level_0_is_input call zero s t =
    let (lines, (gates, (_, (input, _)))) = call.inputs in
    level_none (subst (λ level. RunsForward lines gates.now level input (s ∷ [])) zero (forward_means.as_said call (s ∷ []) t))

-- gate i makes level i of level i - 1
pub gate_makes_level : (low high : Ended forward.Post)
    → let (lines, (gates, (level, (input, _)))) = low.inputs in
    let (lines', (gates', (level', (input', _)))) = high.inputs in
    (lines ≡ lines') × (gates.now ≡ gates'.now) × (suc level ≡ level') × (input ≡ input')
    → (s t : ℕ) → told_word low.result ≡ answered (s ∷ []) → told_word high.result ≡ answered (t ∷ [])
    → (gs : List Gate) × Circuit lines gates.now gs × (suc level ≤ length gs) × Makes (gate gs (suc level)) s t
gate_makes_level low high same s t e f =
    level_more (forward_means.as_said low (s ∷ []) e)
    (coe 1 0 (i. RunsForward (same.0 i) (same.1 i) (same.2 i) (same.3 i) (t ∷ [])) (forward_means.as_said high (t ∷ []) f))

-- the same in C
pub level_0_is_input_in_c : (call : Ended c-forward.Post)
    → let (_, (_, (level, (input, _)))) = call.inputs in
    level ≡ 0 → call.result.number ≡ 0 → call.result.state ≡ input
level_0_is_input_in_c call zero none =
    let (lines, (gates, (_, (input, _)))) = call.inputs in
    level_none (subst (λ level. RunsForward lines gates.now level input (call.result.state ∷ [])) zero (forward_in_c.as_said call none))

pub gate_makes_level_in_c : (low high : Ended c-forward.Post)
    → let (lines, (gates, (level, (input, _)))) = low.inputs in
    let (lines', (gates', (level', (input', _)))) = high.inputs in
    (lines ≡ lines') × (gates.now ≡ gates'.now) × (suc level ≡ level') × (input ≡ input')
    → low.result.number ≡ 0 → high.result.number ≡ 0
    → (gs : List Gate) × Circuit lines gates.now gs × (suc level ≤ length gs)
    × Makes (gate gs (suc level)) low.result.state high.result.state
gate_makes_level_in_c low high same e f =
    level_more (forward_in_c.as_said low e)
    (coe 1 0 (i. RunsForward (same.0 i) (same.1 i) (same.2 i) (same.3 i) (high.result.state ∷ [])) (forward_in_c.as_said high f))

-- ---- runs undo each other: of two runs of one circuit to and from one level, the second is given the state that the first tells, and tells what
-- the first was given

pub backward-after-forward : (first : Ended forward.Post) (second : Ended backward.Post)
    → let (lines, (gates, (level, (input, _)))) = first.inputs in
    let (lines', (gates', (level', (state, _)))) = second.inputs in
    (lines ≡ lines') × (gates.now ≡ gates'.now) × (level ≡ level')
    → told_word first.result ≡ answered (state ∷ []) → told_word second.result ≡ answered (input ∷ [])
backward-after-forward first second same told =
    let (lines, (gates, (level, (input, _)))) = first.inputs in
    let q = second.promised in
    back_again lines gates.now level input _ (told_word first.result) (told_word second.result) first.promised told cc

pub forward-after-backward : (first : Ended backward.Post) (second : Ended forward.Post)
    → let (lines, (gates, (level, (state, _)))) = first.inputs in
    let (lines', (gates', (level', (input, _)))) = second.inputs in
    (lines ≡ lines') × (gates.now ≡ gates'.now) × (level ≡ level')
    → told_word first.result ≡ answered (input ∷ []) → told_word second.result ≡ answered (state ∷ [])
forward-after-backward first second same told =
    let (lines, (gates, (level, (state, _)))) = first.inputs in
    let q = second.promised in
    forth_again lines gates.now level state _ (told_word first.result) (told_word second.result) first.promised told cc

-- the same in C: a number that is 0, and the state
abbrev struct_tells : Run → Told
struct_tells r = told_by r.number r.place (r.state ∷ [])

pub backward_after_forward_in_c : (first : Ended c-forward.Post) (second : Ended c-backward.Post)
    → let (lines, (gates, (level, (input, _)))) = first.inputs in
    let (lines', (gates', (level', (state, _)))) = second.inputs in
    (lines ≡ lines') × (gates.now ≡ gates'.now) × (level ≡ level')
    → first.result.number ≡ 0 → first.result.state ≡ state
    → (second.result.number ≡ 0) × (second.result.state ≡ input)
backward_after_forward_in_c first second same none told =
    let (lines, (gates, (level, (input, _)))) = first.inputs in
    let (_, (_, (_, (state, _)))) = second.inputs in
    let p = told_in_c 1 refusing-in-c.forward_refuses first _ first.promised in
    let q = told_in_c 1 refusing-in-c.backward_refuses second _ second.promised in
    let given = (tells_answer _ first.result.place _ (state ∷ [])).1 (none, ap (λ s. s ∷ []) told) in
    let w = (tells_answer _ _ (second.result.state ∷ []) (input ∷ [])).0
    (back_again lines gates.now level input state (struct_tells first.result) (struct_tells second.result) p given cc) in
    (w.0, let e = w.1 in cc)

pub forward_after_backward_in_c : (first : Ended c-backward.Post) (second : Ended c-forward.Post)
    → let (lines, (gates, (level, (state, _)))) = first.inputs in
    let (lines', (gates', (level', (input, _)))) = second.inputs in
    (lines ≡ lines') × (gates.now ≡ gates'.now) × (level ≡ level')
    → first.result.number ≡ 0 → first.result.state ≡ input
    → (second.result.number ≡ 0) × (second.result.state ≡ state)
forward_after_backward_in_c first second same none told =
    let (lines, (gates, (level, (state, _)))) = first.inputs in
    let (_, (_, (_, (input, _)))) = second.inputs in
    let p = told_in_c 1 refusing-in-c.backward_refuses first _ first.promised in
    let q = told_in_c 1 refusing-in-c.forward_refuses second _ second.promised in
    let given = (tells_answer _ first.result.place _ (input ∷ [])).1 (none, ap (λ s. s ∷ []) told) in
    let w = (tells_answer _ _ (second.result.state ∷ []) (state ∷ [])).0
    (forth_again lines gates.now level state input (struct_tells first.result) (struct_tells second.result) p given cc) in
    (w.0, let e = w.1 in cc)

-- ---- caught: 1 is told exactly if the output of the circuit with the fault in it differs, and exactly if the condition of the fault's class holds

pub record CaughtExactly (n : ℕ) (words : List ℕ) (x : ℕ) (f : Fault) (values : List ℕ) : Type 0 where
  pub gs : List Gate
  pub circuit : Circuit n words gs
  pub fault : Has n gs f
  pub only : (values ≡ 1 ∷ []) ⊎ (values ≡ 0 ∷ [])
  pub by_output : (values ≡ 1 ∷ []) ↔ Caught gs f x
  pub by_condition : Conditions gs f x values

caught_exactly : {n : ℕ} {words : List ℕ} {x : ℕ} {f : Fault} {values : List ℕ} → TellsCaught n words x f values → CaughtExactly n words x f values
caught_exactly w = record {
  gs = w.gs;
  circuit = w.circuit;
  fault = w.fault;
  only = one_or_zero w.says;
  by_output = told_caught_lem w;
  by_condition = conditions w;
}

pub catches_exactly : Answers catches.Post (λ κs. told_yes)
    (λ κs (lines, (gates, (vector, (fault, _)))) values e. CaughtExactly lines gates.now vector fault values)
catches_exactly = record { as_said = λ call values t. caught_exactly (catches_means.as_said call values t) }

pub catches_exactly_in_c : AnswersInC c-catches.Post (λ κs r. r.number) (λ κs r. r.caught ∷ [])
    (λ κs (lines, (gates, (vector, (fault, _)))) values e. CaughtExactly lines gates.now vector fault values)
catches_exactly_in_c = record { as_said = λ call z. caught_exactly (catches_in_c.as_said call z) }

-- of a multiple fault, only the whole faulty run decides
pub record TogetherExactly (n : ℕ) (words : List ℕ) (x : ℕ) (list values : List ℕ) : Type 0 where
  pub gs : List Gate
  pub circuit : Circuit n words gs
  pub fs : List Fault
  pub lent : list ≡ records fs
  pub multiple : Multiple n gs fs
  pub only : (values ≡ 1 ∷ []) ⊎ (values ≡ 0 ∷ [])
  pub by_output : (values ≡ 1 ∷ []) ↔ CaughtTogether gs fs x

together_exactly : {n : ℕ} {words : List ℕ} {x : ℕ} {list values : List ℕ} → TellsCaughtTogether n words x list values
    → TogetherExactly n words x list values
together_exactly w = record {
  gs = w.gs;
  circuit = w.circuit;
  fs = w.fs;
  lent = w.lent;
  multiple = w.multiple;
  only = one_or_zero w.says;
  by_output = told_together w;
}

pub catches_multiple_exactly : Answers catches-multiple.Post (λ κs. told_yes)
    (λ κs (lines, (gates, (vector, (entries, _)))) values e. TogetherExactly lines gates.now vector entries.now values)
catches_multiple_exactly = record { as_said = λ call values t. together_exactly (catches_multiple_means.as_said call values t) }

pub catches_multiple_exactly_in_c : AnswersInC c-catches-multiple.Post (λ κs r. r.number) (λ κs r. r.caught ∷ [])
    (λ κs (lines, (gates, (vector, (entries, _)))) values e. TogetherExactly lines gates.now vector entries.now values)
catches_multiple_exactly_in_c = record { as_said = λ call z. together_exactly (catches_multiple_in_c.as_said call z) }

-- ---- complete: exactly that every fault of the class is caught by some vector; otherwise the first that none catches is shown

pub record CompleteExactly (n : ℕ) (words xs : List ℕ) (class : ℕ) (values : List ℕ) : Type 0 where
  pub gs : List Gate
  pub circuit : Circuit n words gs
  -- two counts, and then 1 and four zeros, or 0 and a fault
  pub only : (number : ℕ) × (total : ℕ) × ((values ≡ number ∷ total ∷ 1 ∷ 0 ∷ 0 ∷ 0 ∷ 0 ∷ [])
      ⊎ ((f : Fault) × (values ≡ number ∷ total ∷ 0 ∷ f.class ∷ f.place ∷ f.line ∷ f.value ∷ [])))
  pub by_all : (number total flag : ℕ) (rest : List ℕ) → values ≡ number ∷ total ∷ flag ∷ rest → (flag ≡ 1) ↔ EveryCaught n gs class xs
  pub by_first : (number total : ℕ) (f : Fault) → values ≡ number ∷ total ∷ 0 ∷ f.class ∷ f.place ∷ f.line ∷ f.value ∷ []
      → FirstUncaught n gs class xs f
  -- the counts are true
  pub by_number : (number total : ℕ) (rest : List ℕ) → values ≡ number ∷ total ∷ rest → Counted n gs class xs number total
  -- and there are two stuck-at faults for each site
  pub by_sites : class ≡ 1 → (number total : ℕ) (rest : List ℕ) → values ≡ number ∷ total ∷ rest → total ≡ 2 * site_total n gs

complete_exactly : {n : ℕ} {words xs : List ℕ} {class : ℕ} {values : List ℕ} → Judges n words xs class values
    → CompleteExactly n words xs class values
complete_exactly w = record {
  gs = w.gs;
  circuit = w.circuit;
  only = only_told w;
  by_all = complete_means w;
  by_first = first_means w;
  by_number = counts_mean w;
  by_sites = total_means w;
}

pub judge_exactly : Answers judge.Post (λ κs. told verdict_values)
    (λ κs (lines, (gates, (vectors, (class, _)))) values e. CompleteExactly lines gates.now vectors.now class values)
judge_exactly = record { as_said = λ call values t. complete_exactly (judge_means.as_said call values t) }

pub judge_exactly_in_c : AnswersInC c-judge.Post (λ κs r. r.number)
    (λ κs r. r.caught ∷ r.total ∷ r.complete ∷ r.first.class ∷ r.first.place ∷ r.first.line ∷ r.first.value ∷ [])
    (λ κs (lines, (gates, (vectors, (class, _)))) values e. CompleteExactly lines gates.now vectors.now class values)
judge_exactly_in_c = record { as_said = λ call z. complete_exactly (judge_in_c.as_said call z) }

-- the same by way of a coverage
pub cover_exactly : Answers cover.Post (λ κs. told verdict_values)
    (λ κs (lines, (gates, (vectors, (class, _)))) values e. CompleteExactly lines gates.now vectors.now class values)
cover_exactly = record { as_said = λ call values t. complete_exactly (cover_means.as_said call values t) }

pub cover_exactly_in_c : AnswersInC c-cover.Post (λ κs r. r.number)
    (λ κs r. r.caught ∷ r.total ∷ r.complete ∷ r.first.class ∷ r.first.place ∷ r.first.line ∷ r.first.value ∷ [])
    (λ κs (lines, (gates, (vectors, (class, _)))) values e. CompleteExactly lines gates.now vectors.now class values)
cover_exactly_in_c = record { as_said = λ call z. complete_exactly (cover_in_c.as_said call z) }
