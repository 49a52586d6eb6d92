-- Nothing is lost by what is no site, over the contracts: where the judge tells class 1 as complete, and of both sets that are made, any line stuck
-- at any level is caught, and any number of them together.
use Prim.Native.Nat.{ℕ}
use mathlib.Core.Path.{◌≡◌, refl, subst}
use mathlib.Core.List.{List, [], ◌∷◌, Memᴰ}
use lib.ListN.{take}
use Rattle.refusals.specs.Answers.{told, told_word}
use Rattle.basics.proofs.All.{all_map}
use Rattle.circuit.specs.declared.Gate.{Gate}
use Rattle.faults.specs.declared.Fault.{Fault}
use Rattle.judge.specs.Answers.{verdict_values}
use Rattle.judge.proofs.judge.Reads as judge
use Rattle.judge.proofs.covering.cover.Reads as cover
use Rattle.testsets.proofs.backward_set.Reads as backward-set
use Rattle.testsets.proofs.compact_set.Reads as compact-set
use Rattle.nufsadeem.proofs.judging.nuf_judge.Reads as c-judge
use Rattle.nufsadeem.proofs.judging.nuf_cover.Reads as c-cover
use Rattle.nufsadeem.proofs.nuf_backward_set.Reads as c-backward-set
use Rattle.nufsadeem.proofs.nuf_compact_set.Reads as c-compact-set
use Rattle.demands.proofs.Machine.{Circuit, CaughtTogether}
use Rattle.demands.proofs.MachineLaws.{circuit_ok}
use Rattle.demands.proofs.FaultyLaws.{together_means}
use Rattle.demands.proofs.FaultLists.{CaughtBySome}
use Rattle.demands.proofs.Completeness.{EveryCaught, complete_means}
use Rattle.demands.proofs.StuckLines.{StuckLine, StuckLines, any_caught, together_caught}
use Rattle.demands.proofs.Judging.{Judges, judge_means, judge_in_c, cover_means, cover_in_c}
use Rattle.demands.proofs.Sets.{Stands, in_front_lem, backward_set_means, backward_set_in_c, compact_set_means, compact_set_in_c}
use Rattle.demands.proofs.Answering.{Answers}
use Rattle.demands.proofs.InC.{AnswersInC}

-- a circuit of which a set catches all that
pub record AnyLineCaught (n : ℕ) (words xs : List ℕ) : Type 0 where
  pub gs : List Gate
  pub circuit : Circuit n words gs
  pub single : (f : Fault) → StuckLine n gs f → CaughtBySome gs xs f
  pub together : (fs : List Fault) → StuckLines n gs fs → (v : ℕ) × Memᴰ v xs × CaughtTogether gs fs v

catches_any : (n : ℕ) (words xs : List ℕ) (gs : List Gate) → Circuit n words gs → EveryCaught n gs 1 xs → AnyLineCaught n words xs
catches_any n words xs gs circuit every = record {
  gs = gs;
  circuit = circuit;
  single = any_caught n gs xs every;
  together = λ fs are.
      let w = together_caught n gs xs every (circuit_ok n words gs circuit) fs are in
      let values = all_map (λ f (is : StuckLine n gs f). is.value_in) fs are.stuck in
      (w.0, w.1, (together_means gs fs values are.once w.0).0 w.2);
}

-- ---- where the judge says complete of class 1

abbrev pub CompleteForAny : ℕ → List ℕ → List ℕ → ℕ → List ℕ → Type 0
CompleteForAny n words xs class values =
    (number total : ℕ) (rest : List ℕ) → class ≡ 1 → values ≡ number ∷ total ∷ 1 ∷ rest → AnyLineCaught n words xs

complete_for_any : {n : ℕ} {words xs : List ℕ} {class : ℕ} {values : List ℕ} → Judges n words xs class values → CompleteForAny n words xs class values
complete_for_any {n} {words} {xs} w number total rest one e =
    catches_any n words xs w.gs w.circuit (subst (λ k. EveryCaught n w.gs k xs) one ((complete_means w number total 1 rest e).0 refl))

pub judge_any_line : Answers judge.Post (λ κs. told verdict_values)
    (λ κs (lines, (gates, (vectors, (class, _)))) values e. CompleteForAny lines gates.now vectors.now class values)
judge_any_line = record { as_said = λ call values t. complete_for_any (judge_means.as_said call values t) }

pub judge_any_line_in_c : AnswersInC c-judge.Post (λ κs r. r.number)
    (λ κs r. r.caught ∷ r.total ∷ r.complete ∷ r.first.class ∷ r.first.place ∷ r.first.line ∷ r.first.value ∷ [])
    (λ κs (lines, (gates, (vectors, (class, _)))) values e. CompleteForAny lines gates.now vectors.now class values)
judge_any_line_in_c = record { as_said = λ call z. complete_for_any (judge_in_c.as_said call z) }

pub cover_any_line : Answers cover.Post (λ κs. told verdict_values)
    (λ κs (lines, (gates, (vectors, (class, _)))) values e. CompleteForAny lines gates.now vectors.now class values)
cover_any_line = record { as_said = λ call values t. complete_for_any (cover_means.as_said call values t) }

pub cover_any_line_in_c : AnswersInC c-cover.Post (λ κs r. r.number)
    (λ κs r. r.caught ∷ r.total ∷ r.complete ∷ r.first.class ∷ r.first.place ∷ r.first.line ∷ r.first.value ∷ [])
    (λ κs (lines, (gates, (vectors, (class, _)))) values e. CompleteForAny lines gates.now vectors.now class values)
cover_any_line_in_c = record { as_said = λ call z. complete_for_any (cover_in_c.as_said call z) }

-- ---- both sets, as they stand at the front of the room

abbrev pub FrontForAny : ℕ → List ℕ → List ℕ → List ℕ → Type 0
FrontForAny n words values exit = (k : ℕ) → values ≡ k ∷ [] → AnyLineCaught n words (take k exit)

front_for_any : {n : ℕ} {words set room values exit : List ℕ} {gs : List Gate} → Circuit n words gs → Stands n gs set room values exit
    → FrontForAny n words values exit
front_for_any {n} {words} {set} {gs = gs} circuit stands k e =
    subst (AnyLineCaught n words) (in_front_lem stands k e) (catches_any n words set gs circuit stands.catches_all)

pub backward_any_line : Answers backward-set.Post (λ κs. told_word)
    (λ κs (lines, (gates, _)) values (_, (_, (room-after, _))). FrontForAny lines gates.now values room-after.now)
backward_any_line = record { as_said = λ call values t. let w = backward_set_means.as_said call values t in front_for_any w.circuit w.stands }

pub backward_any_line_in_c : AnswersInC c-backward-set.Post (λ κs r. r.number) (λ κs r. r.count ∷ [])
    (λ κs (lines, (gates, _)) values (_, (_, (room-after, _))). FrontForAny lines gates.now values room-after.now)
backward_any_line_in_c = record { as_said = λ call z. let w = backward_set_in_c.as_said call z in front_for_any w.circuit w.stands }

pub compact_any_line : Answers compact-set.Post (λ κs. told_word)
    (λ κs (lines, (gates, _)) values (_, (_, (room-after, _))). FrontForAny lines gates.now values room-after.now)
compact_any_line = record { as_said = λ call values t. let w = compact_set_means.as_said call values t in front_for_any w.circuit w.stands }

pub compact_any_line_in_c : AnswersInC c-compact-set.Post (λ κs r. r.number) (λ κs r. r.count ∷ [])
    (λ κs (lines, (gates, _)) values (_, (_, (room-after, _))). FrontForAny lines gates.now values room-after.now)
compact_any_line_in_c = record { as_said = λ call z. let w = compact_set_in_c.as_said call z in front_for_any w.circuit w.stands }
