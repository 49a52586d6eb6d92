-- What the judge of a set answers, straight and by way of a coverage: how many faults of the class some vector catches, how many there are, and
-- complete or the first that none catches.
use Prim.Native.Nat.{ℕ}
use mathlib.Core.List.{List, [], ◌∷◌}
use Rattle.refusals.specs.Answers.{told}
use Rattle.basics.proofs.All.{all_map}
use Rattle.circuit.specs.Gates.{gates_of}
use Rattle.circuit.specs.Sound.{Sound}
use Rattle.circuit.specs.declared.Gate.{Gate}
use Rattle.faults.specs.declared.Fault.{Fault}
use Rattle.faults.specs.Classes.{class_faults}
use Rattle.judge.specs.Judging.{caught_by_some, verdict}
use Rattle.judge.specs.Answers.{verdict_values}
use Rattle.judge.proofs.RuleLaws.{judge_ok}
use Rattle.judge.proofs.judge.Reads as judge
use Rattle.judge.proofs.covering.cover.Reads as cover
use Rattle.nufsadeem.proofs.judging.nuf_judge.Reads as c-judge
use Rattle.nufsadeem.proofs.judging.nuf_cover.Reads as c-cover
use Rattle.demands.proofs.Machine.{Circuit}
use Rattle.demands.proofs.MachineLaws.{circuit-is}
use Rattle.demands.proofs.FaultLists.{Class, CaughtBySome, CaughtByNone, Verdict}
use Rattle.demands.proofs.ClassLaws.{class_is}
use Rattle.demands.proofs.VerdictLaws.{decides_some, told_of, verdict-is}
use Rattle.demands.proofs.Answering.{Answers, means}
use Rattle.demands.proofs.InC.{AnswersInC, means_in_c}
use Rattle.demands.proofs.Demand1 as refusing
use Rattle.demands.proofs.Demand1OfC as refusing-in-c

-- the verdict on the faults of the class, by whether some vector of the set catches them
pub record Judges (n : ℕ) (words xs : List ℕ) (class : ℕ) (values : List ℕ) : Type 0 where
  pub gs : List Gate
  pub circuit : Circuit n words gs
  pub faults : List Fault
  pub of_class : Class n gs class faults
  pub verdict : Verdict (CaughtBySome gs xs) (CaughtByNone gs xs) faults values

pub judges : (n : ℕ) (words xs : List ℕ) (class : ℕ) → Sound n words
    → Judges n words xs class (told_of (caught_by_some (gates_of words) xs) (class_faults n (gates_of words) class))
judges n words xs class ok =
    let gs : List Gate = gates_of words in
    let theirs = class_is n gs ok.gates_ok class in
    record {
      gs = gs;
      circuit = circuit-is n words ok;
      faults = class_faults n gs class;
      of_class = theirs;
      verdict = verdict-is (caught_by_some gs xs) (CaughtBySome gs xs) (CaughtByNone gs xs) (class_faults n gs class)
          (all_map (λ f k. decides_some n gs xs f k.1) (class_faults n gs class) theirs.each-is);
    }

-- ---- the calls

pub judge_means : Answers judge.Post (λ κs. told verdict_values)
    (λ κs (lines, (gates, (vectors, (class, _)))) values e. Judges lines gates.now vectors.now class values)
unfolding verdict
judge_means = means refusing.judge_refuses _ (λ κs a r e p. p) (λ κs a r e p u. judges _ _ _ _ (judge_ok _ _ _ _ u).set.set.circuit)

pub judge_in_c : AnswersInC c-judge.Post (λ κs r. r.number)
    (λ κs r. r.caught ∷ r.total ∷ r.complete ∷ r.first.class ∷ r.first.place ∷ r.first.line ∷ r.first.value ∷ [])
    (λ κs (lines, (gates, (vectors, (class, _)))) values e. Judges lines gates.now vectors.now class values)
unfolding verdict
judge_in_c = means_in_c 7 refusing-in-c.judge_refuses _ (λ κs a r e p. p) (λ κs a r e p u. judges _ _ _ _ (judge_ok _ _ _ _ u).set.set.circuit)

pub cover_means : Answers cover.Post (λ κs. told verdict_values)
    (λ κs (lines, (gates, (vectors, (class, _)))) values e. Judges lines gates.now vectors.now class values)
unfolding verdict
cover_means = means refusing.cover_refuses _ (λ κs a r e p. p) (λ κs a r e p u. judges _ _ _ _ (judge_ok _ _ _ _ u).set.set.circuit)

pub cover_in_c : AnswersInC c-cover.Post (λ κs r. r.number)
    (λ κs r. r.caught ∷ r.total ∷ r.complete ∷ r.first.class ∷ r.first.place ∷ r.first.line ∷ r.first.value ∷ [])
    (λ κs (lines, (gates, (vectors, (class, _)))) values e. Judges lines gates.now vectors.now class values)
unfolding verdict
cover_in_c = means_in_c 7 refusing-in-c.cover_refuses _ (λ κs a r e p. p) (λ κs a r e p u. judges _ _ _ _ (judge_ok _ _ _ _ u).set.set.circuit)
