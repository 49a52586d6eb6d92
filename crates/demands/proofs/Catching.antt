-- What is answered of a fault and a vector: the output of the circuit with the fault in it, and whether the vector catches it, alone or together
-- with others.
use Prim.Native.Nat.{ℕ, ◌≤◌}
use mathlib.Core.Path.{◌≡◌, refl}
use mathlib.Core.Bool.{Bool, true, false}
use mathlib.Core.List.{List, [], ◌∷◌}
use Rattle.basics.specs.Choice.{count}
use Rattle.basics.specs.Lists.{All}
use Rattle.basics.proofs.All.{all_map}
use Rattle.refusals.specs.Tables.{first_of}
use Rattle.refusals.specs.Answers.{fine, told_word, told_yes}
use Rattle.circuit.specs.Gates.{gates_of}
use Rattle.circuit.specs.declared.Gate.{Gate}
use Rattle.simulator.specs.Faulty.{faulty, caught}
use Rattle.simulator.specs.Rules.{catch_rows}
use Rattle.faults.specs.Records.{faults_of}
use Rattle.multiple_faults.specs.Multiple.{caught_together}
use Rattle.multiple_faults.specs.Rules.{multiple_rows}
use Rattle.faults.specs.declared.Fault.{Fault}
use Rattle.simulator.proofs.RuleLaws.{catch_ok}
use Rattle.multiple_faults.proofs.RuleLaws.{multiple_ok}
use Rattle.simulator.proofs.faulty_run.Reads as faulty-run
use Rattle.simulator.proofs.catches.Reads as catches
use Rattle.multiple_faults.proofs.catches_multiple.Reads as catches-multiple
use Rattle.nufsadeem.proofs.nuf_catches.Reads as c-catches
use Rattle.nufsadeem.proofs.nuf_catches_multiple.Reads as c-catches-multiple
use Rattle.demands.proofs.Machine.{Circuit, FaultyRuns, Caught, Missed, CaughtTogether, MissedTogether, Has, records, Multiple}
use Rattle.demands.proofs.MachineLaws.{circuit-is}
use Rattle.demands.proofs.HasLaws.{has_of, has_value}
use Rattle.demands.proofs.ValidLists.{multiple_is}
use Rattle.demands.proofs.FaultyLaws.{faulty-faulty, caught_means, missed_means, together_means, missed_together_means}
use Rattle.demands.proofs.Answering.{Answers, means}
use Rattle.demands.proofs.InC.{AnswersInC, means_in_c}
use Rattle.demands.proofs.Demand1 as refusing
use Rattle.demands.proofs.Demand1OfC as refusing-in-c

-- ---- what the values are

-- the output of the circuit with the fault in it
pub record GivesFaulty (n : ℕ) (words : List ℕ) (x : ℕ) (f : Fault) (values : List ℕ) : Type 0 where
  pub gs : List Gate
  pub circuit : Circuit n words gs
  pub fault : Has n gs f
  pub output : ℕ
  pub values-are : values ≡ output ∷ []
  pub is-faulty : FaultyRuns gs f x output

-- 1 where the first holds, and 0 where the second does
pub data Says (First Second : Type 0) (values : List ℕ) : Type 0 where
  says_1 : First → values ≡ 1 ∷ [] → Says First Second values
  says_0 : Second → values ≡ 0 ∷ [] → Says First Second values

-- 1 where the vector catches the fault, and 0 where it misses it
pub record TellsCaught (n : ℕ) (words : List ℕ) (x : ℕ) (f : Fault) (values : List ℕ) : Type 0 where
  pub gs : List Gate
  pub circuit : Circuit n words gs
  pub fault : Has n gs f
  pub says : Says (Caught gs f x) (Missed gs f x) values

-- the same of several together, which the list names by four words each
pub record TellsCaughtTogether (n : ℕ) (words : List ℕ) (x : ℕ) (list values : List ℕ) : Type 0 where
  pub gs : List Gate
  pub circuit : Circuit n words gs
  pub fs : List Fault
  pub lent : list ≡ records fs
  pub multiple : Multiple n gs fs
  pub says : Says (CaughtTogether gs fs x) (MissedTogether gs fs x) values

-- ---- the promised values are so

says_by : {First Second : Type 0} (b : Bool) → (b ≡ true → First) → (b ≡ false → Second) → Says First Second (count b ∷ [])
says_by true one none = says_1 (one refl) refl
says_by false one none = says_0 (none refl) refl

module _ (n : ℕ) (words : List ℕ) (x : ℕ) where
  abbrev gates : List Gate
  gates = gates_of words

  module _ (f : Fault) (unbroken : fine ≡ first_of (catch_rows n words x f) fine) where
    gives_faulty : GivesFaulty n words x f (faulty gates f x ∷ [])
    gives_faulty =
        let ok = catch_ok n words x f unbroken in
        let has = has_of n gates f ok.fault in
        record {
          gs = gates;
          circuit = circuit-is n words ok.vector.circuit;
          fault = has;
          output = faulty gates f x;
          values-are = refl;
          is-faulty = faulty-faulty n gates f has x;
        }

    tells-caught : TellsCaught n words x f (count (caught gates f x) ∷ [])
    tells-caught =
        let ok = catch_ok n words x f unbroken in
        let has = has_of n gates f ok.fault in
        record {
          gs = gates;
          circuit = circuit-is n words ok.vector.circuit;
          fault = has;
          says = says_by (caught gates f x) (caught_means n gates f has x).0 (missed_means n gates f has x).0;
        }

  tells_together : (list : List ℕ) → fine ≡ first_of (multiple_rows n words x list) fine
      → TellsCaughtTogether n words x list (count (caught_together gates (faults_of list) x) ∷ [])
  tells_together list unbroken =
      let ok = multiple_ok n words x list unbroken in
      let w = multiple_is n words x list unbroken in
      let fs : List Fault = faults_of list in
      let values : All (λ f. f.value ≤ 1) fs = all_map (λ f k. has_value n gates f k.1 k.0) fs w.1.stuck in
      record {
        gs = gates;
        circuit = circuit-is n words ok.vector.circuit;
        fs = fs;
        lent = w.0;
        multiple = w.1;
        says = says_by (caught_together gates fs x)
            (together_means gates fs values w.1.once x).0
            (missed_together_means gates fs values w.1.once x).0;
      }

-- ---- the calls

pub faulty_run_means : Answers faulty-run.Post (λ κs. told_word)
    (λ κs (lines, (gates, (vector, (fault, _)))) values e. GivesFaulty lines gates.now vector fault values)
faulty_run_means = means refusing.faulty_run_refuses _ (λ κs a r e p. p) (λ κs a r e p u. gives_faulty _ _ _ _ u)

pub catches_means : Answers catches.Post (λ κs. told_yes)
    (λ κs (lines, (gates, (vector, (fault, _)))) values e. TellsCaught lines gates.now vector fault values)
catches_means = means refusing.catches_refuses _ (λ κs a r e p. p) (λ κs a r e p u. tells-caught _ _ _ _ u)

pub catches_in_c : AnswersInC c-catches.Post (λ κs r. r.number) (λ κs r. r.caught ∷ [])
    (λ κs (lines, (gates, (vector, (fault, _)))) values e. TellsCaught lines gates.now vector fault values)
catches_in_c = means_in_c 1 refusing-in-c.catches_refuses _ (λ κs a r e p. p) (λ κs a r e p u. tells-caught _ _ _ _ u)

pub catches_multiple_means : Answers catches-multiple.Post (λ κs. told_yes)
    (λ κs (lines, (gates, (vector, (entries, _)))) values e. TellsCaughtTogether lines gates.now vector entries.now values)
catches_multiple_means = means refusing.catches_multiple_refuses _ (λ κs a r e p. p) (λ κs a r e p u. tells_together _ _ _ _ u)

pub catches_multiple_in_c : AnswersInC c-catches-multiple.Post (λ κs r. r.number) (λ κs r. r.caught ∷ [])
    (λ κs (lines, (gates, (vector, (entries, _)))) values e. TellsCaughtTogether lines gates.now vector entries.now values)
catches_multiple_in_c = means_in_c 1 refusing-in-c.catches_multiple_refuses _ (λ κs a r e p. p) (λ κs a r e p u. tells_together _ _ _ _ u)
