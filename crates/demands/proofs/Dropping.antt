-- What dropping leaves of a list of fault records: those that the vector misses at the front, in their old order, and blank records after them.
use Prim.Native.Nat.{ℕ, ◌-◌, ◌^◌, ◌≤◌, ◌<◌}
use mathlib.Core.Path.{◌≡◌, refl, sym, ap, ◌∙◌, subst}
use mathlib.Core.List.{List, [], ◌∷◌, ◌++◌}
use native.Mathlib.Nat.{min-eq_left, min-eq_right}
use native.Mathlib.Omega.{arith}
use lib.ListN.{length, replicate}
use Rattle.basics.specs.Lists.{All}
use Rattle.basics.proofs.All.{all_map}
use Rattle.refusals.specs.Tables.{first_of, after}
use Rattle.refusals.specs.Answers.{fine, told_word}
use Rattle.refusals.specs.Places.{in_word}
use Rattle.refusals.proofs.Tables.{after-fine}
use Rattle.circuit.specs.Gates.{gates_of}
use Rattle.circuit.specs.Sound.{Sound}
use Rattle.circuit.specs.declared.Gate.{Gate}
use Rattle.simulator.specs.Faulty.{caught}
use Rattle.faults.specs.Records.{faults_of, no_fault}
use Rattle.faults.specs.declared.Fault.{Fault}
use Rattle.dropping.specs.Dropping.{uncaught, dropped, words_of}
use Rattle.dropping.specs.Records.{AllFaults}
use Rattle.dropping.specs.Rules.{drop_rows, drop_records_rows}
use Rattle.dropping.proofs.RuleLaws.{drop_ok, drop_records_ok}
use Rattle.dropping.proofs.drop.Reads as drop
use Rattle.dropping.proofs.drop_records.Reads as drop-records
use Rattle.nufsadeem.proofs.nuf_drop.Reads as c-drop
use Rattle.nufsadeem.proofs.nuf_drop_records.Reads as c-drop-records
use Rattle.demands.proofs.Machine.{Circuit, Caught, Missed, Has, records}
use Rattle.demands.proofs.MachineLaws.{circuit-is}
use Rattle.demands.proofs.HasLaws.{has_of, records_faults}
use Rattle.demands.proofs.FaultLists.{Kept}
use Rattle.demands.proofs.VerdictLaws.{kept_keep, decides_caught, decides_not}
use Rattle.demands.proofs.Answering.{Answers, means}
use Rattle.demands.proofs.InC.{AnswersInC, means_in_c}
use Rattle.demands.proofs.Demand1 as refusing
use Rattle.demands.proofs.Demand1OfC as refusing-in-c

-- a blank record is all zero
abbrev pub blank : Fault
blank = record { class = 0; place = 0; line = 0; value = 0 }

-- of the faults fs those are left that the vector misses; their number is told, as far as a word can tell it
pub record Drops (n : ℕ) (words : List ℕ) (x : ℕ) (fs : List Fault) (values : List ℕ) (exit : List Fault) : Type 0 where
  pub gs : List Gate
  pub circuit : Circuit n words gs
  pub each-is : All (Has n gs) fs
  pub left : List Fault
  pub left-are : Kept (λ f. Missed gs f x) (λ f. Caught gs f x) fs left
  pub values-are : length left < 2 ^ 32 → values ≡ length left ∷ []
  pub values-most : 2 ^ 32 ≤ length left → values ≡ (2 ^ 32 - 1) ∷ []
  pub front : exit ≡ left ++ replicate (length fs - length left) blank

-- the same of a plain list, four words a record
pub record DropsPlain (n : ℕ) (words : List ℕ) (x : ℕ) (list values exit : List ℕ) : Type 0 where
  pub faults : List Fault
  pub lent : list ≡ records faults
  pub faults-after : List Fault
  pub at_exit : exit ≡ records faults-after
  pub drops : Drops n words x faults values faults-after

-- ---- the promised list is so

numbers_records : (fs : List Fault) → words_of fs ≡ records fs
unfolding words_of
numbers_records [] = refl
numbers_records (f ∷ fs) = ap (λ more. f.class ∷ f.place ∷ f.line ∷ f.value ∷ more) (numbers_records fs)

in_word_lem : (k : ℕ) → k < 2 ^ 32 → in_word k ≡ k
unfolding in_word
in_word_lem k h = min-eq_left (omega arith)

in_word-most : (k : ℕ) → 2 ^ 32 ≤ k → in_word k ≡ 2 ^ 32 - 1
unfolding in_word
in_word-most k h = min-eq_right (omega arith)

drops : (n : ℕ) (words : List ℕ) (x : ℕ) (fs : List Fault) → Sound n words → AllFaults n (gates_of words) fs
    → Drops n words x fs (in_word (length (uncaught (gates_of words) x fs)) ∷ []) (dropped (gates_of words) x fs)
unfolding uncaught dropped no_fault
drops n words x fs ok all =
    let its : List Gate = gates_of words in
    let has : All (Has n its) fs = all_map (λ f e. has_of n its f e) fs all in
    record {
      gs = its;
      circuit = circuit-is n words ok;
      each-is = has;
      left = uncaught its x fs;
      left-are = kept_keep _ _ _ fs
          (all_map (λ f h. decides_not (λ k. caught its k x) (λ k. Caught its k x) (λ k. Missed its k x) f (decides_caught n its x f h)) fs has);
      values-are = λ h. ap (λ k. k ∷ []) (in_word_lem _ h);
      values-most = λ h. ap (λ k. k ∷ []) (in_word-most _ h);
      front = refl;
    }

drops_records : (n : ℕ) (words : List ℕ) (x : ℕ) (fs exit : List Fault) → fine ≡ first_of (drop_records_rows n words x fs) fine
    → exit ≡ after (drop_records_rows n words x fs) (dropped (gates_of words) x fs) fs
    → Drops n words x fs (in_word (length (uncaught (gates_of words) x fs)) ∷ []) exit
drops_records n words x fs exit unbroken made =
    let ok = drop_records_ok n words x fs unbroken in
    subst (Drops n words x fs (in_word (length (uncaught (gates_of words) x fs)) ∷ []))
    (after-fine (drop_records_rows n words x fs) _ _ unbroken ∙ sym made) (drops n words x fs ok.vector.circuit ok.faults)

drops_plain : (n : ℕ) (words : List ℕ) (x : ℕ) (list exit : List ℕ) → fine ≡ first_of (drop_rows n words x list) fine
    → exit ≡ after (drop_rows n words x list) (words_of (dropped (gates_of words) x (faults_of list))) list
    → DropsPlain n words x list (in_word (length (uncaught (gates_of words) x (faults_of list))) ∷ []) exit
drops_plain n words x list exit unbroken made =
    let ok = drop_ok n words x list unbroken in
    let fs : List Fault = faults_of list in
    record {
      faults = fs;
      lent = records_faults list ok.whole;
      faults-after = dropped (gates_of words) x fs;
      at_exit = made ∙ sym (after-fine (drop_rows n words x list) _ _ unbroken) ∙ numbers_records (dropped (gates_of words) x fs);
      drops = drops n words x fs ok.vector.circuit ok.faults;
    }

-- ---- the calls

pub drop_means : Answers drop.Post (λ κs. told_word)
    (λ κs (lines, (gates, (vector, (list, _)))) values (_, (_, (_, (list-after, _)))).
    DropsPlain lines gates.now vector list.now values list-after.now)
drop_means = means refusing.drop_refuses _ (λ κs a r e p. p.0) (λ κs a r e p u. drops_plain _ _ _ _ _ u p.1)

pub drop_in_c : AnswersInC c-drop.Post (λ κs r. r.number) (λ κs r. r.count ∷ [])
    (λ κs (lines, (gates, (vector, (list, _)))) values (_, (_, (_, (list-after, _)))).
    DropsPlain lines gates.now vector list.now values list-after.now)
drop_in_c = means_in_c 1 refusing-in-c.drop_refuses _ (λ κs a r e p. p.0) (λ κs a r e p u. drops_plain _ _ _ _ _ u p.1)

pub drop_records_means : Answers drop-records.Post (λ κs. told_word)
    (λ κs (lines, (gates, (vector, (list, _)))) values (_, (_, (_, (list-after, _)))).
    Drops lines gates.now vector list.now values list-after.now)
drop_records_means = means refusing.drop_records_refuses _ (λ κs a r e p. p.0) (λ κs a r e p u. drops_records _ _ _ _ _ u p.1)

pub drop_records_in_c : AnswersInC c-drop-records.Post (λ κs r. r.number) (λ κs r. r.count ∷ [])
    (λ κs (lines, (gates, (vector, (list, _)))) values (_, (_, (_, (list-after, _)))).
    Drops lines gates.now vector list.now values list-after.now)
drop_records_in_c = means_in_c 1 refusing-in-c.drop_records_refuses _ (λ κs a r e p. p.0) (λ κs a r e p u. drops_records _ _ _ _ _ u p.1)
