-- What the calls of a coverage answer: begun empty it has no mark, a vector adds the marks of what it catches, and a class is counted by its marks.
-- Begun empty and given a set's vectors in turn, a coverage ends with the verdict of the judge of that set.
use Prim.Native.Nat.{ℕ, ◌*◌}
use mathlib.Core.Path.{◌≡◌, refl, sym, ap, ◌∙◌, subst}
use mathlib.Core.Bool.{true≢false}
use mathlib.Core.List.{List, [], ◌∷◌, ◌++◌}
use lib.ListN.{length}
use Rattle.refusals.specs.Tables.{Row, first_of}
use Rattle.refusals.specs.Tables.Told.{answered}
use Rattle.refusals.specs.Answers.{fine, told}
use Rattle.refusals.proofs.Tables.{after-fine, answered-fine}
use Rattle.circuit.specs.Gates.{gates_of}
use Rattle.circuit.specs.Rules.{circuit_rows, vector_rows}
use Rattle.circuit.specs.declared.Gate.{Gate}
use Rattle.circuit.proofs.RuleLaws.{vector_ok}
use Rattle.faults.specs.declared.Fault.{Fault}
use Rattle.faults.specs.Classes.{class_faults}
use Rattle.judge.specs.Judging.{caught_by_some, verdict}
use Rattle.judge.specs.Coverages.{empty_coverage, with_vector, with_all, is_marked}
use Rattle.judge.specs.Rules.{count_rows}
use Rattle.judge.specs.Answers.{verdict_values}
use Rattle.judge.specs.Added.{told_added, handed_back}
use Rattle.judge.specs.declared.coverage.Coverage.{Coverage}
use Rattle.judge.proofs.RuleLaws.{count_ok}
use Rattle.judge.proofs.SetLaws.{judge_is_coverage}
use Rattle.judge.proofs.CoverLaws.{empty_sized, empty_unmarked}
use Rattle.judge.proofs.coverage.Coverage.empty.Reads as coverage-empty
use Rattle.judge.proofs.coverage.Coverage.with_vector.Reads as coverage-with-vector
use Rattle.judge.proofs.coverage.Coverage.count.Reads as coverage-count
use Rattle.demands.proofs.Machine.{Circuit, site_total}
use Rattle.demands.proofs.FaultLists.{Class}
use Rattle.demands.proofs.VerdictLaws.{told_of}
use Rattle.demands.proofs.Judging.{Judges, judges}
use Rattle.demands.proofs.Completeness.{stuck_at_total}
use Rattle.demands.proofs.Answering.{Answers, means, Ended}
use Rattle.demands.proofs.Demand1 as refusing
use Rattle.demands.proofs.Marks.{Unmarked, Full, Counts, Adds, marked-true, adds, counts}

-- ---- the calls

-- begun empty: no mark
pub empty_means : (call : Ended coverage-empty.Post) → Full call.result × ((f : Fault) → Unmarked call.result f)
empty_means call =
    let sized = empty_sized in
    let e = call.promised in (
      subst Full (sym e) (record {
        levels_0 = sized.stuck_0;
        levels_1 = sized.stuck_1;
        gates = sized.gates;
        controls = sized.controls;
        extras = sized.extras;
      }),
      λ f m. true≢false (sym (marked-true call.result f m) ∙ ap (λ c. is_marked c f) e ∙ empty_unmarked f),
    )

-- a vector that is not refused is added
pub with_vector_means : (call : Ended coverage-with-vector.Post) → told_added call.result ≡ fine
    → let (coverage, (lines, (gates, (vector, _)))) = call.inputs in
    Adds lines gates.now vector coverage (handed_back call.result)
with_vector_means call told =
    let (coverage, (n, (gates, (x, _)))) = call.inputs in
    let words : List ℕ = gates.now in
    let unbroken = sym told ∙ call.promised.0 in
    subst (Adds n words x coverage)
    (after-fine (circuit_rows n words ++ vector_rows n x) _ _ unbroken ∙ sym call.promised.1)
    (adds n words x coverage (vector_ok n words x unbroken).circuit)

pub count_means : Answers coverage-count.Post (λ κs. told verdict_values)
    (λ κs (coverage, (lines, (gates, (class, _)))) values e. Counts lines gates.now coverage class values)
unfolding verdict
count_means = means refusing.coverage_count_refuses _ (λ κs a r e p. p) (λ κs a r e p u. counts _ _ _ _ (count_ok _ _ _ u).circuit)

-- of the stuck-at faults it tells two for each site
pub count_by_sites : Answers coverage-count.Post (λ κs. told verdict_values)
    (λ κs (coverage, (lines, (gates, (class, _)))) values e. (number total : ℕ) (rest : List ℕ) → class ≡ 1 → values ≡ number ∷ total ∷ rest
    → (gs : List Gate) × Circuit lines gates.now gs × (total ≡ 2 * site_total lines gs))
count_by_sites = record {
  as_said = λ call values t number total rest one e.
      let (_, (n, _)) = call.inputs in
      let w = count_means.as_said call values t in
      let told = w.verdict.values-are in
      let all : total ≡ length w.faults = cc in
      (w.gs, w.circuit, all ∙ stuck_at_total w.circuit (subst (λ k. Class n w.gs k w.faults) one w.of_class));
}

-- ---- begun empty and given a set's vectors in turn, each with the same circuit

-- what `with_vector` is given
module _ (call : Ended coverage-with-vector.Post) where
  abbrev so_far : Coverage
  so_far = let (coverage, _) = call.inputs in coverage

  abbrev lines : ℕ
  lines = let (_, (lines, _)) = call.inputs in lines

  abbrev gates : List ℕ
  gates = let (_, (_, (gates, _))) = call.inputs in gates.now

  abbrev vector : ℕ
  vector = let (_, (_, (_, (vector, _)))) = call.inputs in vector

pub data Covers (n : ℕ) (words : List ℕ) : List ℕ → Coverage → Type 0 where
  begun : (call : Ended coverage-empty.Post) → Covers n words [] call.result
  given : {xs : List ℕ} (call : Ended coverage-with-vector.Post) → Covers n words xs (so_far call) → lines call ≡ n → gates call ≡ words
      → told_added call.result ≡ fine → Covers n words (xs ++ (vector call ∷ [])) (handed_back call.result)

with_all_last : (c : Coverage) (n : ℕ) (gs : List Gate) (xs : List ℕ) (x : ℕ)
    → with_all c n gs (xs ++ (x ∷ [])) ≡ with_vector (with_all c n gs xs) n gs x
unfolding with_all
with_all_last c n gs [] x = refl
with_all_last c n gs (y ∷ xs) x = with_all_last (with_vector c n gs y) n gs xs x

covers_all : (n : ℕ) (words xs : List ℕ) (c : Coverage) → Covers n words xs c → c ≡ with_all empty_coverage n (gates_of words) xs
unfolding with_all
covers_all n words xs c (begun call) = call.promised
covers_all n words xs c (given {xs = ys} call before same_lines same_gates told) =
    let x : ℕ = vector call in
    let rows : List Row = circuit_rows (lines call) (gates call) ++ vector_rows (lines call) x in
    let those_before = covers_all n words ys (so_far call) before in
    call.promised.1 ∙ sym (after-fine rows _ _ (sym told ∙ call.promised.0))
    ∙ (λ i. with_vector (those_before i) (same_lines i) (gates_of (same_gates i)) x)
    ∙ sym (with_all_last empty_coverage n (gates_of words) ys x)

-- it ends with the verdict of the judge of that set
pub covers_judges : (n : ℕ) (words xs : List ℕ) (call : Ended coverage-count.Post)
    → let (coverage, (lines, (gates, (class, _)))) = call.inputs in
    Covers n words xs coverage → lines ≡ n → gates.now ≡ words → (values : List ℕ) → told verdict_values call.result ≡ answered values
    → Judges n words xs class values
unfolding verdict
covers_judges n words xs call covers lines gates values told =
    let (coverage, (_, (_, (class, _)))) = call.inputs in
    let gs : List Gate = gates_of words in
    let c : Coverage = with_all empty_coverage n gs xs in
    let same = covers_all n words xs coverage covers in
    let promise : answered values ≡ first_of (count_rows n words class) (answered (told_of (is_marked c) (class_faults n gs class))) =
    sym told ∙ call.promised
    ∙ (λ i. first_of (count_rows (lines i) (gates i) class)
    (answered (told_of (is_marked (same i)) (class_faults (lines i) (gates_of (gates i)) class)))) in
    let w = answered-fine (count_rows n words class) values (told_of (is_marked c) (class_faults n gs class)) promise in
    let ok = count_ok n words class w.1 in
    let agrees = judge_is_coverage n words xs ok.circuit class in
    let as-judged : values ≡ told_of (caught_by_some gs xs) (class_faults n gs class) = w.0 ∙ cc in
    subst (Judges n words xs class) (sym as-judged) (judges n words xs class ok.circuit)
