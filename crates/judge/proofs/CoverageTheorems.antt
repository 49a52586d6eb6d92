-- What a coverage means: the theorems about its marks and its count, for every circuit, vector and fault.
use Rattle.std.specs.Prelude.{ℕ, ◌≡◌, refl, true, false, ◌&&◌, ◌||◌, List, [], ◌∷◌}
use Rattle.std.proofs.Common.{sym, ap, ◌∙◌}
use Rattle.std.proofs.lemmas.Bool.{false≢true}
use mathlib.Core.Bool.{or-false}
use Rattle.basics.specs.Lists.{some}
use Rattle.basics.proofs.Tests.{and_both}
use Rattle.basics.proofs.All.{all_map}
use Rattle.refusals.specs.Tables.{Row, first_of, after}
use Rattle.refusals.specs.Tables.Row.{refuse◌at◌when◌}
use Rattle.refusals.specs.Answers.{fine}
use Rattle.refusals.proofs.Tables.{fine_all}
use Rattle.circuit.specs.Gates.{gates_of}
use Rattle.circuit.specs.Sound.{Sound}
use Rattle.circuit.proofs.RuleLaws.{vector_ok}
use Rattle.faults.specs.Classes.{class_faults}
use Rattle.faults.specs.Rules.{is_fault}
use Rattle.faults.specs.declared.Fault.{Fault}
use Rattle.faults.proofs.ClassLists.{class_faults-are}
use Rattle.simulator.specs.Faulty.{caught}
use Rattle.judge.specs.Coverages.{empty_coverage, with_vector, with_all, is_marked}
use Rattle.judge.specs.Judging.{caught_by_some}
use Rattle.judge.specs.Promises.{judge_tells, count_tells, with_vector_gives}
use Rattle.judge.specs.Rules.{judge_rows, count_rows, add_rows}
use Rattle.judge.specs.declared.coverage.Coverage.{Coverage}
use Rattle.judge.proofs.CoverLaws.{Sized, sized_more, empty_unmarked, stays_marked}
use Rattle.judge.proofs.MeanLaws.{mark_mean, mark_mean_empty}
use Rattle.judge.proofs.RuleLaws.{judge_ok, count_passes}
use Rattle.judge.proofs.SetLaws.{verdict_agree, judge_is_coverage}

-- ---- marks

-- at first none is set
pub begins_unmarked : (f : Fault) → is_marked empty_coverage f ≡ false
begins_unmarked = empty_unmarked

-- what holds of a coverage, and of the same with a vector added where no rule is broken, holds of what a call hands back
after_either {ℓ} : {A : Type ℓ} (P : A → Type 0) (rows : List Row) (made old : A) → (fine ≡ first_of rows fine → P made) → P old
    → P (after rows made old)
after_either P [] made old p q = p refl
after_either P (refuse number at place when true ∷ rows) made old p q = q
after_either P (refuse number at place when false ∷ rows) made old p q = after_either P rows made old p q

module _ (n : ℕ) (words : List ℕ) (ok : Sound n words) where
  -- a vector sets just the marks of the faults that the circuit has and the vector catches
  pub one_vector_marks : (c : Coverage) → Sized c → (x : ℕ) (f : Fault)
      → is_marked (with_vector c n (gates_of words) x) f ≡ (is_marked c f || (is_fault n (gates_of words) f && caught (gates_of words) f x))
  unfolding with_all caught_by_some some
  one_vector_marks c size x f =
      mark_mean n words ok (x ∷ []) c size f
      ∙ ap (λ b. is_marked c f || (is_fault n (gates_of words) f && b)) (or-false (caught (gates_of words) f x))

  -- begun empty and given a set's vectors in turn: marked is just what the circuit has and some vector of the set catches
  pub set_marks : (xs : List ℕ) (f : Fault)
      → is_marked (with_all empty_coverage n (gates_of words) xs) f ≡ (is_fault n (gates_of words) f && caught_by_some (gates_of words) xs f)
  set_marks xs f = mark_mean_empty n words ok xs f

-- a call, whatever circuit and vector it is lent
module _ (c : Coverage) (n : ℕ) (words : List ℕ) (x : ℕ) where
  -- a mark that is set stays set
  pub mark_stays : (f : Fault) → is_marked c f ≡ true → is_marked (with_vector_gives c n words x) f ≡ true
  mark_stays f e = after_either (λ d. is_marked d f ≡ true) (add_rows n words x) (with_vector c n (gates_of words) x) c
      (λ passed. stays_marked c n (gates_of words) x f e) e

  -- a mark that the call sets is of a fault that the circuit has and the vector catches
  pub new_mark_caught : Sized c → (f : Fault) → is_marked c f ≡ false → is_marked (with_vector_gives c n words x) f ≡ true
      → (is_fault n (gates_of words) f ≡ true) × (caught (gates_of words) f x ≡ true)
  new_mark_caught size f before = after_either
      (λ d. is_marked d f ≡ true → (is_fault n (gates_of words) f ≡ true) × (caught (gates_of words) f x ≡ true))
      (add_rows n words x) (with_vector c n (gates_of words) x) c
      (λ passed marked. and_both (is_fault n (gates_of words) f) (caught (gates_of words) f x)
      (ap (λ b. b || (is_fault n (gates_of words) f && caught (gates_of words) f x)) (sym before)
      ∙ sym (one_vector_marks n words (vector_ok n words x passed).circuit c size x f) ∙ marked))
      (λ marked. absurd (false≢true (sym before ∙ marked)))

  -- and a coverage keeps its size
  pub size_stays : Sized c → Sized (with_vector_gives c n words x)
  size_stays size =
      after_either Sized (add_rows n words x) (with_vector c n (gates_of words) x) c (λ passed. sized_more c n (gates_of words) x size) size

-- ---- counts

-- marks of faults that the circuit does not have change nothing: the count goes by the marks of its own faults alone
pub own_marks_count : (n : ℕ) (words : List ℕ) (class : ℕ) (c d : Coverage)
    → ((f : Fault) → is_fault n (gates_of words) f ≡ true → is_marked c f ≡ is_marked d f)
    → count_tells c n words class ≡ count_tells d n words class
own_marks_count n words class c d same =
    ap (first_of (count_rows n words class)) (verdict_agree (is_marked c) (is_marked d) (class_faults n (gates_of words) class)
    (all_map (λ f of. same f of.1) (class_faults n (gates_of words) class) (class_faults-are n (gates_of words) class)))

-- begun empty and given the vectors of a set that breaks no rule in turn, a coverage tells what the judge of that set tells
pub count_is_judge : (n : ℕ) (words xs : List ℕ) (class : ℕ) → fine ≡ first_of (judge_rows n words xs class) fine
    → count_tells (with_all empty_coverage n (gates_of words) xs) n words class ≡ judge_tells n words xs class
count_is_judge n words xs class passed =
    sym (fine_all (count_rows n words class) _ (count_passes n words xs class passed))
    ∙ judge_is_coverage n words xs (judge_ok n words xs class passed).set.set.circuit class
    ∙ fine_all (judge_rows n words xs class) _ passed
