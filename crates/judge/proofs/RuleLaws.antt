-- What a set and a class that break no rule are.
use Rattle.std.specs.Prelude.{ℕ, ◌^◌, ◌<◌, ◌≤◌, ◌≡◌, ◌≢◌, false, not, ◌&&◌, Result, Ok, Err, List, [], ◌∷◌, length, eqb, leb}
use Rattle.std.proofs.Common.{sym, ap, ◌∙◌, arith, leb-true, ne_eqb}
use Rattle.std.proofs.lemmas.Bool.{lt-leb, not-false}
use mathlib.Core.Bool.{and-false}
use Rattle.basics.specs.Choice.{choice}
use Rattle.basics.proofs.Tests.{by_equal, and_both}
use Rattle.refusals.specs.Tables.{first_of}
use Rattle.refusals.specs.Tables.Row.{refuse◌at◌when◌}
use Rattle.refusals.specs.Tables.Told.{refused}
use Rattle.refusals.specs.Answers.{number_of, place_of, fine, found}
use Rattle.refusals.specs.declared.Refusal.{Refusal}
use Rattle.refusals.proofs.Tables.{fine_row, fine-parts, refused_on, fine_on, refused_all, fine_all, after-refused, after-fine}
use Rattle.circuit.specs.Gates.{gates_of}
use Rattle.circuit.specs.Rules.{bad_lines, bad_counts, circuit_set_rows, circuit_rows, first_bad_vector, set_rows, vector_rows}
use Rattle.circuit.specs.Sound.{Sound}
use Rattle.circuit.proofs.RuleLaws.{sound, VectorsOk, vectors_ok, counts_right, counts_good}
use Rattle.faults.specs.Classes.{is_class}
use Rattle.faults.specs.Kinds.{class_of}
use Rattle.faults.specs.declared.classes.Class.{Class}
use Rattle.faults.proofs.RuleLaws.{class_known}
use Rattle.judge.specs.Promises.{with_vector_tells}
use Rattle.judge.specs.Rules.{class_rows, judge_rows, count_rows}

-- ---- a class that is asked alone

no_class : (class : ℕ) → class ≢ 1 → class ≢ 2 → class ≢ 3 → class ≢ 4 → is_class class ≡ false
unfolding is_class
no_class class a b c d =
    by_equal class 0 (λ e. rw e) (λ e. ap (λ most. leb 1 class && most) (lt-leb class 4 (omega arith)) ∙ and-false (leb 1 class))

-- the class of a number, or its refusal, is what the rule says of it
class_told : (class : ℕ) → found (class_of class) ≡ first_of (class_rows class) fine
unfolding class_rows is_class
class_told class =
    by_equal class 1 (λ e. rw e) (λ a. by_equal class 2 (λ e. rw e) (λ b. by_equal class 3 (λ e. rw e) (λ c. by_equal class 4 (λ e. rw e)
    (λ d. rw (ne_eqb class 1 a, ne_eqb class 2 b, ne_eqb class 3 c, ne_eqb class 4 d, no_class class a b c d)))))

pub class_fine : (class : ℕ) (known : Class) → Ok known ≡ class_of class → fine ≡ first_of (class_rows class) fine
class_fine class known e = ap (λ (r : Result Class Refusal). found r) e ∙ class_told class

pub class_wrong : (class : ℕ) (r : Refusal) → Err r ≡ class_of class → refused (number_of r) (place_of r) ≡ first_of (class_rows class) fine
class_wrong class r e = ap (λ (a : Result Class Refusal). found a) e ∙ class_told class

-- what the checks of a circuit, or a set, and a class in turn are proved by
pub ruleset checks = (refused_on, fine_on, refused_all, fine_all, class_fine, class_wrong, class_known)

-- and what a vector that is refused, or added, makes of a coverage
pub ruleset adding = (after-refused, after-fine)

pub class_ok : (class : ℕ) → fine ≡ first_of (class_rows class) fine → (1 ≤ class) × (class ≤ 4)
unfolding class_rows is_class
class_ok class e =
    let w = and_both (leb 1 class) (leb class 4) (not-false _ (fine_row (not (is_class class)) 9 1 fine e).0) in
    (leb-true 1 class w.0, leb-true class 4 w.1)

pub record JudgeOk (n : ℕ) (words xs : List ℕ) (class : ℕ) : Type 0 where
  pub set : VectorsOk n words xs
  pub class_in : (1 ≤ class) × (class ≤ 4)

pub judge_ok : (n : ℕ) (words xs : List ℕ) (class : ℕ) → fine ≡ first_of (judge_rows n words xs class) fine → JudgeOk n words xs class
unfolding judge_rows
judge_ok n words xs class e =
    let w = fine-parts (set_rows n words xs) (class_rows class) e in
    record { set = vectors_ok n words xs w.0; class_in = class_ok class w.1 }

-- what the two checks find together
pub judge_passes : (n : ℕ) (words xs : List ℕ) (class : ℕ) (known : Class) → fine ≡ first_of (set_rows n words xs) fine → Ok known ≡ class_of class
    → fine ≡ first_of (judge_rows n words xs class) fine
unfolding judge_rows
judge_passes n words xs class known set e =
    class_fine class known e ∙ sym (fine_on (set_rows n words xs) (class_rows class) fine set)

pub record CountOk (n : ℕ) (words : List ℕ) (class : ℕ) : Type 0 where
  pub circuit : Sound n words
  pub class_in : (1 ≤ class) × (class ≤ 4)

pub count_ok : (n : ℕ) (words : List ℕ) (class : ℕ) → fine ≡ first_of (count_rows n words class) fine → CountOk n words class
unfolding count_rows
count_ok n words class e =
    let w = fine-parts (circuit_rows n words) (class_rows class) e in
    record { circuit = sound n words w.0; class_in = class_ok class w.1 }

-- ---- a set that breaks no rule: nor does its circuit with any one of its vectors, or with the class

pub set-circuit : (n : ℕ) (words xs : List ℕ) (class : ℕ) → fine ≡ first_of (judge_rows n words xs class) fine
    → fine ≡ first_of (circuit_rows n words) fine
unfolding judge_rows set_rows circuit_set_rows circuit_rows
set-circuit n words xs class e =
    let set = (fine-parts (set_rows n words xs) (class_rows class) e).0 in
    let all = (fine-parts (circuit_set_rows n words (length xs))
    (refuse 8 at first_bad_vector n xs when not (eqb (first_bad_vector n xs) 0) ∷ []) set).0 in
    let lines = fine_row (bad_lines n) 3 0 _ all in
    let counts = fine_row (bad_counts (length (gates_of words)) (length xs)) 5 0 _ lines.1 in
    let fit = counts_right (length (gates_of words)) (length xs) counts.0 in
    rw (lines.0, counts_good (length (gates_of words)) 0 fit.0 (omega arith)) counts.1

pub vector_passes : (n : ℕ) (words : List ℕ) (x : ℕ) → fine ≡ first_of (circuit_rows n words) fine → x < 2 ^ n
    → fine ≡ with_vector_tells n words x
unfolding vector_rows
vector_passes n words x e h =
    sym (fine_on (circuit_rows n words) (vector_rows n x) fine e ∙ ap (λ b. choice b (refused 8 1) fine) (lt-leb (2 ^ n) x h))

pub count_passes : (n : ℕ) (words xs : List ℕ) (class : ℕ) → fine ≡ first_of (judge_rows n words xs class) fine
    → fine ≡ first_of (count_rows n words class) fine
unfolding judge_rows count_rows
count_passes n words xs class e =
    (fine-parts (set_rows n words xs) (class_rows class) e).1
    ∙ sym (fine_on (circuit_rows n words) (class_rows class) fine (set-circuit n words xs class e))
