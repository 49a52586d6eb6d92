-- What breaks no rule of a table is exactly what is valid in the words of docs/SCOPE.md: vectors, levels, faults, classes and rooms, alone and
-- joined.
use Prim.Native.Nat.{ℕ, ◌^◌, ◌≤◌, ◌<◌}
use mathlib.Core.Path.{◌≡◌, sym, ap, ◌∙◌}
use mathlib.Core.Logic.Iff
use mathlib.Core.Logic.{◌↔◌}
use mathlib.Core.Bool.{Bool, false, not}
use mathlib.Core.List.{List, [], ◌∷◌, ◌++◌}
use lib.ListN.{length}
use lib.Dec.{eqb, leb, ltb}
use borrow.Author.Tests.{eq-eqb, eqb-true, leb-false, lt-leb, le-leb, ltb-false, le-ltb, not-false}
use Rattle.basics.specs.Choice.{choice}
use Rattle.basics.specs.Lists.{All}
use Rattle.basics.proofs.Tests.{and-true}
use Rattle.basics.proofs.All.{all_map}
use Rattle.refusals.specs.Tables.{Row, first_of}
use Rattle.refusals.specs.Tables.Row.{refuse◌at◌when◌}
use Rattle.refusals.specs.Tables.Told.{refused}
use Rattle.refusals.specs.Answers.{fine}
use Rattle.refusals.proofs.Tables.{fine_row, fine-parts, fine_on}
use Rattle.refusals.proofs.Places.{none_bad}
use Rattle.circuit.specs.Gates.{gates_of}
use Rattle.circuit.specs.Rules.{first_bad_vector, circuit_set_rows, set_rows, vector_rows, level_rows}
use Rattle.circuit.specs.declared.Gate.{Gate}
use Rattle.faults.specs.Rules.{is_fault, fault_rows}
use Rattle.faults.specs.declared.Fault.{Fault}
use Rattle.faults.specs.Classes.{is_class}
use Rattle.judge.specs.Rules.{class_rows}
use Rattle.judge.proofs.RuleLaws.{class_ok}
use Rattle.demands.proofs.Machine.{Has}
use Rattle.demands.proofs.HasLaws.{has_of, of_has}
use Rattle.demands.proofs.Valid.{Valid, circuit_set_valid, none_first}

-- ---- tables joined, and tables of one rule

abbrev pub Fine : List Row → Type 0
Fine rows = fine ≡ first_of rows fine

pub joined : (rows more : List Row) → Fine (rows ++ more) ↔ (Fine rows × Fine more)
joined rows more = (fine-parts rows more, λ w. w.1 ∙ sym (fine_on rows more fine w.0))

pub one_rule : (broken : Bool) (k p : ℕ) → Fine (refuse k at p when broken ∷ []) ↔ (broken ≡ false)
one_rule broken k p = (λ e. (fine_row broken k p fine e).0, λ e. sym (ap (λ b. choice b (refused k p) fine) e))

-- ---- a vector, a level, a class

pub vector_valid : (n x : ℕ) → Fine (vector_rows n x) ↔ (x < 2 ^ n)
unfolding vector_rows
vector_valid n x = Iff.trans (one_rule (leb (2 ^ n) x) 8 1) (leb-false (2 ^ n) x, lt-leb (2 ^ n) x)

pub level_valid : (words : List ℕ) (i : ℕ) → Fine (level_rows words i) ↔ (i ≤ length (gates_of words))
unfolding level_rows
level_valid words i = Iff.trans (one_rule (ltb (length (gates_of words)) i) 12 0)
    (ltb-false (length (gates_of words)) i, le-ltb (length (gates_of words)) i)

pub class_valid : (class : ℕ) → Fine (class_rows class) ↔ ((1 ≤ class) × (class ≤ 4))
unfolding class_rows is_class
class_valid class = (
  class_ok class,
  λ w. (one_rule (not (is_class class)) 9 1).1 (ap not (and-true (le-leb 1 class w.0) (le-leb class 4 w.1))),
)

-- ---- a set of vectors

pub vectors_valid : (n : ℕ) (xs : List ℕ) → (first_bad_vector n xs ≡ 0) ↔ All (λ x. x < 2 ^ n) xs
unfolding first_bad_vector
vectors_valid n xs = (
  λ e. all_map (λ x. leb-false (2 ^ n) x) xs (none_bad (leb (2 ^ n)) false xs 0 e),
  λ w. none_first (leb (2 ^ n)) 1 xs (all_map (λ x. lt-leb (2 ^ n) x) xs w),
)

-- a place that is told where it is not 0
told_place : (place k : ℕ) → Fine (refuse k at place when not (eqb place 0) ∷ []) ↔ (place ≡ 0)
told_place place k = Iff.trans (one_rule (not (eqb place 0)) k place)
    (λ e. eqb-true place 0 (not-false (eqb place 0) e), λ e. ap not (eq-eqb place 0 e))

pub set_valid : (n : ℕ) (words xs : List ℕ)
    → Fine (set_rows n words xs) ↔ ((((gs : List Gate) × Valid n words gs) × (length xs ≤ 2048)) × All (λ x. x < 2 ^ n) xs)
unfolding set_rows
set_valid n words xs = Iff.trans (joined (circuit_set_rows n words (length xs)) _)
    (Iff.and (circuit_set_valid n words (length xs)) (Iff.trans (told_place (first_bad_vector n xs) 8) (vectors_valid n xs)))

-- ---- a fault

pub fault_valid : (n : ℕ) (words : List ℕ) (f : Fault) → Fine (fault_rows n words f) ↔ Has n (gates_of words) f
unfolding fault_rows
fault_valid n words f = Iff.trans (one_rule (not (is_fault n (gates_of words) f)) 9 1)
    (λ e. has_of n (gates_of words) f (not-false _ e), λ h. ap not (of_has n (gates_of words) f h))
