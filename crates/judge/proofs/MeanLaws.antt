-- What a mark of a coverage means: the fault was marked before, or the circuit has it and some vector catches it.
use Rattle.std.specs.Prelude.{ℕ, ◌≡◌, ◌≢◌, Bool, ◌&&◌, ◌||◌, List, length}
use Rattle.std.proofs.Common.{sym, ap, ap₂, ◌∙◌, arith}
use Rattle.basics.proofs.Tests.{by_equal}
use Rattle.circuit.specs.Gates.{gates_of}
use Rattle.circuit.specs.Limits.{most_gates}
use Rattle.circuit.specs.Sound.{Sound}
use Rattle.faults.specs.Rules.{is_fault}
use Rattle.faults.specs.declared.Fault.{Fault}
use Rattle.faults.proofs.RuleLaws.{class_none}
use Rattle.marking.specs.Marks.{gate_marks, mark_all, level_marked, gate_marked}
use Rattle.marking.proofs.ExactLaws.{level_marked-all, gate_marked-all}
use Rattle.judge.specs.Coverages.{empty_coverage, with_all, is_marked}
use Rattle.judge.specs.Judging.{caught_by_some}
use Rattle.judge.specs.declared.coverage.Coverage.{Coverage}
use Rattle.judge.proofs.CoverLaws.{Sized, empty_sized, empty_unmarked, level_is, gates_is, controls_is, extras_is, none_is}
use Rattle.judge.proofs.CoverLaws.{with_all_stuck_0, with_all_stuck_1, with_all_gates, with_all_controls, with_all_extras}

module _ (n : ℕ) (words : List ℕ) (ok : Sound n words) (xs : List ℕ) (c : Coverage) (size : Sized c) (f : Fault) where
  -- a fault of the circuit that some vector of the set catches
  Caught : Bool
  Caught = is_fault n (gates_of words) f && caught_by_some (gates_of words) xs f

  last : Coverage
  last = with_all c n (gates_of words) xs

  level_mean : f.class ≡ 1 → is_marked last f ≡ (is_marked c f || Caught)
  unfolding Caught last caught_by_some
  level_mean e =
      level_is last f e
      ∙ ap₂ (λ at0 at1. level_marked at0 at1 f) (with_all_stuck_0 n (gates_of words) c xs) (with_all_stuck_1 n (gates_of words) c xs)
      ∙ level_marked-all n words ok c.stuck_at.at_0 c.stuck_at.at_1 xs f e (omega arith) (omega arith)
      ∙ ap (λ b. b || Caught) (sym (level_is c f e))

  -- a class of gate faults, whose marks one list has
  gate_mean : (list : Coverage → List ℕ) (class : ℕ) → f.class ≡ class → class ≢ 1 → length (list c) ≡ most_gates
      → ((d : Coverage) → is_marked d f ≡ gate_marked (list d) f) → list last ≡ mark_all (list c) (gate_marks n (gates_of words) class) xs
      → is_marked last f ≡ (is_marked c f || Caught)
  unfolding Caught caught_by_some
  gate_mean list class e other long is all =
      is last ∙ ap (λ ws. gate_marked ws f) all ∙ gate_marked-all n words ok (list c) xs class f e other (omega arith)
      ∙ ap (λ b. b || Caught) (sym (is c))

  pub mark_mean : is_marked (with_all c n (gates_of words) xs) f
      ≡ (is_marked c f || (is_fault n (gates_of words) f && caught_by_some (gates_of words) xs f))
  unfolding Caught last
  mark_mean = by_equal f.class 1 level_mean (λ a. by_equal f.class 2
      (λ e. gate_mean (λ d. d.missing_gates) 2 e (λ q. omega arith) size.gates (λ d. gates_is d f e) (with_all_gates n (gates_of words) c xs))
      (λ b. by_equal f.class 3
      (λ e. gate_mean (λ d. d.missing_controls) 3 e (λ q. omega arith) size.controls (λ d. controls_is d f e)
      (with_all_controls n (gates_of words) c xs))
      (λ d. by_equal f.class 4
      (λ e. gate_mean (λ d. d.extra_controls) 4 e (λ q. omega arith) size.extras (λ d. extras_is d f e)
      (with_all_extras n (gates_of words) c xs))
      (λ e. none_is last f a b d e ∙ sym (ap₂ ◌||◌ (none_is c f a b d e)
      (ap (λ is. is && caught_by_some (gates_of words) xs f) (class_none n (gates_of words) f a b d e)))))))

-- from the empty coverage
pub mark_mean_empty : (n : ℕ) (words : List ℕ) → Sound n words → (xs : List ℕ) (f : Fault)
    → is_marked (with_all empty_coverage n (gates_of words) xs) f ≡ (is_fault n (gates_of words) f && caught_by_some (gates_of words) xs f)
mark_mean_empty n words ok xs f =
    mark_mean n words ok xs empty_coverage empty_sized f
    ∙ ap (λ b. b || (is_fault n (gates_of words) f && caught_by_some (gates_of words) xs f)) (empty_unmarked f)
