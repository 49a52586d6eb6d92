-- Laws of coverages, list by list: each list of words has the marks of its class and value, and a mark that a coverage has stays.
use Rattle.std.specs.Prelude.{ℕ, ◌≡◌, ◌≢◌, refl, true, false, List, [], ◌∷◌, length}
use Rattle.std.proofs.Common.{sym, ap, ◌∙◌, arith, eq-eqb, ne_eqb}
use Rattle.std.proofs.lemmas.Bool.{false≢true}
use Rattle.std.proofs.lemmas.List.{length-replicate}
use Rattle.basics.proofs.Tests.{by_equal, choice-true, choice-false}
use Rattle.circuit.specs.Limits.{most_gates, levels}
use Rattle.circuit.specs.declared.Gate.{Gate}
use Rattle.faults.specs.declared.Fault.{Fault}
use Rattle.marking.specs.Marks.{marked, level_marks, gate_marks, mark_all, level_marked, gate_marked}
use Rattle.marking.proofs.MarkedLaws.{marked-length}
use Rattle.marking.proofs.ExactLaws.{level_marked_stays, gate_marked_stays, zeros_level, zeros_gate}
use Rattle.judge.specs.Coverages.{empty_coverage, with_vector, with_all, is_marked}
use Rattle.judge.specs.declared.coverage.Coverage.{Coverage}

-- ---- which list has the marks of a class

module _ (c : Coverage) (f : Fault) where
  pub level_is : f.class ≡ 1 → is_marked c f ≡ level_marked c.stuck_at.at_0 c.stuck_at.at_1 f
  unfolding is_marked
  level_is e = choice-true (eq-eqb f.class 1 e) _ _

  pub gates_is : f.class ≡ 2 → is_marked c f ≡ gate_marked c.missing_gates f
  unfolding is_marked
  gates_is e = choice-false (ne_eqb f.class 1 (λ q. omega arith)) _ _ ∙ choice-true (eq-eqb f.class 2 e) _ _

  pub controls_is : f.class ≡ 3 → is_marked c f ≡ gate_marked c.missing_controls f
  unfolding is_marked
  controls_is e =
      choice-false (ne_eqb f.class 1 (λ q. omega arith)) _ _ ∙ choice-false (ne_eqb f.class 2 (λ q. omega arith)) _ _
      ∙ choice-true (eq-eqb f.class 3 e) _ _

  pub extras_is : f.class ≡ 4 → is_marked c f ≡ gate_marked c.extra_controls f
  unfolding is_marked
  extras_is e =
      choice-false (ne_eqb f.class 1 (λ q. omega arith)) _ _ ∙ choice-false (ne_eqb f.class 2 (λ q. omega arith)) _ _
      ∙ choice-false (ne_eqb f.class 3 (λ q. omega arith)) _ _ ∙ choice-true (eq-eqb f.class 4 e) _ _

  pub none_is : f.class ≢ 1 → f.class ≢ 2 → f.class ≢ 3 → f.class ≢ 4 → is_marked c f ≡ false
  unfolding is_marked
  none_is a b d e =
      choice-false (ne_eqb f.class 1 a) _ _ ∙ choice-false (ne_eqb f.class 2 b) _ _
      ∙ choice-false (ne_eqb f.class 3 d) _ _ ∙ choice-false (ne_eqb f.class 4 e) _ _

-- ---- a coverage has a word for each level and gate that a circuit can have

pub record Sized (c : Coverage) : Type 0 where
  pub stuck_0 : length c.stuck_at.at_0 ≡ levels
  pub stuck_1 : length c.stuck_at.at_1 ≡ levels
  pub gates : length c.missing_gates ≡ most_gates
  pub controls : length c.missing_controls ≡ most_gates
  pub extras : length c.extra_controls ≡ most_gates

pub empty_sized : Sized empty_coverage
unfolding empty_coverage
empty_sized = record {
  stuck_0 = length-replicate {A = ℕ} levels 0;
  stuck_1 = length-replicate {A = ℕ} levels 0;
  gates = length-replicate {A = ℕ} most_gates 0;
  controls = length-replicate {A = ℕ} most_gates 0;
  extras = length-replicate {A = ℕ} most_gates 0;
}

pub sized_more : (c : Coverage) (n : ℕ) (gs : List Gate) (x : ℕ) → Sized c → Sized (with_vector c n gs x)
unfolding with_vector
sized_more c n gs x size = record {
  stuck_0 = marked-length c.stuck_at.at_0 (level_marks n gs 0 x) ∙ size.stuck_0;
  stuck_1 = marked-length c.stuck_at.at_1 (level_marks n gs 1 x) ∙ size.stuck_1;
  gates = marked-length c.missing_gates (gate_marks n gs 2 x) ∙ size.gates;
  controls = marked-length c.missing_controls (gate_marks n gs 3 x) ∙ size.controls;
  extras = marked-length c.extra_controls (gate_marks n gs 4 x) ∙ size.extras;
}

-- ---- a set's vectors in turn

-- a list to which each vector adds its marks has those of the set in the end
with_all_list : (list : Coverage → List ℕ) (marks : ℕ → List ℕ) (n : ℕ) (gs : List Gate)
    → ((c : Coverage) (x : ℕ) → list (with_vector c n gs x) ≡ marked (list c) (marks x))
    → (c : Coverage) (xs : List ℕ) → list (with_all c n gs xs) ≡ mark_all (list c) marks xs
unfolding with_all mark_all
with_all_list list marks n gs one c [] = refl
with_all_list list marks n gs one c (x ∷ xs) = with_all_list list marks n gs one (with_vector c n gs x) xs ∙ ap (λ ws. mark_all ws marks xs) (one c x)

module _ (n : ℕ) (gs : List Gate) where
  pub with_all_stuck_0 : (c : Coverage) (xs : List ℕ) → (with_all c n gs xs).stuck_at.at_0 ≡ mark_all c.stuck_at.at_0 (level_marks n gs 0) xs
  unfolding with_vector
  with_all_stuck_0 = with_all_list (λ c. c.stuck_at.at_0) (level_marks n gs 0) n gs (λ c x. refl)

  pub with_all_stuck_1 : (c : Coverage) (xs : List ℕ) → (with_all c n gs xs).stuck_at.at_1 ≡ mark_all c.stuck_at.at_1 (level_marks n gs 1) xs
  unfolding with_vector
  with_all_stuck_1 = with_all_list (λ c. c.stuck_at.at_1) (level_marks n gs 1) n gs (λ c x. refl)

  pub with_all_gates : (c : Coverage) (xs : List ℕ) → (with_all c n gs xs).missing_gates ≡ mark_all c.missing_gates (gate_marks n gs 2) xs
  unfolding with_vector
  with_all_gates = with_all_list (λ c. c.missing_gates) (gate_marks n gs 2) n gs (λ c x. refl)

  pub with_all_controls : (c : Coverage) (xs : List ℕ) → (with_all c n gs xs).missing_controls ≡ mark_all c.missing_controls (gate_marks n gs 3) xs
  unfolding with_vector
  with_all_controls = with_all_list (λ c. c.missing_controls) (gate_marks n gs 3) n gs (λ c x. refl)

  pub with_all_extras : (c : Coverage) (xs : List ℕ) → (with_all c n gs xs).extra_controls ≡ mark_all c.extra_controls (gate_marks n gs 4) xs
  unfolding with_vector
  with_all_extras = with_all_list (λ c. c.extra_controls) (gate_marks n gs 4) n gs (λ c x. refl)

-- ---- nothing is marked at first, and what is marked stays

pub empty_unmarked : (f : Fault) → is_marked empty_coverage f ≡ false
unfolding empty_coverage
empty_unmarked f = by_equal f.class 1 (λ e. level_is empty_coverage f e ∙ zeros_level levels f)
    (λ a. by_equal f.class 2 (λ e. gates_is empty_coverage f e ∙ zeros_gate most_gates f)
    (λ b. by_equal f.class 3 (λ e. controls_is empty_coverage f e ∙ zeros_gate most_gates f)
    (λ c. by_equal f.class 4 (λ e. extras_is empty_coverage f e ∙ zeros_gate most_gates f) (none_is empty_coverage f a b c))))

module _ (c : Coverage) (n : ℕ) (gs : List Gate) (x : ℕ) (f : Fault) (marked-before : is_marked c f ≡ true) where
  next : Coverage
  next = with_vector c n gs x

  pub stays_marked : is_marked (with_vector c n gs x) f ≡ true
  unfolding with_vector next
  stays_marked = by_equal f.class 1
      (λ e. level_is next f e ∙ level_marked_stays c.stuck_at.at_0 c.stuck_at.at_1 _ _ f (sym (level_is c f e) ∙ marked-before))
      (λ a. by_equal f.class 2
      (λ e. gates_is next f e ∙ gate_marked_stays c.missing_gates _ f (sym (gates_is c f e) ∙ marked-before))
      (λ b. by_equal f.class 3
      (λ e. controls_is next f e ∙ gate_marked_stays c.missing_controls _ f (sym (controls_is c f e) ∙ marked-before))
      (λ d. by_equal f.class 4
      (λ e. extras_is next f e ∙ gate_marked_stays c.extra_controls _ f (sym (extras_is c f e) ∙ marked-before))
      (λ e. absurd (false≢true (sym (none_is c f a b d e) ∙ marked-before))))))
