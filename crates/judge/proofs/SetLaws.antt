-- Laws of a set's marks: a vector at a time, and what the marks of a whole set say of a class.
use Rattle.std.specs.Prelude.{ℕ, ◌≡◌, ◌≢◌, refl, Bool, not, ◌&&◌, ◌||◌, Result, Ok, Err, IsOk, List, [], ◌∷◌, replicate, fold}
use Rattle.std.proofs.Common.{sym, ap, ◌∙◌, arith, take_all}
use Rattle.std.proofs.lemmas.List.{length-replicate}
use Rattle.basics.specs.Lists.{All}
use Rattle.basics.proofs.All.{all_map, all_at}
use Rattle.basics.proofs.Kept.{keep_agree}
use Rattle.refusals.specs.Answers.{fine}
use Rattle.refusals.proofs.Clashes.{answered-refused}
use Rattle.refusals.proofs.Tables.{after-fine}
use Rattle.circuit.specs.Gates.{gates_of}
use Rattle.circuit.specs.Sound.{Sound}
use Rattle.circuit.specs.declared.Gate.{Gate}
use Rattle.circuit.specs.Limits.{most_gates, levels}
use Rattle.faults.specs.Classes.{class_faults}
use Rattle.faults.specs.Rules.{is_fault}
use Rattle.faults.specs.declared.Fault.{Fault}
use Rattle.faults.specs.Kinds.{gate_class_number}
use Rattle.faults.specs.declared.classes.GateClass.{GateClass}
use Rattle.faults.specs.declared.classes.GateClass.TheVariants.{MissingGate, MissingControl, ExtraControl}
use Rattle.faults.proofs.ClassLists.{class_faults-are}
use Rattle.marking.specs.Levels.{no_levels, with_levels}
use Rattle.marking.specs.Marks.{marked, mark_all, level_marks, gate_marks, level_marked, gate_marked}
use Rattle.marking.specs.declared.marks.LevelMarks.{LevelMarks}
use Rattle.marking.proofs.ExactLaws.{level_marked-all, gate_marked-all, zeros_level, zeros_gate}
use Rattle.judge.specs.Added.{told_added, handed_back}
use Rattle.judge.specs.Coverages.{empty_coverage, is_marked, with_vector, with_all}
use Rattle.judge.specs.Judging.{caught_by_some, verdict, set_verdict}
use Rattle.judge.specs.Promises.{with_vector_tells, with_vector_gives}
use Rattle.judge.specs.Rules.{add_rows}
use Rattle.judge.specs.declared.coverage.Coverage.{Coverage}
use Rattle.judge.specs.declared.coverage.Unchanged.{Unchanged}
use Rattle.judge.proofs.RuleLaws.{vector_passes}
use Rattle.judge.proofs.CoverLaws.{level_is, gates_is, controls_is, extras_is}
use Rattle.judge.proofs.MeanLaws.{mark_mean_empty}

-- ---- a set's vectors in turn are a fold

pub mark_all_fold : (f : ℕ → List ℕ) (ws xs : List ℕ) → mark_all ws f xs ≡ fold (λ now x. marked now (f x)) ws xs
unfolding mark_all
mark_all_fold f ws [] = refl
mark_all_fold f ws (x ∷ xs) = mark_all_fold f (marked ws (f x)) xs

module _ (n : ℕ) (gs : List Gate) where
  pub with_all_fold : (c : Coverage) (xs : List ℕ) → with_all c n gs xs ≡ fold (λ now x. with_vector now n gs x) c xs
  unfolding with_all
  with_all_fold c [] = refl
  with_all_fold c (x ∷ xs) = with_all_fold (with_vector c n gs x) xs

  -- the marks of class 1, of each value
  levels_fold_0 : (marks : LevelMarks) (xs : List ℕ)
      → (fold (λ now x. with_levels now n gs x) marks xs).at_0 ≡ mark_all marks.at_0 (level_marks n gs 0) xs
  unfolding mark_all
  levels_fold_0 marks [] = refl
  levels_fold_0 marks (x ∷ xs) = levels_fold_0 (with_levels marks n gs x) xs

  levels_fold_1 : (marks : LevelMarks) (xs : List ℕ)
      → (fold (λ now x. with_levels now n gs x) marks xs).at_1 ≡ mark_all marks.at_1 (level_marks n gs 1) xs
  unfolding mark_all
  levels_fold_1 marks [] = refl
  levels_fold_1 marks (x ∷ xs) = levels_fold_1 (with_levels marks n gs x) xs

-- ---- a vector that breaks no rule is added

pub added_ok : (r : Result Coverage Unchanged) → fine ≡ told_added r → IsOk r
added_ok (Ok d) e = refl
added_ok (Err unchanged) e = answered-refused e

pub added_more : (c d : Coverage) (n : ℕ) (words : List ℕ) (x : ℕ) (r : Result Coverage Unchanged) → r ≡ Ok d
    → handed_back r ≡ with_vector_gives c n words x → fine ≡ with_vector_tells n words x → d ≡ with_vector c n (gates_of words) x
added_more c d n words x r ok given passes =
    sym (ap handed_back ok) ∙ given ∙ sym (after-fine (add_rows n words x) (with_vector c n (gates_of words) x) c passes)

-- ---- a verdict goes by which faults of the list are caught

pub verdict_agree : (p q : Fault → Bool) (fs : List Fault) → All (λ f. p f ≡ q f) fs → verdict p fs ≡ verdict q fs
unfolding verdict
verdict_agree p q fs same =
    rw (keep_agree p q fs same, keep_agree (λ f. not (p f)) (λ f. not (q f)) fs (all_map (λ f e. ap not e) fs same))

-- ---- which words a class's marks are

module _ (n : ℕ) (gs : List Gate) (c : Coverage) where
  -- the verdict on a coverage for a class is that on the class's words
  pub verdict_levels : verdict (is_marked c) (class_faults n gs 1) ≡ verdict (level_marked c.stuck_at.at_0 c.stuck_at.at_1) (class_faults n gs 1)
  verdict_levels = verdict_agree _ _ _ (all_map (λ f of. level_is c f of.0) (class_faults n gs 1) (class_faults-are n gs 1))

  pub verdict_gates : verdict (is_marked c) (class_faults n gs 2) ≡ verdict (gate_marked c.missing_gates) (class_faults n gs 2)
  verdict_gates = verdict_agree _ _ _ (all_map (λ f of. gates_is c f of.0) (class_faults n gs 2) (class_faults-are n gs 2))

  pub verdict_controls : verdict (is_marked c) (class_faults n gs 3) ≡ verdict (gate_marked c.missing_controls) (class_faults n gs 3)
  verdict_controls = verdict_agree _ _ _ (all_map (λ f of. controls_is c f of.0) (class_faults n gs 3) (class_faults-are n gs 3))

  pub verdict_extras : verdict (is_marked c) (class_faults n gs 4) ≡ verdict (gate_marked c.extra_controls) (class_faults n gs 4)
  verdict_extras = verdict_agree _ _ _ (all_map (λ f of. extras_is c f of.0) (class_faults n gs 4) (class_faults-are n gs 4))

-- ---- marks that say just what some vector of the set catches give its verdict

module _ (n : ℕ) (words xs : List ℕ) (ok : Sound n words) where
  set_says : (class : ℕ) (mark : Fault → Bool)
      → ((f : Fault) → f.class ≡ class → mark f ≡ (is_fault n (gates_of words) f && caught_by_some (gates_of words) xs f))
      → verdict mark (class_faults n (gates_of words) class) ≡ set_verdict n (gates_of words) xs class
  set_says class mark says = verdict_agree _ _ _ (all_map
      (λ f of. says f of.0 ∙ ap (λ is. is && caught_by_some (gates_of words) xs f) of.1)
      (class_faults n (gates_of words) class) (class_faults-are n (gates_of words) class))

  -- a coverage that was begun empty
  pub judge_is_coverage : (class : ℕ)
      → verdict (is_marked (with_all empty_coverage n (gates_of words) xs)) (class_faults n (gates_of words) class)
      ≡ set_verdict n (gates_of words) xs class
  judge_is_coverage class = set_says class _ (λ f of. mark_mean_empty n words ok xs f)

  -- the judge's own marks
  pub set_levels : (marks : LevelMarks) → marks ≡ fold (λ now x. with_levels now n (gates_of words) x) no_levels xs
      → verdict (level_marked marks.at_0 marks.at_1) (class_faults n (gates_of words) 1) ≡ set_verdict n (gates_of words) xs 1
  unfolding caught_by_some
  set_levels marks e =
      let long = length-replicate {A = ℕ} levels 0 in
      let at_0 : marks.at_0 ≡ mark_all (replicate levels 0) (level_marks n (gates_of words) 0) xs =
      ap (λ m. m.at_0) e ∙ levels_fold_0 n (gates_of words) no_levels xs in
      let at_1 : marks.at_1 ≡ mark_all (replicate levels 0) (level_marks n (gates_of words) 1) xs =
      ap (λ m. m.at_1) e ∙ levels_fold_1 n (gates_of words) no_levels xs in
      rw (at_0, at_1) (set_says 1 _ (λ f of.
      level_marked-all n words ok (replicate levels 0) (replicate levels 0) xs f of (omega arith) (omega arith)
      ∙ ap (λ b. b || (is_fault n (gates_of words) f && caught_by_some (gates_of words) xs f)) (zeros_level levels f)))

  not-one : (class : GateClass) → gate_class_number class ≢ 1
  not-one MissingGate e = omega arith
  not-one MissingControl e = omega arith
  not-one ExtraControl e = omega arith

  pub set_gates : (class : GateClass) (ws : List ℕ)
      → ws ≡ fold (λ now x. marked now (gate_marks n (gates_of words) (gate_class_number class) x)) (replicate most_gates 0) xs
      → verdict (gate_marked ws) (class_faults n (gates_of words) (gate_class_number class))
      ≡ set_verdict n (gates_of words) xs (gate_class_number class)
  unfolding caught_by_some
  set_gates class ws e =
      let long = length-replicate {A = ℕ} most_gates 0 in
      let number = gate_class_number class in
      rw (e ∙ sym (mark_all_fold (gate_marks n (gates_of words) number) (replicate most_gates 0) xs)) (set_says number _ (λ f of.
      gate_marked-all n words ok (replicate most_gates 0) xs number f of (not-one class) (omega arith)
      ∙ ap (λ b. b || (is_fault n (gates_of words) f && caught_by_some (gates_of words) xs f)) (zeros_gate most_gates f)))

-- what the verdict on a coverage, the verdicts on a set's own marks, and the coverage of a set are proved by
pub ruleset counting = (verdict_levels, verdict_gates, verdict_controls, verdict_extras)

pub ruleset judging = (set_levels, set_gates, take_all)

pub ruleset covering = (added_ok, with_all_fold, vector_passes, all_at, take_all)
