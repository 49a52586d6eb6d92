-- Laws of the lines of the classes: a verdict's text is its class's line, and a class that is not wanted has none.
use Prim.Native.Nat.{ℕ, ◌-◌, ◌≤◌}
use mathlib.Core.Path.{◌≡◌, refl, ap, sym, ◌∙◌}
use mathlib.Core.Bool.{true, false}
use mathlib.Core.List.{List, [], ◌∷◌, ◌++◌, append_assoc, append-nil}
use native.Mathlib.Omega.{arith}
use lib.ListN.{take}
use lib.Dec.{eqb}
use Rattle.basics.specs.Lists.{up_from, keep, each}
use Rattle.basics.proofs.Tests.{by_test}
use Rattle.refusals.specs.Tables.Told.{answered}
use Rattle.circuit.specs.declared.Gate.{Gate}
use Rattle.faults.specs.declared.Fault.{Fault}
use Rattle.faults.specs.Classes.{class_faults}
use Rattle.judge.specs.Judging.{caught_by_some, caught_of, uncaught_of, verdict}
use Rattle.std.specs.Prelude.{Option, Some, None}
use Rattle.marking.specs.Firsts.{first_told, told_first}
use Rattle.judge.specs.Answers.{verdict_values}
use Rattle.judge.proofs.AnswerLaws.{shown_complete}
use Rattle.judge.specs.declared.Verdict.{Verdict}
use Rattle.faults.specs.Kinds.{class_number}
use Rattle.faults.specs.declared.classes.Class.{Class}
use Rattle.faults.specs.declared.classes.Class.TheVariants.{StuckAt, AtGate}
use Rattle.faults.specs.declared.classes.GateClass.TheVariants.{MissingGate, MissingControl, ExtraControl}
use Rattle.job.specs.Wanted.{is_wanted, wanted}
use Rattle.report_text.specs.Lines.{spaced, line}
use Rattle.report_text.specs.Report.{letter_of, shown, first_text, class_text}
use Rattle.report_text.specs.Parts.{ok_text, numbers_line, numbers_shown, counts_text, verdict_text, wanted_text}

-- ---- a verdict's text

-- the numbers of a line with an uncaught fault are the front of all five
numbers_front : (class a b : ℕ) (f : Fault)
    → take (numbers_shown class) (a ∷ b ∷ f.place ∷ f.line ∷ f.value ∷ []) ≡ a ∷ b ∷ shown class f
unfolding numbers_shown shown
numbers_front class a b f =
    by_test (eqb class 1) (λ e. rw e)
    (λ e. by_test (eqb class 2) (λ k. rw (e, k))
    (λ k. by_test (eqb class 3) (λ m. rw (e, k, m))
    (λ m. by_test (eqb class 4) (λ p. rw (e, k, m, p)) (λ p. rw (e, k, m, p)))))

pub numbers_most : (class : ℕ) → numbers_shown class ≤ 5
unfolding numbers_shown
numbers_most class =
    by_test (eqb class 1) (λ e. rw e (omega arith))
    (λ e. by_test (eqb class 2) (λ k. rw (e, k) (omega arith))
    (λ k. by_test (eqb class 3) (λ m. rw (e, k, m) (omega arith))
    (λ m. by_test (eqb class 4) (λ p. rw (e, k, m, p) (omega arith)) (λ p. rw (e, k, m, p) (omega arith)))))

pub left-line : (class a b : ℕ) (f : Fault) (count letter : ℕ) → count ≡ numbers_shown class → letter ≡ letter_of class
    → numbers_line letter (take count (a ∷ b ∷ f.place ∷ f.line ∷ f.value ∷ [])) false ≡ numbers_line (letter_of class) (a ∷ b ∷ shown class f) false
left-line class a b f count letter e l = rw (e, l, numbers_front class a b f)

-- two lists of numbers are put as one
spaced_join : (xs ys : List ℕ) → each spaced xs ++ each spaced ys ≡ each spaced (xs ++ ys)
unfolding each
spaced_join [] ys = refl
spaced_join (x ∷ xs) ys = append_assoc (spaced x) (each spaced xs) (each spaced ys) ∙ ap (λ rest. spaced x ++ rest) (spaced_join xs ys)

-- the text of the list of uncaught faults, as the verdict tells the first
module _ (class a b : ℕ) where
  text_ok : line (letter_of class) (each spaced (a ∷ b ∷ []) ++ first_text class []) ≡ numbers_line (letter_of class) (a ∷ b ∷ []) true
  unfolding first_text numbers_line ok_text
  text_ok = refl

  text_left : (f : Fault) (rest : List Fault)
      → line (letter_of class) (each spaced (a ∷ b ∷ []) ++ first_text class (f ∷ rest)) ≡ numbers_line (letter_of class) (a ∷ b ∷ shown class f) false
  unfolding first_text numbers_line ok_text
  text_left f rest = ap (line (letter_of class)) (spaced_join (a ∷ b ∷ []) (shown class f) ∙ sym (append-nil (each spaced (a ∷ b ∷ shown class f))))

shown-same : (class : ℕ) (f h : Fault) → f.place ≡ h.place → f.line ≡ h.line → f.value ≡ h.value → shown class f ≡ shown class h
unfolding shown
shown-same class f h p l v = rw (p, l, v)

of_values : (class a b : ℕ) (rest : List Fault) (c d : ℕ) (first : Option Fault)
    → answered (c ∷ d ∷ told_first first) ≡ answered (a ∷ b ∷ first_told rest)
    → counts_text class c d first ≡ line (letter_of class) (each spaced (a ∷ b ∷ []) ++ first_text class rest)
of_values class a b [] c d None e =
    let p : c ≡ a = cc in
    let q : d ≡ b = cc in
    rw (p, q) (sym (text_ok class a b))
of_values class a b (f ∷ rest) c d None e = shown_complete (sym e)
of_values class a b [] c d (Some h) e = shown_complete e
of_values class a b (f ∷ rest) c d (Some h) e =
    let p : c ≡ a = cc in
    let q : d ≡ b = cc in
    rw (p, q, shown-same class h f (cc) (cc) (cc)) (sym (text_left class a b f rest))

pub verdict_text_lem : (n : ℕ) (gs : List Gate) (xs : List ℕ) (class : ℕ) (v : Verdict)
    → answered (verdict_values v) ≡ verdict (caught_by_some gs xs) (class_faults n gs class) → verdict_text class v ≡ class_text n gs xs class
unfolding verdict class_text caught_of uncaught_of
verdict_text_lem n gs xs class v e = of_values class _ _ _ v.caught v.total v.first e

-- ---- the classes wanted, one a turn

module _ (n : ℕ) (gs : List Gate) (xs : List ℕ) (classes : ℕ) where
  pub not-wanted : (class : ℕ) → is_wanted classes class ≡ false → [] ≡ wanted_text n gs xs classes class
  unfolding wanted_text
  not-wanted class e = rw e

  pub is_wanted_lem : (class : ℕ) → is_wanted classes class ≡ true → class_text n gs xs class ≡ wanted_text n gs xs classes class
  unfolding wanted_text
  is_wanted_lem class e = rw e

  kept_text : (list : List ℕ) → each (class_text n gs xs) (keep (is_wanted classes) list) ≡ each (wanted_text n gs xs classes) list
  unfolding each keep wanted_text
  kept_text [] = refl
  kept_text (class ∷ list) = by_test (is_wanted classes class)
      (λ e. rw e (ap (λ rest. class_text n gs xs class ++ rest) (kept_text list)))
      (λ e. rw e (kept_text list))

  pub wanted_text_lem : each (class_text n gs xs) (wanted classes) ≡ each (wanted_text n gs xs classes) (up_from 1 (5 - 1))
  unfolding wanted
  wanted_text_lem = kept_text (up_from 1 4)

  -- the text of a class by its name, and of all four
  abbrev pub text_of_class : Class → List ℕ
  text_of_class class = wanted_text n gs xs classes (class_number class)

  pub four_texts : each text_of_class (StuckAt ∷ AtGate MissingGate ∷ AtGate MissingControl ∷ AtGate ExtraControl ∷ [])
      ≡ each (class_text n gs xs) (wanted classes)
  unfolding wanted each up_from
  four_texts = sym (kept_text (1 ∷ 2 ∷ 3 ∷ 4 ∷ []))
