-- Laws of the optional parts: a part that may come leads on, and may not come again.
use Rattle.std.proofs.Common.{ℕ, ◌≡◌, refl, sym, ap, ◌∙◌, Bool, true, false, not, ◌&&◌, ◌||◌, List, [], ◌∷◌, length, eqb}
use Rattle.std.specs.Bool.{then_some}
use lib.Pointwise.{pointwise}
use mathlib.Core.Bool.{and-true, and-false}
use Rattle.basics.specs.Lists.{some, keep}
use Rattle.basics.proofs.Tests.{choice-false}
use Rattle.text.specs.Texts.{ascii, same, among}
use Rattle.text.proofs.SameLaws.{same_true, same_is_pointwise}
use Rattle.real.specs.Form.{Word, when, next, is_constants}
use Rattle.real.specs.Form.Stage.{named}
use Rattle.real.specs.Form.Step.{stops}
use Rattle.real_head.specs.declared.Parts.{Parts}
use Rattle.real_head.specs.Stages.{picked, parts_in, parts_step}

-- a word asks for one of some parts: whether it may come, and the parts that may come after it
record Asked (w : Word) (may : Bool) (parts left : List Word) : Type 0 where
  is : among w parts ≡ may
  kept : keep (λ p. not (same p w)) parts ≡ left

-- part by part: none is left, the word is another, the word is this one
no_part : (w : Word) → Asked w false [] []
unfolding among some keep
no_part w = record { is = refl; kept = refl }

among_passed : (w p : Word) (b : Bool) (parts : List Word) → same w p ≡ false → among w (picked b p parts) ≡ among w parts
unfolding among some
among_passed w p true parts e = rw e
among_passed w p false parts e = refl

passed : {w : Word} {may : Bool} {parts left : List Word} (p : Word) (b : Bool) → same w p ≡ false → same p w ≡ false → Asked w may parts left
    → Asked w may (picked b p parts) (picked b p left)
unfolding keep
passed {w} {may} {parts} p true e f r = record { is = among_passed w p true parts e ∙ r.is; kept = rw f (ap (λ l. p ∷ l) r.kept) }
passed p false e f r = r

asked : {w : Word} {parts left : List Word} (p : Word) (b : Bool) → same w p ≡ true → same p w ≡ true → Asked w false parts left
    → Asked w b (picked b p parts) left
unfolding among some keep
asked p true e f r = record { is = rw e; kept = rw f r.kept }
asked p false e f r = r

-- ---- a line in the stage of the parts: each of the four, and none of them

-- a part that is told where it may come
told : (names : List Word) (may : Bool) (after : Parts) → parts_step names (then_some may after) ≡ when may (named names (parts_in after))
told names true after = refl
told names false after = refl

-- a word that `==` tells the same as another is that
pub is_word : (p w text : List ℕ) → text ≡ p → true ≡ pointwise eqb w text → w ≡ p
is_word p w text e f = same_true w p (sym (same_is_pointwise w p) ∙ ap (pointwise eqb w) (sym e) ∙ sym f)

pub no_word : (p w text : List ℕ) → text ≡ p → false ≡ pointwise eqb w text → same w p ≡ false
no_word p w text e f = sym (same_is_pointwise w p) ∙ ap (pointwise eqb w) (sym e) ∙ sym f

module _ (names more : List Word) (p : Parts) where
  asked_next : (w : Word) (may right : Bool) (left : List Word) → Asked w may (parts_in p) left
      → (same w (ascii ".begin") && eqb (length more) 0) ≡ false → (not (same w (ascii ".constants")) || is_constants (length names) more) ≡ right
      → next (named names (parts_in p)) w more ≡ when (may && right) (named names left)
  unfolding next
  asked_next w may right left r e f = choice-false e _ _ ∙ rw (r.is, f, r.kept)

  part-next : (w : Word) (may : Bool) (after : Parts) → Asked w may (parts_in p) (parts_in after)
      → (same w (ascii ".begin") && eqb (length more) 0) ≡ false → (not (same w (ascii ".constants")) || is_constants (length names) more) ≡ true
      → parts_step names (then_some may after) ≡ next (named names (parts_in p)) w more
  part-next w may after r e f =
      told names may after ∙ sym (asked_next w may true _ r e f ∙ ap (λ b. when b (named names (parts_in after))) (and-true may))

  abbrev no_inputs : Parts
  no_inputs = record { inputs = false; outputs = p.outputs; garbage = p.garbage; constants = p.constants }

  pub inputs_next : parts_step names (then_some p.inputs no_inputs) ≡ next (named names (parts_in p)) (ascii ".inputs") more
  unfolding parts_in ascii same
  inputs_next = part-next (ascii ".inputs") p.inputs _
      (asked (ascii ".inputs") p.inputs refl refl (passed (ascii ".outputs") p.outputs refl refl
      (passed (ascii ".garbage") p.garbage refl refl (passed (ascii ".constants") p.constants refl refl (no_part (ascii ".inputs"))))))
      refl refl

  abbrev no_outputs : Parts
  no_outputs = record { inputs = p.inputs; outputs = false; garbage = p.garbage; constants = p.constants }

  pub outputs_next : parts_step names (then_some p.outputs no_outputs) ≡ next (named names (parts_in p)) (ascii ".outputs") more
  unfolding parts_in ascii same
  outputs_next = part-next (ascii ".outputs") p.outputs _
      (passed (ascii ".inputs") p.inputs refl refl (asked (ascii ".outputs") p.outputs refl refl
      (passed (ascii ".garbage") p.garbage refl refl (passed (ascii ".constants") p.constants refl refl (no_part (ascii ".outputs"))))))
      refl refl

  abbrev no_garbage : Parts
  no_garbage = record { inputs = p.inputs; outputs = p.outputs; garbage = false; constants = p.constants }

  pub garbage_next : parts_step names (then_some p.garbage no_garbage) ≡ next (named names (parts_in p)) (ascii ".garbage") more
  unfolding parts_in ascii same
  garbage_next = part-next (ascii ".garbage") p.garbage _
      (passed (ascii ".inputs") p.inputs refl refl (passed (ascii ".outputs") p.outputs refl refl
      (asked (ascii ".garbage") p.garbage refl refl (passed (ascii ".constants") p.constants refl refl (no_part (ascii ".garbage"))))))
      refl refl

  abbrev no_constants : Parts
  no_constants = record { inputs = p.inputs; outputs = p.outputs; garbage = p.garbage; constants = false }

  constants_asked : Asked (ascii ".constants") p.constants (parts_in p) (parts_in no_constants)
  unfolding parts_in ascii same
  constants_asked =
      passed (ascii ".inputs") p.inputs refl refl (passed (ascii ".outputs") p.outputs refl refl
      (passed (ascii ".garbage") p.garbage refl refl (asked (ascii ".constants") p.constants refl refl (no_part (ascii ".constants")))))

  pub constants_next : is_constants (length names) more ≡ true
      → parts_step names (then_some p.constants no_constants) ≡ next (named names (parts_in p)) (ascii ".constants") more
  unfolding ascii same
  constants_next e = part-next (ascii ".constants") p.constants _ constants_asked refl e

  pub constants_wrong : is_constants (length names) more ≡ false → next (named names (parts_in p)) (ascii ".constants") more ≡ stops 14
  unfolding ascii same
  constants_wrong e = asked_next (ascii ".constants") p.constants false _ constants_asked refl e
      ∙ ap (λ b. when b (named names (parts_in no_constants))) (and-false p.constants)

  pub none_next : (w : Word) → (same w (ascii ".begin") && eqb (length more) 0) ≡ false → same w (ascii ".inputs") ≡ false
      → same w (ascii ".outputs") ≡ false → same w (ascii ".garbage") ≡ false → same w (ascii ".constants") ≡ false
      → next (named names (parts_in p)) w more ≡ stops 14
  unfolding next parts_in among some
  none_next w no_begin e f h m =
      choice-false no_begin _ _ ∙ choice-false
      (ap (λ b. b && (not (same w (ascii ".constants")) || is_constants (length names) more))
      (among_passed w (ascii ".inputs") p.inputs _ e ∙ among_passed w (ascii ".outputs") p.outputs _ f
      ∙ among_passed w (ascii ".garbage") p.garbage _ h ∙ among_passed w (ascii ".constants") p.constants [] m)) _ _
