-- Laws of a gate's words: k controls, and the target.
use Rattle.std.specs.Prelude.{ℕ, suc, ◌+◌, ◌-◌, ◌<◌, ◌≡◌, refl, Bool, true, false, ◌&&◌, List, [], ◌∷◌, ◌++◌, length, take, drop}
use Rattle.std.specs.Bool.{then_some}
use Rattle.std.proofs.Common.{sym, ap, ◌∙◌, arith, add-one, get_or, drop-cons, length-drop, take-suc}
use mathlib.Core.Bool.{and_assoc, and_comm}
use lib.Seq.{take-length}
use Rattle.basics.proofs.Tests.{and-true, and_left, and_right}
use Rattle.text.specs.Texts.{every, among, distinct, place}
use Rattle.text.proofs.SameLaws.{among_placed, among_nowhere}
use Rattle.real.specs.Form.{Word, controls_of, target_of, gate_of}
use Rattle.real_gates.specs.Gates.{are_controls, Masked, are_gate, IsGate, GateRead}
use Rattle.real_gates.proofs.ControlLaws.{declared, every_last}

and_swapped : (a b c : Bool) → (a && b) && c ≡ (a && c) && b
and_swapped a b c = and_assoc a b c ∙ ap (λ d. a && d) (and_comm b c) ∙ sym (and_assoc a c b)

module _ (names words : List Word) (k : ℕ) (last : k + 1 ≡ length words) where
  controls_are : controls_of words ≡ take k words
  unfolding controls_of
  controls_are = let e : length words - 1 ≡ k = omega arith in ap (λ n. take n words) e

  target_is : target_of words ≡ get_or words k []
  unfolding target_of
  target_is = let e : length words - 1 ≡ k = omega arith in ap (λ n. get_or words n []) e

  whole : words ≡ take k words ++ (get_or words k [] ∷ [])
  whole = sym (take-length words) ∙ ap (λ n. take n words) (sym last ∙ add-one k) ∙ take-suc words k [] (omega arith)

  gate-parts : are_gate names words ≡ every (declared names) words && distinct (take k words)
  gate-parts = ap (λ us. every (declared names) words && distinct us) controls_are

  apart : are_gate names words ≡ are_controls names (take k words) && among (get_or words k []) names
  apart =
      gate-parts
      ∙ ap (λ b. b && distinct (take k words)) (ap (every (declared names)) whole ∙ every_last (declared names) (take k words) (get_or words k []))
      ∙ and_swapped (every (declared names) (take k words)) (among (get_or words k []) names) (distinct (take k words))

  -- of any number of lines
  pub gate_wide : 32 < length names → (told : Bool) → told ≡ (every (declared names) words && distinct (take k words))
      → GateRead names words (then_some told (record { controls = 0; target = 0 }))
  gate_wide many true e = record { right = gate-parts ∙ sym e; is = λ few. absurd (omega arith) }
  gate_wide many false e = gate-parts ∙ sym e

  pub wrong_controls : are_controls names (take k words) ≡ false → are_gate names words ≡ false
  wrong_controls e = apart ∙ and_left (among (get_or words k []) names) e

  -- the word after the controls is the target, or is not declared
  module _ {mask : ℕ} {left : List Word} (m : Masked names words k mask left) where
    pub some_target : left ≡ [] → ⊥
    some_target e = let y = ap length (sym m.rest ∙ e) in omega (arith, length-drop k words)

    module _ {word : Word} {more : List Word} (e : left ≡ word ∷ more) where
      next : get_or words k [] ≡ word
      next = let p : word ∷ more ≡ get_or words k [] ∷ drop (suc k) words = sym e ∙ m.rest ∙ drop-cons words k [] (omega arith) in cc

      pub no_target : place names word ≡ length names → are_gate names words ≡ false
      no_target f = apart ∙ and_right (are_controls names (take k words)) (rw next (among_nowhere names word f))

      pub gate_narrow : {line : ℕ} → line ≡ place names word → line < length names → IsGate names words (record { controls = mask; target = line })
      unfolding gate_of
      gate_narrow p q = record {
        right = apart ∙ and-true m.right (rw next (among_placed names word (λ z. omega arith)));
        is = λ few. rw (controls_are, target_is, next, m.is, p) refl;
      }
