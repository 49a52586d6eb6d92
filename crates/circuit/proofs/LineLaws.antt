-- The lines of a gate, as words and counted: its controls, these and the target, and the lines that are neither.
use Prim.Native.Nat.{ℕ, ◌+◌, ◌<◌, zero-le}
use mathlib.Core.Path.{◌≡◌, refl, sym, ap, ◌∙◌}
use mathlib.Core.Logic.{◌≢◌}
use mathlib.Core.Bool.{Bool, true, false, not, ◌&&◌, ◌||◌, and-false, or-true, or-false}
use mathlib.Core.List.{List}
use native.Mathlib.Omega.{arith}
use lib.Bits.{bit_xor}
use lib.ListN.{length}
use lib.Dec.{eqb}
use borrow.Author.Tests.{eq-eqb, ne_eqb, eqb-false}
use Rattle.basics.specs.Lists.{up_from, keep}
use Rattle.basics.proofs.Tests.{by_equal, by_test, or_neither}
use Rattle.basics.proofs.Lists.{keep-parts, keep-cong, keep-keep}
use Rattle.basics.proofs.ListMore.{count_number}
use Rattle.words.specs.Word.{bit, flip, all_ones}
use Rattle.words.specs.Inverse.{inverse}
use Rattle.words.specs.WordOf.{word_of}
use Rattle.words.proofs.Lines.{bit-flip-same, bit_flip_other, flip-lt}
use Rattle.words.proofs.Inverse.{bit-inverse, inverse-lt, inverse_code, on_inverse, not_on}
use Rattle.words.proofs.WordOfLaws.{word_is}
use Rattle.circuit.specs.Controls.{is_control, touches, is_other}
use Rattle.circuit.specs.Sound.{GateOk}
use Rattle.circuit.specs.declared.Gate.{Gate}
use Rattle.circuit.proofs.ControlLaws.{no_control}

pub controls_word : (n : ℕ) (g : Gate) → GateOk n g → g.controls ≡ word_of n (is_control g)
unfolding is_control
controls_word n g ok = word_is n g.controls (λ c. eqb (bit g.controls c) 1) ok.controls_in (λ j h. refl)

-- line j of the word: the target is in, every other line where it is a control
touched_line : (n : ℕ) (g : Gate) → GateOk n g → (j : ℕ) → eqb (bit (flip g.controls g.target) j) 1 ≡ touches g j
unfolding touches is_control
touched_line n g ok j = by_equal g.target j
    (λ e.
    let one : bit (flip g.controls g.target) j ≡ 1 = ap (bit (flip g.controls g.target)) (sym e)
    ∙ omega (arith, bit-flip-same g.controls g.target, no_control g g.target ok.apart) in
    rw (one, eq-eqb j g.target (sym e)) (sym (or-true (eqb (bit g.controls j) 1))))
    (λ d.
    rw (bit_flip_other g.controls g.target j d, ne_eqb j g.target (λ q. d (sym q))) (sym (or-false (eqb (bit g.controls j) 1))))

-- the target is no control, so that code may invert it
pub touched_word : (n : ℕ) (g : Gate) → GateOk n g → flip g.controls g.target ≡ word_of n (touches g)
touched_word n g ok =
    word_is n (flip g.controls g.target) (touches g)
    (flip-lt n g.controls g.target ok.controls_in ok.target_in) (λ j h. touched_line n g ok j)

-- line j of the word: the target is out, every other line is in where it is no control
other_line : (n : ℕ) (g : Gate) → GateOk n g → (j : ℕ) → j < n → eqb (bit (flip (inverse n g.controls) g.target) j) 1 ≡ is_other g j
unfolding is_other touches is_control
other_line n g ok j h = by_equal g.target j
    (λ e.
    let off = no_control g g.target ok.apart in
    let one = bit-inverse n g.controls g.target ok.target_in in
    let zero : bit (flip (inverse n g.controls) g.target) j ≡ 0 = ap (bit (flip (inverse n g.controls) g.target)) (sym e)
    ∙ omega (arith, bit-flip-same (inverse n g.controls) g.target) in
    rw (zero, eq-eqb j g.target (sym e)) (sym (ap not (or-true (eqb (bit g.controls j) 1)))))
    (λ d.
    rw (bit_flip_other (inverse n g.controls) g.target j d, ne_eqb j g.target (λ q. d (sym q)))
    (on_inverse n g.controls j h ∙ sym (not_on g.controls j) ∙ sym (ap not (or-false (eqb (bit g.controls j) 1)))))

others_word : (n : ℕ) (g : Gate) → GateOk n g → flip (inverse n g.controls) g.target ≡ word_of n (is_other g)
others_word n g ok =
    word_is n (flip (inverse n g.controls) g.target) (is_other g)
    (flip-lt n (inverse n g.controls) g.target (inverse-lt n g.controls ok.controls_in) ok.target_in)
    (other_line n g ok)

-- as code makes it, of the word of n ones
pub others_code : (n ones : ℕ) (g : Gate) → GateOk n g → ones ≡ all_ones n → flip (bit_xor g.controls ones) g.target ≡ word_of n (is_other g)
others_code n ones g ok e = ap (λ o. flip (bit_xor g.controls o) g.target) e ∙ ap (λ w. flip w g.target) (inverse_code n g.controls)
    ∙ others_word n g ok

-- ---- which lines, and how many

-- a line that the gate does not touch is neither a control nor the target
pub untouched : (g : Gate) (j : ℕ) → touches g j ≡ false → (is_control g j ≡ false) × (j ≢ g.target)
unfolding touches
untouched g j e = let w = or_neither (is_control g j) (eqb j g.target) e in (w.0, eqb-false j g.target w.1)

-- of the lines that it touches one is the target, and the others are controls
pub touched_count : (n : ℕ) (g : Gate) → GateOk n g → length (keep (touches g) (up_from 0 n)) ≡ length (keep (is_control g) (up_from 0 n)) + 1
unfolding touches
touched_count n g ok =
    let lines : List ℕ = up_from 0 n in
    let at : ℕ → Bool = λ a. eqb a g.target in
    let controls : keep (is_control g) (keep (touches g) lines) ≡ keep (is_control g) lines =
    keep-keep (touches g) (is_control g) lines ∙ keep-cong (λ a. or-and (is_control g a) (at a)) lines in
    let target : keep (λ a. not (is_control g a)) (keep (touches g) lines) ≡ keep at lines =
    keep-keep (touches g) (λ a. not (is_control g a)) lines ∙ keep-cong (λ a. target_alone a) lines in
    omega (
      arith,
      keep-parts (is_control g) (keep (touches g) lines),
      ap length controls,
      ap length target,
      count_number g.target 0 n zero-le (omega arith),
    )
  where
    or-and : (b c : Bool) → (b || c) && b ≡ b
    or-and true c = refl
    or-and false c = and-false c

    target_alone : (a : ℕ) → (is_control g a || eqb a g.target) && not (is_control g a) ≡ eqb a g.target
    target_alone a = by_equal a g.target
        (λ e. rw (eq-eqb a g.target e, ap (is_control g) e ∙ ok.apart))
        (λ d. rw (ne_eqb a g.target d) (by_test (is_control g a) (λ t. rw t) (λ t. rw t)))
