-- The words of gates that are not bad, and vectors that are not, fit 32 bits; and such gates leave no word over.
use Prim.Native.Nat.{ℕ, ◌*◌, ◌/◌, ◌%◌, ◌^◌, ◌<◌, ◌≤◌}
use mathlib.Core.Path.{◌≡◌}
use mathlib.Core.Bool.{false, not}
use mathlib.Core.List.{List, [], ◌∷◌}
use native.Mathlib.Nat.{le_trans}
use native.Mathlib.Omega.{arith}
use lib.ListN.{length}
use lib.Dec.{eqb, leb}
use lib.Pow.{pow_mono}
use borrow.Author.Tests.{leb-false, eqb-true, not-false}
use Rattle.basics.specs.Lists.{All}
use Rattle.basics.proofs.All.{all_map}
use Rattle.basics.proofs.Tests.{or_neither}
use Rattle.refusals.proofs.Places.{none_bad, none_left}
use Rattle.circuit.specs.Limits.{most_lines}
use Rattle.circuit.specs.Gates.{gates_of}
use Rattle.circuit.specs.Rules.{bad_gate, first_bad_gate, first_bad_vector}
use Rattle.circuit.specs.declared.Gate.{Gate}
use Rattle.circuit.proofs.RuleLaws.{good_gate}

-- a word of 32 bits
abbrev pub Word : ℕ → Type 0
Word w = w < 2 ^ 32

state_fits : (n x : ℕ) → n ≤ most_lines → x < 2 ^ n → Word x
state_fits n x h k = le_trans k (pow_mono h)

pub good_spare : (n : ℕ) (g : Gate) → bad_gate n g ≡ false → g.spare ≡ 0
unfolding bad_gate
good_spare n g e =
    let w = or_neither (not (eqb g.spare 0)) _ (or_neither (leb (2 ^ n) g.controls) _ e).1 in
    eqb-true g.spare 0 (not-false (eqb g.spare 0) w.0)

gate-fits : (n : ℕ) (g : Gate) → n ≤ most_lines → bad_gate n g ≡ false → Word g.controls × (Word g.spare × Word g.target)
gate-fits n g h e =
    let ok = good_gate n g e in
    let spare = good_spare n g e in
    (state_fits n g.controls h ok.controls_in, (omega arith, omega arith))

gates_fit : (n : ℕ) (words : List ℕ) → n ≤ most_lines → All (λ g. bad_gate n g ≡ false) (gates_of words) → length words % 3 ≡ 0 → All Word words
unfolding gates_of
gates_fit n [] h w e = tt
gates_fit n (c ∷ []) h w e = absurd (omega arith)
gates_fit n (c ∷ s ∷ []) h w e = absurd (omega arith)
gates_fit n (c ∷ s ∷ t ∷ rest) h w e =
    let g = gate-fits n (record { controls = c; spare = s; target = t }) h w.0 in
    (g.0, (g.1.0, (g.1.1, gates_fit n rest h w.1 (omega arith))))

module _ (n : ℕ) (words : List ℕ) (good : first_bad_gate n words ≡ 0) where
  left_none : length words % 3 ≡ 0
  unfolding first_bad_gate
  left_none = eqb-true (length words % 3) 0
      (not-false (eqb (length words % 3) 0) (none_left (bad_gate n) (not (eqb (length words % 3) 0)) (gates_of words) 0 good))

  pub words_fit : n ≤ most_lines → All Word words
  unfolding first_bad_gate
  words_fit h = gates_fit n words h (none_bad (bad_gate n) (not (eqb (length words % 3) 0)) (gates_of words) 0 good) left_none

  pub words-whole : 3 * (length words / 3) ≡ length words
  words-whole = let e = left_none in omega arith

pub vectors_fit : (n : ℕ) (xs : List ℕ) → n ≤ most_lines → first_bad_vector n xs ≡ 0 → All Word xs
unfolding first_bad_vector
vectors_fit n xs h e = all_map (λ x k. state_fits n x h (leb-false (2 ^ n) x k)) xs (none_bad (leb (2 ^ n)) false xs 0 e)
