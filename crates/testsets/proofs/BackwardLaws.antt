-- The backward set catches every stuck-at fault: at each level two of its vectors have every line inverted.
use Rattle.std.specs.Prelude.{ℕ, zero, suc, ◌+◌, ◌-◌, ◌^◌, ◌≤◌, ◌<◌, ◌≡◌, refl, ◌≢◌, Bool}
use Rattle.std.specs.Prelude.{true, not, List, ◌∷◌, ◌++◌, map, length, get_or, take, drop, set, bit_xor}
use Rattle.std.proofs.Common.{sym, ap, ap₂, ◌∙◌, arith, pow_pos, drop-set-lt, lit<, ne_eqb}
use mathlib.Core.List.{Memᴰ}
use Rattle.std.proofs.Math.Numerals.{add-two}
use Rattle.std.proofs.lemmas.List.{length-map}
use Rattle.basics.specs.Lists.{up_from, All, onto}
use Rattle.basics.proofs.Tests.{by_equal}
use Rattle.basics.proofs.All.{all_of, all_over, all_mapped}
use Rattle.basics.proofs.Lists.{entry_some, up_from-all, length-up_from, map_up_from_at}
use Rattle.basics.proofs.Fills.{fill_turn, fill_done}
use Rattle.words.specs.Word.{bit, all_ones}
use Rattle.words.specs.Inverse.{inverse}
use Rattle.words.proofs.Bits.{bit_le}
use Rattle.words.proofs.Masks.{all_ones-lt}
use Rattle.words.proofs.Inverse.{bit-inverse, inverse-lt, inverse_of_zero, inverse_code}
use Rattle.circuit.specs.Runs.{forward, backward}
use Rattle.circuit.specs.Sound.{AllOk}
use Rattle.circuit.specs.declared.Gate.{Gate}
use Rattle.circuit.proofs.RunLaws.{forward-lt, backward-lt, forward-backward, backward_none, onward_none, onward-forward}
use Rattle.simulator.specs.Faulty.{caught}
use Rattle.faults.specs.Classes.{fault_of}
use Rattle.judge.specs.Judging.{caught_by_some}
use Rattle.testsets.specs.Sets.{Complete, backward_input, backward_set}
use Rattle.testsets.proofs.SetLaws.{complete_iff}
use Rattle.marking.proofs.MarkLaws.{caught_stuck}
use Rattle.faults.proofs.SiteCount.{site_below}

-- what the vector of level i gives there
pub backward_input_level : (n : ℕ) (gs : List Gate) → AllOk n gs → (i : ℕ) → forward gs i (backward_input n gs i) ≡ inverse n (forward gs i 0)
unfolding backward_input
backward_input_level n gs ok i = forward-backward n gs ok i (inverse n (forward gs i 0))

-- the vector of level 0 has all lines 1
backward_input-zero : (n : ℕ) (gs : List Gate) → backward_input n gs 0 ≡ all_ones n
unfolding backward_input
backward_input-zero n gs = backward_none gs (inverse n (forward gs 0 0)) ∙ ap (inverse n) (sym (onward-forward gs 0 0) ∙ onward_none gs 0 0)
    ∙ inverse_of_zero n

-- the set has the vector of every level
backward_set_has : (n : ℕ) (gs : List Gate) (i : ℕ) → i ≤ length gs → Memᴰ (backward_input n gs i) (backward_set n gs)
unfolding backward_set
backward_set_has n gs zero h = Memᴰ.tail (Memᴰ.head (backward_input-zero n gs))
backward_set_has n gs (suc i) h =
    let rest : List ℕ = map (backward_input n gs) (up_from 1 (length gs)) in
    Memᴰ.tail (Memᴰ.tail
    (up_from-all (λ y. Memᴰ (backward_input n gs y) rest) 1 (length gs) (all_mapped (backward_input n gs) (up_from 1 (length gs))) (suc i)
    (omega arith) (omega arith)))

backward_set_has_zero : (n : ℕ) (gs : List Gate) → Memᴰ 0 (backward_set n gs)
unfolding backward_set
backward_set_has_zero n gs = Memᴰ.head refl

-- a vector that gives the line the other value catches the fault
catches : (n : ℕ) (gs : List Gate) → AllOk n gs → (i j v : ℕ) → i ≤ length gs → j < n → v ≤ 1 → (x : ℕ) → bit (forward gs i x) j ≢ v
    → caught gs (fault_of 1 i j v) x ≡ true
catches n gs ok i j v hi hj hv x d = caught_stuck n gs ok x i j v hi hj hv ∙ ap not (ne_eqb (bit (forward gs i x) j) v d)

-- of all zeros and the vector of level i one gives line j the other value than v
pub backward_complete : (n : ℕ) (gs : List Gate) → AllOk n gs → Complete n gs (backward_set n gs)
unfolding caught_by_some
backward_complete n gs ok = (complete_iff n gs (backward_set n gs)).1 (λ i j v hi o hv.
    let hj : j < n = site_below n gs i j o in
    let s : ℕ = forward gs i 0 in
    let x : ℕ = backward_input n gs i in
    let seen : bit (forward gs i x) j ≡ 1 - bit s j = ap (λ t. bit t j) (backward_input_level n gs ok i) ∙ bit-inverse n s j hj in
    let p : ℕ → Bool = caught gs (fault_of 1 i j v) in
    by_equal (bit s j) v
    (λ e. entry_some p (backward_set_has n gs i hi) (catches n gs ok i j v hi hj hv x (omega (arith, bit_le s j))))
    (λ d. entry_some p (backward_set_has_zero n gs) (catches n gs ok i j v hi hj hv 0 d)))

-- its vectors are inputs
backward_input-lt : (n : ℕ) (gs : List Gate) → AllOk n gs → (i : ℕ) → backward_input n gs i < 2 ^ n
unfolding backward_input
backward_input-lt n gs ok i = backward-lt n gs ok i (inverse n (forward gs i 0)) (inverse-lt n (forward gs i 0) (forward-lt n gs ok i 0 (pow_pos n)))

pub backward_lts : (n : ℕ) (gs : List Gate) → AllOk n gs → All (λ x. x < 2 ^ n) (backward_set n gs)
unfolding backward_set
backward_lts n gs ok = (
  pow_pos n,
  (
    all_ones-lt n,
    all_over (λ x. x < 2 ^ n) (backward_input n gs) (up_from 1 (length gs))
        (all_of _ (backward_input-lt n gs ok) (up_from 1 (length gs))),
  ),
)

-- two, and one for each gate
pub backward-length : (n : ℕ) (gs : List Gate) → length (backward_set n gs) ≡ length gs + 2
unfolding backward_set
backward-length n gs = ap (λ l. suc (suc l)) (length-map (up_from 1 (length gs)) (backward_input n gs) ∙ length-up_from 1 (length gs)) ∙ omega arith

-- ---- the set as it is made: all zeros, all ones, and a vector a turn

backward_later : (n : ℕ) (gs : List Gate) (i : ℕ) → i < length gs → get_or (backward_set n gs) (i + 2) 0 ≡ backward_input n gs (i + 1)
unfolding backward_set
backward_later n gs i h =
    ap (λ k. get_or (0 ∷ all_ones n ∷ map (backward_input n gs) (up_from 1 (length gs))) k 0) (add-two i)
    ∙ map_up_from_at (backward_input n gs) 1 (length gs) i h ∙ ap (backward_input n gs) (omega arith)

backward-first : (n : ℕ) (gs : List Gate) → 0 ≡ get_or (backward_set n gs) 0 0
unfolding backward_set
backward-first n gs = refl

backward_second : (n : ℕ) (gs : List Gate) → all_ones n ≡ get_or (backward_set n gs) 1 0
unfolding backward_set
backward_second n gs = refl

module _ (n : ℕ) (gs : List Gate) (ones : ℕ) (ones_are : ones ≡ all_ones n) (old : List ℕ) (wide : length gs + 2 ≤ length old) where
  pub backward_begin : set (set old 0 0) 1 ones ≡ take 2 (backward_set n gs) ++ drop 2 (set (set old 0 0) 1 ones)
  backward_begin =
      let many = backward-length n gs in
      let one = fill_turn (backward_set n gs) old old 0 0 (omega arith) (omega arith) refl (backward-first n gs) in
      fill_turn (backward_set n gs) old (set old 0 0) 1 ones (omega arith) (omega arith) one (ones_are ∙ backward_second n gs)
      ∙ ap (λ l. take 2 (backward_set n gs) ++ l) (sym (drop-set-lt 2 (set old 0 0) 1 ones (lit< tt) ∙ drop-set-lt 2 old 0 0 (lit< tt)))

  -- level i + 1, whose state of all zeros is s
  pub backward_turn : (now : List ℕ) (i k s v : ℕ) → i < length gs → s ≡ forward gs (i + 1) 0 → k ≡ i + 1 → v ≡ backward gs k (bit_xor s ones)
      → now ≡ take (i + 2) (backward_set n gs) ++ drop (i + 2) old
      → set now (i + 2) v ≡ take (i + 1 + 2) (backward_set n gs) ++ drop (i + 1 + 2) old
  unfolding backward_input
  backward_turn now i k s v h here number back e =
      let many = backward-length n gs in
      let next : i + 1 + 2 ≡ i + 2 + 1 = omega arith in
      let input : v ≡ backward_input n gs (i + 1) =
      back ∙ ap₂ (backward gs) number (ap₂ bit_xor here ones_are ∙ inverse_code n (forward gs (i + 1) 0)) in
      rw next (fill_turn (backward_set n gs) old now (i + 2) v (omega arith) (omega arith) e (input ∙ sym (backward_later n gs i h)))

-- after the last turn the whole set stands there
pub backward_end : (n : ℕ) (gs : List Gate) (old now : List ℕ) (i : ℕ) → i ≡ length gs → now ≡ take (i + 2) (backward_set n gs) ++ drop (i + 2) old
    → now ≡ onto (backward_set n gs) old
backward_end n gs old now i h e = fill_done (backward_set n gs) old now (i + 2) (omega (arith, backward-length n gs)) e

-- what stands past the set is what stood there
pub backward_rest : (n : ℕ) (gs : List Gate) (ones : ℕ) (old : List ℕ)
    → drop (length (backward_set n gs)) (set (set old 0 0) 1 ones) ≡ drop (length (backward_set n gs)) old
backward_rest n gs ones old =
    let m : ℕ = length (backward_set n gs) in
    let many = backward-length n gs in
    drop-set-lt m (set old 0 0) 1 ones (omega arith) ∙ drop-set-lt m old 0 0 (omega arith)
