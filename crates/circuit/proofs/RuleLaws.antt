-- Laws of the rules of a circuit: which test breaks which rule, and what a circuit that breaks none is.
use Prim.Native.Nat.{ℕ, ◌+◌, ◌-◌, ◌*◌, ◌/◌, ◌%◌, ◌^◌, ◌<◌, ◌≤◌}
use mathlib.Core.Path.{◌≡◌, refl, ap, ◌∙◌}
use mathlib.Core.Bool.{true, false, not}
use mathlib.Core.List.{List, ◌++◌}
use native.Mathlib.Omega.{arith}
use lib.ListN.{length}
use lib.Dec.{eqb, ltb, leb}
use borrow.Author.Tests.{ltb-false, leb-false, eqb-true, not-false, le-ltb, le-leb, lt-leb, eq-eqb, ne_eqb}
use Rattle.basics.specs.Lists.{All}
use Rattle.basics.proofs.Tests.{or_neither, or-false, or_left, or_right}
use Rattle.basics.proofs.All.{all_map, all_at}
use Rattle.refusals.specs.Tables.{first_of}
use Rattle.refusals.specs.Answers.{fine}
use Rattle.refusals.specs.Places.{in_word}
use Rattle.refusals.proofs.Tables.{Numbered, fine_row, fine-parts}
use Rattle.refusals.proofs.Places.{rule_told, in_word_small, bad-le, none_bad, none_left}
use Rattle.circuit.specs.Limits.{most_lines, most_gates, most_vectors}
use Rattle.circuit.specs.Gates.{gates_of, no_gate, gate_at}
use Rattle.circuit.specs.Controls.{is_control}
use Rattle.circuit.specs.Rules.{bad_lines, bad_counts, bad_gate, first_bad_gate, first_bad_vector}
use Rattle.circuit.specs.Rules.{circuit_set_rows, circuit_rows, set_rows, vector_rows, level_rows, run_rows}
use Rattle.circuit.specs.Sound.{GateOk, AllOk, Sound}
use Rattle.circuit.specs.declared.Gate.{Gate}
use Rattle.circuit.proofs.GateLaws.{gates_count}

-- ---- a bad gate: one law for each of its four faults, and one for none

module _ (n : ℕ) (g : Gate) where
  pub bad_controls : 2 ^ n ≤ g.controls → bad_gate n g ≡ true
  unfolding bad_gate
  bad_controls h = or_left _ (le-leb (2 ^ n) g.controls h)

  pub bad_spare : (g.spare ≡ 0 → ⊥) → bad_gate n g ≡ true
  unfolding bad_gate
  bad_spare h = or_right (leb (2 ^ n) g.controls) (or_left _ (ap not (ne_eqb g.spare 0 h)))

  pub bad_target : n ≤ g.target → bad_gate n g ≡ true
  unfolding bad_gate
  bad_target h = or_right (leb (2 ^ n) g.controls) (or_right (not (eqb g.spare 0)) (or_left _ (le-leb n g.target h)))

  -- past the other three, the target decides
  pub bad_last : g.controls < 2 ^ n → g.spare ≡ 0 → g.target < n → is_control g g.target ≡ bad_gate n g
  unfolding bad_gate
  bad_last c s t = rw (lt-leb (2 ^ n) g.controls c, eq-eqb g.spare 0 s, lt-leb n g.target t)

  -- a gate with no fault
  pub good_gate : bad_gate n g ≡ false → GateOk n g
  unfolding bad_gate
  good_gate e =
      let w = or_neither (leb (2 ^ n) g.controls) _ e in
      let v = or_neither (not (eqb g.spare 0)) _ w.1 in
      let u = or_neither (leb n g.target) (is_control g g.target) v.1 in
      record {
        controls_in = leb-false (2 ^ n) g.controls w.0;
        target_in = leb-false n g.target u.0;
        apart = u.1;
      }

-- ---- the rules of a circuit

pub lines_right : (n : ℕ) → bad_lines n ≡ false → (1 ≤ n) × (n ≤ most_lines)
unfolding bad_lines
lines_right n e = let w = or_neither (ltb n 1) (ltb most_lines n) e in (ltb-false n 1 w.0, ltb-false most_lines n w.1)

pub counts_right : (d m : ℕ) → bad_counts d m ≡ false → (d ≤ most_gates) × (m ≤ most_vectors)
unfolding bad_counts
counts_right d m e = let w = or_neither (ltb most_gates d) (ltb most_vectors m) e in (ltb-false most_gates d w.0, ltb-false most_vectors m w.1)

pub lines_good : (n : ℕ) → 1 ≤ n → n ≤ most_lines → bad_lines n ≡ false
unfolding bad_lines
lines_good n lo hi = or-false (le-ltb n 1 lo) (le-ltb most_lines n hi)

pub counts_good : (d m : ℕ) → d ≤ most_gates → m ≤ most_vectors → bad_counts d m ≡ false
unfolding bad_counts
counts_good d m h k = or-false (le-ltb most_gates d h) (le-ltb most_vectors m k)

-- the number of a bad gate is a gate's, or the next
pub first_bad-le : (n : ℕ) (words : List ℕ) → first_bad_gate n words ≤ 1 + length words / 3
unfolding first_bad_gate
first_bad-le n words = omega (arith, gates_count words, bad-le (bad_gate n) (not (eqb (length words % 3) 0)) (gates_of words) 1)

pub first_vector_le : (n : ℕ) (xs : List ℕ) → first_bad_vector n xs ≤ 1 + length xs
unfolding first_bad_vector
first_vector_le n xs = bad-le (leb (2 ^ n)) false xs 1

-- within the limits the place of a bad gate or vector is one that a word holds
pub gate_word : (n : ℕ) (words : List ℕ) → length words / 3 ≤ most_gates → in_word (first_bad_gate n words) ≡ first_bad_gate n words
gate_word n words h = in_word_small (first_bad_gate n words) (omega (arith, first_bad-le n words))

pub vector_word : (n : ℕ) (xs : List ℕ) → length xs ≤ most_vectors → in_word (first_bad_vector n xs) ≡ first_bad_vector n xs
vector_word n xs h = in_word_small (first_bad_vector n xs) (omega (arith, first_vector_le n xs))

-- the rows of a circuit with a set of m vectors, where those before the gates are kept
module _ (n : ℕ) (words : List ℕ) (m : ℕ) (lines : bad_lines n ≡ false) (counts : bad_counts (length words / 3) m ≡ false) where
  pub set_gates : rule_told 7 (first_bad_gate n words) ≡ first_of (circuit_set_rows n words m) fine
  unfolding circuit_set_rows
  set_gates = rw (lines, gates_count words, counts, gate_word n words (counts_right _ _ counts).0) refl

-- a circuit that breaks no rule
sound_gates : (n : ℕ) (words : List ℕ) → first_bad_gate n words ≡ 0 → AllOk n (gates_of words)
unfolding first_bad_gate
sound_gates n words e = all_map (good_gate n) (gates_of words) (none_bad (bad_gate n) (not (eqb (length words % 3) 0)) (gates_of words) 0 e)

sound_whole : (n : ℕ) (words : List ℕ) → first_bad_gate n words ≡ 0 → length words ≡ 3 * length (gates_of words)
unfolding first_bad_gate
sound_whole n words e =
    let z = eqb-true (length words % 3) 0
    (not-false (eqb (length words % 3) 0) (none_left (bad_gate n) (not (eqb (length words % 3) 0)) (gates_of words) 0 e)) in
    omega (arith, gates_count words)

-- with a set of m vectors
pub record SetOk (n : ℕ) (words : List ℕ) (m : ℕ) : Type 0 where
  pub circuit : Sound n words
  pub vectors_fit : m ≤ most_vectors

pub circuit_set_ok : (n : ℕ) (words : List ℕ) (m : ℕ) → fine ≡ first_of (circuit_set_rows n words m) fine → SetOk n words m
unfolding circuit_set_rows
circuit_set_ok n words m e0 =
    let e1 = fine_row (bad_lines n) 3 0 _ e0 in
    let lines = lines_right n e1.0 in
    let e2 = fine_row (bad_counts (length (gates_of words)) m) 5 0 _ e1.1 in
    let counts = counts_right (length (gates_of words)) m e2.0 in
    let e3 = fine_row (not (eqb (first_bad_gate n words) 0)) 7 (first_bad_gate n words) _ e2.1 in
    let bad = eqb-true (first_bad_gate n words) 0 (not-false (eqb (first_bad_gate n words) 0) e3.0) in
    record {
      circuit = record {
        some_lines = lines.0;
        lines_fit = lines.1;
        gates_fit = counts.0;
        whole = sound_whole n words bad;
        gates_ok = sound_gates n words bad;
      };
      vectors_fit = counts.1;
    }

-- the rows one by one
pub sound_rows : (n : ℕ) (words : List ℕ) (m : ℕ) → bad_lines n ≡ false → bad_counts (length words / 3) m ≡ false → fine ≡ rule_told 7 (first_bad_gate n words)
    → Sound n words
sound_rows n words m lines counts gates = (circuit_set_ok n words m (gates ∙ set_gates n words m lines counts)).circuit

pub ruleset rows = (gates_count, lines_right, counts_right, gate_word, vector_word)

pub sound : (n : ℕ) (words : List ℕ) → fine ≡ first_of (circuit_rows n words) fine → Sound n words
unfolding circuit_rows
sound n words e = (circuit_set_ok n words 0 e).circuit

-- a set whose vectors all fit
pub record VectorsOk (n : ℕ) (words xs : List ℕ) : Type 0 where
  pub set : SetOk n words (length xs)
  pub vectors : All (λ x. x < 2 ^ n) xs

vectors_good : (n : ℕ) (xs : List ℕ) → first_bad_vector n xs ≡ 0 → All (λ x. x < 2 ^ n) xs
unfolding first_bad_vector
vectors_good n xs e = all_map (λ x. leb-false (2 ^ n) x) xs (none_bad (leb (2 ^ n)) false xs 0 e)

pub vectors_ok : (n : ℕ) (words xs : List ℕ) → fine ≡ first_of (set_rows n words xs) fine → VectorsOk n words xs
unfolding set_rows
vectors_ok n words xs e =
    let w = fine-parts (circuit_set_rows n words (length xs)) _ e in
    let bad = fine_row (not (eqb (first_bad_vector n xs) 0)) 8 (first_bad_vector n xs) fine w.1 in
    record {
      set = circuit_set_ok n words (length xs) w.0;
      vectors = vectors_good n xs (eqb-true (first_bad_vector n xs) 0 (not-false (eqb (first_bad_vector n xs) 0) bad.0));
    }

-- gate g, from 1
pub gate_at_ok : (n : ℕ) (gs : List Gate) (g : ℕ) → AllOk n gs → 0 < g → g ≤ length gs → GateOk n (gate_at gs g)
unfolding gate_at
gate_at_ok n gs g ok p h = all_at (GateOk n) gs (g - 1) no_gate (omega arith) ok

pub gate_ok : (n : ℕ) (words : List ℕ) (g : ℕ) → Sound n words → 0 < g → g ≤ length (gates_of words) → GateOk n (gate_at (gates_of words) g)
gate_ok n words g s p h = gate_at_ok n (gates_of words) g s.gates_ok p h

pub target_fits : (n : ℕ) (words : List ℕ) (g : ℕ) → Sound n words → 0 < g → g ≤ length (gates_of words) → (gate_at (gates_of words) g).target < most_lines
target_fits n words g s p h = let ok = gate_ok n words g s p h in omega arith

-- ---- a vector with its circuit, and a run

pub record VectorOk (n : ℕ) (words : List ℕ) (x : ℕ) : Type 0 where
  pub circuit : Sound n words
  pub vector : x < 2 ^ n

pub vector_ok : (n : ℕ) (words : List ℕ) (x : ℕ) → fine ≡ first_of (circuit_rows n words ++ vector_rows n x) fine → VectorOk n words x
unfolding vector_rows
vector_ok n words x e =
    let w = fine-parts (circuit_rows n words) (vector_rows n x) e in
    record { circuit = sound n words w.0; vector = leb-false (2 ^ n) x (fine_row (leb (2 ^ n) x) 8 1 fine w.1).0 }

-- every rule of them has a number
pub vector_numbered : (n : ℕ) (words : List ℕ) (x : ℕ) → Numbered (circuit_rows n words ++ vector_rows n x)
unfolding circuit_rows circuit_set_rows vector_rows
vector_numbered n words x = (λ e. omega arith, (λ e. omega arith, (λ e. omega arith, (λ e. omega arith, tt))))

pub record RunOk (n : ℕ) (words : List ℕ) (i s : ℕ) : Type 0 where
  pub state : VectorOk n words s
  pub level : i ≤ length (gates_of words)

pub run_ok : (n : ℕ) (words : List ℕ) (i s : ℕ) → fine ≡ first_of (run_rows n words i s) fine → RunOk n words i s
unfolding run_rows level_rows
run_ok n words i s e =
    let w = fine-parts (circuit_rows n words ++ vector_rows n s) (level_rows words i) e in
    record { state = vector_ok n words s w.0; level = ltb-false _ i (fine_row (ltb (length (gates_of words)) i) 12 0 fine w.1).0 }
