-- Laws of the flat list: a gate is three words.
use Prim.Native.Nat.{ℕ, zero, suc, ◌+◌, ◌-◌, ◌*◌, ◌/◌, ◌<◌, ◌≤◌}
use mathlib.Core.Path.{◌≡◌, refl}
use mathlib.Core.List.{List, [], ◌∷◌}
use native.Mathlib.Nat.{not-suc-le-zero}
use native.Mathlib.Omega.{arith}
use lib.ListN.{length, get_or}
use Rattle.circuit.specs.Gates.{gates_of, no_gate, gate_at}
use Rattle.circuit.specs.declared.Gate.{Gate}

-- as many whole gates as the list has threes
pub gates_count : (words : List ℕ) → length (gates_of words) ≡ length words / 3
unfolding gates_of
gates_count [] = refl
gates_count (c ∷ []) = refl
gates_count (c ∷ s ∷ []) = refl
gates_count (c ∷ s ∷ t ∷ rest) = let r = gates_count rest in omega arith

-- three words on, by the list's own constructors
three : (i k : ℕ) → 3 * suc i + k ≡ suc (suc (suc (3 * i + k)))
three i k = omega arith

-- the gate at place i of the list has the three words from 3 * i
gate-three : (words : List ℕ) (i : ℕ) → i < length (gates_of words)
    → record { controls = get_or words (3 * i) 0; spare = get_or words (3 * i + 1) 0; target = get_or words (3 * i + 2) 0 } ≡ get_or (gates_of words) i no_gate
unfolding gates_of
gate-three [] i h = absurd (not-suc-le-zero h)
gate-three (c ∷ []) i h = absurd (not-suc-le-zero h)
gate-three (c ∷ s ∷ []) i h = absurd (not-suc-le-zero h)
gate-three (c ∷ s ∷ t ∷ rest) zero h = refl
gate-three (c ∷ s ∷ t ∷ rest) (suc i) h =
    let e0 : 3 * suc i ≡ suc (suc (suc (3 * i))) = omega arith in
    rw (three i 1, three i 2, e0) (gate-three rest i (omega arith))

-- the words of gate g, from 1, as code reads them; i gates stand before it
pub gate_words : (words : List ℕ) (i g : ℕ) → i + 1 ≡ g → 3 * g ≤ length words
    → record { controls = get_or words (3 * i) 0; spare = get_or words (3 * i + 1) 0; target = get_or words (3 * i + 2) 0 } ≡ gate_at (gates_of words) g
unfolding gate_at
gate_words words i g e h = let p : g - 1 ≡ i = omega arith in rw p (gate-three words i (omega (arith, gates_count words)))

-- gate i + 1 is the entry after i others
pub gate_entry : (gs : List Gate) (i g : ℕ) → g ≡ i + 1 → gate_at gs g ≡ get_or gs i no_gate
unfolding gate_at
gate_entry gs i g e = let p : g - 1 ≡ i = omega arith in rw p
