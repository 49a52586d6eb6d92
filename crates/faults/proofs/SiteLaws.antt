-- Laws of sites: which lines they are at the input and at a gate's level, each one of the circuit's lines. Only this file opens what a site is.
use Prim.Native.Nat.{ℕ, zero, suc, ◌^◌, ◌≤◌, ◌<◌}
use mathlib.Core.Path.{◌≡◌, refl, ap, ◌∙◌}
use mathlib.Core.Logic.{by_cases}
use mathlib.Core.Bool.{true, false}
use mathlib.Core.List.{List}
use native.Mathlib.Decide.{dec_le}
use native.Mathlib.Omega.{arith}
use lib.Dec.{eqb}
use borrow.Author.Tests.{eqb-true, ne_eqb}
use Rattle.words.specs.Word.{bit, all_ones}
use Rattle.words.specs.WordOf.{word_of}
use Rattle.words.proofs.Bits.{bit_above}
use Rattle.words.proofs.Masks.{all_ones-lt, bit-all_ones}
use Rattle.words.proofs.WordOfLaws.{on_word_of, word_of-lt}
use Rattle.circuit.specs.Gates.{gate_at}
use Rattle.circuit.specs.Controls.{touches}
use Rattle.circuit.specs.declared.Gate.{Gate}
use Rattle.faults.specs.Sites.{sites}

pub sites_input : (n : ℕ) (gs : List Gate) → sites n gs 0 ≡ all_ones n
unfolding sites
sites_input n gs = refl

pub sites-gate : (n : ℕ) (gs : List Gate) (i : ℕ) → 1 ≤ i → sites n gs i ≡ word_of n (touches (gate_at gs i))
unfolding sites
sites-gate n gs zero lo = absurd (omega arith)
sites-gate n gs (suc i) lo = refl

pub sites-lt : (n : ℕ) (gs : List Gate) (i : ℕ) → sites n gs i < 2 ^ n
unfolding sites
sites-lt n gs zero = all_ones-lt n
sites-lt n gs (suc i) = word_of-lt n (touches (gate_at gs (suc i)))

-- every line is a site at the input
pub input_site : (n : ℕ) (gs : List Gate) (j : ℕ) → j < n → bit (sites n gs 0) j ≡ 1
input_site n gs j h = ap (λ w. bit w j) (sites_input n gs) ∙ bit-all_ones n j h

-- at any other level those that its gate touches are
pub gate_site : (n : ℕ) (gs : List Gate) (i j : ℕ) → 1 ≤ i → j < n → eqb (bit (sites n gs i) j) 1 ≡ touches (gate_at gs i) j
gate_site n gs i j lo h = ap (λ w. eqb (bit w j) 1) (sites-gate n gs i lo) ∙ on_word_of n (touches (gate_at gs i)) j h

-- no line at n or above is a site
pub site_above : (n : ℕ) (gs : List Gate) (i j : ℕ) → n ≤ j → eqb (bit (sites n gs i) j) 1 ≡ false
site_above n gs i j above = ne_eqb (bit (sites n gs i) j) 1 (λ e. omega (arith, bit_above n (sites n gs i) j (sites-lt n gs i) above))

pub site_line : (n : ℕ) (gs : List Gate) (i j : ℕ) → eqb (bit (sites n gs i) j) 1 ≡ true → j < n
site_line n gs i j e = by_cases (dec_le n j)
    (λ above. absurd (omega (arith, bit_above n (sites n gs i) j (sites-lt n gs i) above, eqb-true (bit (sites n gs i) j) 1 e)))
    (λ below. omega arith)
