-- Laws of a line inverted, by the lowest line and the half above it.
use Rattle.std.proofs.Common.{ℕ, suc, ◌+◌, ◌*◌, ◌^◌, ◌<◌, ◌≡◌, sym, ap, ◌∙◌, add-zero, pow-suc, lit<, bit_xor}
use lib.Bits.{xor_block, xor_shifted, xor_zero_r}
use Rattle.words.specs.Word.{flip}
use Rattle.words.proofs.Lines.{flip-flip}

-- the lowest line, of an even number and of an odd one
pub flip_even : (x : ℕ) → flip (x * 2) 0 ≡ x * 2 + 1
unfolding flip
flip_even x = xor_shifted x 1 1 (lit< tt)

pub flip_odd : (x : ℕ) → flip (x * 2 + 1) 0 ≡ x * 2
flip_odd x = ap (λ y. flip y 0) (sym (flip_even x)) ∙ flip-flip (x * 2) 0

-- a line above the lowest is a line of the half
pub flip_upper : (x r t : ℕ) → r < 2 → flip (x * 2 + r) (suc t) ≡ flip x t * 2 + r
unfolding flip
flip_upper x r t h =
    ap (bit_xor (x * 2 + r)) (pow-suc 2 t ∙ sym (add-zero (2 ^ t * 2))) ∙ xor_block 1 x (2 ^ t) r 0 h (lit< tt)
    ∙ ap (λ y. bit_xor x (2 ^ t) * 2 + y) (xor_zero_r r)

pub flip_upper_even : (x t : ℕ) → flip (x * 2) (suc t) ≡ flip x t * 2
flip_upper_even x t = ap (λ y. flip y (suc t)) (sym (add-zero (x * 2))) ∙ flip_upper x 0 t (lit< tt) ∙ add-zero (flip x t * 2)
