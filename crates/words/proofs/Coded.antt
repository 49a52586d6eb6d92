-- Laws of words on the terms that code makes: a shifted one, a test as a number, a mask of n lines.
use Rattle.std.specs.Prelude.{ℕ, ◌-◌, ◌*◌, ◌%◌, ◌^◌, ◌≤◌, ◌<◌, ◌≡◌, refl, Bool, true, false, bit_and, bit_xor, eqb}
use Rattle.std.proofs.Common.{◌∙◌, one-mul, zero-mul, arith, shl_exact, pow_pos, pow_mono}
use lib.Bits.{xor_zero_r}
use mir.Val.{bool_byte}
use Rattle.basics.specs.Choice.{choice}
use Rattle.words.specs.Word.{flip, all_on, all_ones}

-- a one shifted to line t is that line's word
pub one_shl : (t : ℕ) → t < 32 → (1 * 2 ^ t) % 2 ^ 32 ≡ 2 ^ t
one_shl t h = shl_exact 1 t 32 (omega arith) (omega arith) ∙ one-mul (2 ^ t)

-- the same in a word of 64 bits, where line 32 is still a line
pub one_shl64 : (t : ℕ) → t ≤ 32 → (1 * 2 ^ t) % 2 ^ 64 ≡ 2 ^ t
one_shl64 t h = shl_exact 1 t 64 (omega arith) (omega arith) ∙ one-mul (2 ^ t)

-- a line inverted by a shifted one
pub flip_shl : (s t : ℕ) → t < 32 → bit_xor s ((1 * 2 ^ t) % 2 ^ 32) ≡ flip s t
unfolding flip
flip_shl s t h = rw (one_shl t h)

-- a line inverted where a test passes: the test as a number, shifted
pub flip_shl_when : (b : Bool) (s t : ℕ) → t < 32 → bit_xor s ((bool_byte b * 2 ^ t) % 2 ^ 32) ≡ choice b (flip s t) s
flip_shl_when true s t h = flip_shl s t h
flip_shl_when false s t h = rw (zero-mul (2 ^ t), xor_zero_r s)

-- the word of n ones
pub shl_some : (n : ℕ) → n ≤ 32 → 1 ≤ (1 * 2 ^ n) % 2 ^ 64
shl_some n h = rw (one_shl64 n h) (pow_pos n)

pub ones_fit : (n : ℕ) → n ≤ 32 → (1 * 2 ^ n) % 2 ^ 64 - 1 < 2 ^ 32
ones_fit n h = rw (one_shl64 n h) (let a = pow_pos n in let b : 2 ^ n ≤ 2 ^ 32 = pow_mono h in omega arith)

pub ones_shl : (n : ℕ) → n ≤ 32 → (1 * 2 ^ n) % 2 ^ 64 - 1 ≡ all_ones n
unfolding all_ones
ones_shl n h = rw (one_shl64 n h)

-- every line of a mask is 1
pub all_on_code : (mask s : ℕ) → eqb (bit_and s mask) mask ≡ all_on mask s
unfolding all_on
all_on_code mask s = refl
