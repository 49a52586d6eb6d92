-- The bits of a word. Bit j is the value of line j.
use Rattle.std.specs.Prelude.{ℕ, ◌-◌, ◌/◌, ◌%◌, ◌^◌, Bool, List, eqb}
use Rattle.std.specs.Int.Bits.{bit_and, bit_xor}
use Rattle.basics.specs.Choice.{choice}
use Rattle.basics.specs.Lists.{up_from, keep}

-- the value of line j
unfoldable pub bit : ℕ → ℕ → ℕ
bit s j = s / 2 ^ j % 2

-- line j inverted
unfoldable pub flip : ℕ → ℕ → ℕ
flip s j = bit_xor s (2 ^ j)

-- line j forced to v
unfoldable pub force : ℕ → ℕ → ℕ → ℕ
force s j v = choice (eqb (bit s j) v) s (flip s j)

-- every line of the mask is 1
unfoldable pub all_on : ℕ → ℕ → Bool
all_on mask s = eqb (bit_and s mask) mask

-- n lines that are all 1
unfoldable pub all_ones : ℕ → ℕ
all_ones n = 2 ^ n - 1

-- the lines below n that are 1
unfoldable pub lines_on : ℕ → ℕ → List ℕ
lines_on n w = keep (λ j. eqb (bit w j) 1) (up_from 0 n)
