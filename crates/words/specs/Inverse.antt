-- All lines of a word inverted.
use Rattle.std.specs.Prelude.{ℕ}
use Rattle.std.specs.Int.Bits.{bit_xor}
use Rattle.words.specs.Word.{all_ones}

-- each of n lines inverted
unfoldable pub inverse : ℕ → ℕ → ℕ
inverse n s = bit_xor s (all_ones n)
