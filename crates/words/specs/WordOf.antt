-- Words by their lines: the lines below n that pass a test, and what a word lacks of a mask.
use Rattle.std.specs.Prelude.{ℕ, zero, suc, ◌+◌, ◌*◌, Bool, ◌&&◌, eqb}
use Rattle.std.specs.Int.Bits.{bit_and, bit_xor}
use Rattle.basics.specs.Choice.{count}
use Rattle.words.specs.Word.{bit, force, all_on}

-- line 0 in bit 0, and the others above it
unfoldable pub word_of : ℕ → (ℕ → Bool) → ℕ
word_of zero p = 0
word_of (suc n) p = count (p 0) + 2 * word_of n (λ j. p (suc j))

-- the lines of the mask that are 0 in the word
unfoldable pub lacking : ℕ → ℕ → ℕ
lacking mask s = bit_xor (bit_and s mask) mask

-- the one line of the mask that is 0 where all its others are 1, as a word; and 0 where there is none
unfoldable pub lone_zero : ℕ → ℕ → ℕ
lone_zero mask s = word_of 32 (λ c. eqb (bit mask c) 1 && (eqb (bit s c) 0 && all_on (force mask c 0) s))
