-- Numbers as bytes, the lowest byte first.
use Rattle.std.specs.Prelude.{ℕ, zero, suc, ◌+◌, ◌*◌, ◌/◌, ◌%◌, List, [], ◌∷◌, get_or}

-- the bytes of a number, as many as its width
unfoldable pub bytes_of : ℕ → ℕ → List ℕ
bytes_of zero x = []
bytes_of (suc width) x = x % 256 ∷ bytes_of width (x / 256)

-- the number that so many bytes make from a place on
unfoldable pub number_at : ℕ → List ℕ → ℕ → ℕ
number_at zero bytes at = 0
number_at (suc width) bytes at = get_or bytes at 0 + 256 * number_at width bytes (suc at)

-- so many words of 4 bytes from a place on
unfoldable pub words_at : ℕ → List ℕ → ℕ → List ℕ
words_at zero bytes at = []
words_at (suc count) bytes at = number_at 4 bytes at ∷ words_at count bytes (at + 4)
