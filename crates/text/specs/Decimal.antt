-- Numbers in decimal, as bytes.
use Rattle.std.specs.Prelude.{ℕ, zero, suc, ◌+◌, ◌/◌, ◌%◌, Bool, not, ◌&&◌, ◌||◌, List, [], ◌∷◌, ◌++◌, length, eqb, ltb, leb}
use Rattle.basics.specs.Choice.{choice}
use Rattle.text.specs.Texts.{begins, every}

-- the byte of a digit: 0 is byte 48
unfoldable pub digit : ℕ → ℕ
digit d = 48 + d

-- a number in decimal, with no zero in front, in so many places at most
unfoldable pub decimal_in : ℕ → ℕ → List ℕ
decimal_in zero x = []
decimal_in (suc places) x = choice (ltb x 10) (digit x ∷ []) (decimal_in places (x / 10) ++ (digit (x % 10) ∷ []))

-- a number has no more digits than one more than itself
unfoldable pub decimal : ℕ → List ℕ
decimal x = decimal_in (suc x) x

unfoldable pub is_digit : ℕ → Bool
is_digit b = leb 48 b && leb b 57

-- digits with no zero in front, but for 0 itself
unfoldable pub is_number : List ℕ → Bool
is_number t = every is_digit t && (not (begins (eqb 48) t) || eqb (length t) 1)
