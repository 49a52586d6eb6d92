-- Lines of text: a letter, and numbers.
use Rattle.std.specs.Prelude.{ℕ, List, [], ◌∷◌, ◌++◌}
use Rattle.text.specs.Decimal.{decimal}

-- one blank, then the number
unfoldable pub spaced : ℕ → List ℕ
spaced x = 32 ∷ decimal x

-- a line: a letter, what follows it, and LF
unfoldable pub line : ℕ → List ℕ → List ℕ
line letter rest = letter ∷ (rest ++ (10 ∷ []))
