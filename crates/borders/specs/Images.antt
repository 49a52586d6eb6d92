-- Job images, typed out byte by byte: the sample job, the shortest and the longest.
use Rattle.std.specs.Prelude.{ℕ, List, [], ◌∷◌, ◌++◌, replicate, set}

-- the image of the sample job
unfoldable pub job : List ℕ
job =
    -- form, lines, classes, nothing, gates, vectors
    1 ∷ 0 ∷ 3 ∷ 0 ∷ 15 ∷ 0 ∷ 0 ∷ 0 ∷ 2 ∷ 0 ∷ 0 ∷ 0 ∷ 3 ∷ 0 ∷ 0 ∷ 0 ∷
    -- offset of gates, offset of vectors, length of all
    28 ∷ 0 ∷ 0 ∷ 0 ∷ 52 ∷ 0 ∷ 0 ∷ 0 ∷ 64 ∷ 0 ∷ 0 ∷ 0 ∷
    -- gates: controls, spare, target
    3 ∷ 0 ∷ 0 ∷ 0 ∷ 0 ∷ 0 ∷ 0 ∷ 0 ∷ 2 ∷ 0 ∷ 0 ∷ 0 ∷
    1 ∷ 0 ∷ 0 ∷ 0 ∷ 0 ∷ 0 ∷ 0 ∷ 0 ∷ 1 ∷ 0 ∷ 0 ∷ 0 ∷
    -- vectors
    0 ∷ 0 ∷ 0 ∷ 0 ∷ 3 ∷ 0 ∷ 0 ∷ 0 ∷ 5 ∷ 0 ∷ 0 ∷ 0 ∷ []

-- a job with no gates and no vectors
unfoldable pub bare_job : List ℕ
bare_job = 1 ∷ 0 ∷ 3 ∷ 0 ∷ 15 ∷ 0 ∷ 0 ∷ 0 ∷ 0 ∷ 0 ∷ 0 ∷ 0 ∷ 0 ∷ 0 ∷ 0 ∷ 0 ∷ 28 ∷ 0 ∷ 0 ∷ 0 ∷ 28 ∷ 0 ∷ 0 ∷ 0 ∷ 28 ∷ 0 ∷ 0 ∷ 0 ∷ []

infixl 70 ◌but◌is◌
-- the same bytes but one
abbrev pub ◌but◌is◌ : List ℕ → ℕ → ℕ → List ℕ
bytes but at is value = set bytes at value

-- a header of 1 line, class 1, so many gates and vectors, with the offset of vectors and the length: two bytes each, low byte first
abbrev pub header_of : ℕ → ℕ → ℕ → ℕ → ℕ → ℕ → ℕ → ℕ → List ℕ
header_of gates gatesHigh vectors vectorsHigh offset offsetHigh end endHigh =
    1 ∷ 0 ∷ 1 ∷ 0 ∷ 1 ∷ 0 ∷ 0 ∷ 0 ∷ gates ∷ gatesHigh ∷ 0 ∷ 0 ∷ vectors ∷ vectorsHigh ∷ 0 ∷ 0 ∷
    28 ∷ 0 ∷ 0 ∷ 0 ∷ offset ∷ offsetHigh ∷ 0 ∷ 0 ∷ end ∷ endHigh ∷ 0 ∷ 0 ∷ []

-- the longest job: 1,024 gates and 2,048 vectors, every word of them 0
unfoldable pub longest_job : List ℕ
longest_job = header_of 0 4 0 8 28 48 28 80 ++ replicate 20480 0
