-- The job image: a header of counts and offsets, then the gates, then the vectors.
use Rattle.std.specs.Prelude.{ℕ, ◌+◌, ◌*◌, ◌/◌, List, [], ◌∷◌, ◌++◌, length}
use Rattle.basics.specs.Lists.{each}
use Rattle.circuit.specs.Limits.{most_gates, most_vectors}
use Rattle.number_bytes.specs.Bytes.{bytes_of, number_at, words_at}

-- how many bytes the header has
abbrev pub header_length : ℕ
header_length = 28

-- where d gates end and the vectors begin, and where m vectors end
abbrev pub past_gates : ℕ → ℕ
past_gates d = header_length + 12 * d

abbrev pub past_vectors : ℕ → ℕ → ℕ
past_vectors d m = past_gates d + 4 * m

-- how many bytes the longest job has
abbrev pub longest_job : ℕ
longest_job = past_vectors most_gates most_vectors

infix 68 byte◌wide◌holds◌
-- a row of the header: at which byte it stands, how many bytes wide it is, and what it holds
pub data HeaderRow : Type 0 where
  byte◌wide◌holds◌ : ℕ → ℕ → ℕ → HeaderRow

-- the header of a job of n lines, some classes, d gates and m vectors
unfoldable pub header : ℕ → ℕ → ℕ → ℕ → List HeaderRow
header n classes d m =
    -- form
    byte 0 wide 2 holds 1 ∷
    -- lines
    byte 2 wide 2 holds n ∷
    -- classes wanted
    byte 4 wide 2 holds classes ∷
    -- nothing
    byte 6 wide 2 holds 0 ∷
    -- gates, vectors
    byte 8 wide 4 holds d ∷
    byte 12 wide 4 holds m ∷
    -- offset of gates, offset of vectors, length of all
    byte 16 wide 4 holds header_length ∷
    byte 20 wide 4 holds past_gates d ∷
    byte 24 wide 4 holds past_vectors d m ∷ []

unfoldable pub row_bytes : HeaderRow → List ℕ
row_bytes (byte at wide width holds value) = bytes_of width value

-- the number of whole gates in a list of words
unfoldable pub gate_count : List ℕ → ℕ
gate_count words = length words / 3

-- the image of a job
unfoldable pub image : ℕ → ℕ → List ℕ → List ℕ → List ℕ
image n classes words xs = each row_bytes (header n classes (gate_count words) (length xs)) ++ (each (bytes_of 4) words ++ each (bytes_of 4) xs)

-- what a job image holds, wherever its bytes come from
unfoldable pub lines_in : List ℕ → ℕ
lines_in bytes = number_at 2 bytes 2

unfoldable pub classes_in : List ℕ → ℕ
classes_in bytes = number_at 2 bytes 4

unfoldable pub gates_in : List ℕ → ℕ
gates_in bytes = number_at 4 bytes 8

unfoldable pub vectors_in : List ℕ → ℕ
vectors_in bytes = number_at 4 bytes 12

-- its gates, three words each, and its vectors
unfoldable pub gate_words : List ℕ → List ℕ
gate_words bytes = words_at (3 * gates_in bytes) bytes header_length

unfoldable pub vector_words : List ℕ → List ℕ
vector_words bytes = words_at (vectors_in bytes) bytes (past_gates (gates_in bytes))
