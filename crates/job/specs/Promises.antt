-- What each call promises: what it tells, and what the memory that it was lent holds afterwards.
use Rattle.std.specs.Prelude.{ℕ, List, [], ◌∷◌, length}
use Rattle.basics.specs.Lists.{onto}
use Rattle.refusals.specs.Tables.{Told, first_of, after}
use Rattle.refusals.specs.Tables.Told.{answered}
use Rattle.job.specs.Image.{image, lines_in, classes_in, gates_in, vectors_in, gate_words, vector_words}
use Rattle.job.specs.Rules.{read_rows, write_rows}

-- ---- reading: bytes, and the words that the two lists held

-- the lines, the classes wanted, the number of gates and the number of vectors
abbrev pub read_tells : List ℕ → List ℕ → List ℕ → Told
read_tells bytes gates vectors = first_of (read_rows bytes (length gates) (length vectors))
    (answered (lines_in bytes ∷ classes_in bytes ∷ gates_in bytes ∷ vectors_in bytes ∷ []))

-- the gates in front of the first list, the vectors in front of the second
abbrev pub read_leaves_gates : List ℕ → List ℕ → List ℕ → List ℕ
read_leaves_gates bytes gates vectors = after (read_rows bytes (length gates) (length vectors)) (onto (gate_words bytes) gates) gates

abbrev pub read_leaves_vectors : List ℕ → List ℕ → List ℕ → List ℕ
read_leaves_vectors bytes gates vectors =
    after (read_rows bytes (length gates) (length vectors)) (onto (vector_words bytes) vectors) vectors

-- ---- writing: lines, classes, gates and vectors, and the bytes that the room held

-- the number of bytes
abbrev pub write_tells : ℕ → ℕ → List ℕ → List ℕ → List ℕ → Told
write_tells n classes words xs room = first_of (write_rows n classes words xs (length room)) (answered (length (image n classes words xs) ∷ []))

-- the image in front
abbrev pub write_leaves : ℕ → ℕ → List ℕ → List ℕ → List ℕ → List ℕ
write_leaves n classes words xs room = after (write_rows n classes words xs (length room)) (onto (image n classes words xs) room) room
