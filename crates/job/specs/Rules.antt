-- The rules of a job, read and written.
use Rattle.std.specs.Prelude.{ℕ, ◌*◌, Bool, not, ◌||◌, List, [], ◌∷◌, ◌++◌, length, eqb, ltb}
use Rattle.refusals.specs.Tables.{Row}
use Rattle.refusals.specs.Tables.Row.{refuse◌at◌when◌}
use Rattle.circuit.specs.Rules.{bad_lines, bad_counts, first_bad_gate, first_bad_vector}
use Rattle.number_bytes.specs.Bytes.{number_at}
use Rattle.job.specs.Image.{header_length, past_gates, past_vectors, gate_count, image}
use Rattle.job.specs.Image.{lines_in, classes_in, gates_in, vectors_in, gate_words, vector_words}

-- classes 0 or above 15
unfoldable pub bad_classes : ℕ → Bool
bad_classes classes = eqb classes 0 || ltb 15 classes

-- an offset or the length is not as the counts say, or the bytes lent are not that many
unfoldable pub bad_sizes : List ℕ → Bool
bad_sizes bytes =
    not (eqb (number_at 4 bytes 16) header_length)
    || (not (eqb (number_at 4 bytes 20) (past_gates (gates_in bytes)))
    || (not (eqb (number_at 4 bytes 24) (past_vectors (gates_in bytes) (vectors_in bytes)))
    || not (eqb (length bytes) (past_vectors (gates_in bytes) (vectors_in bytes)))))

-- room for too few words of gates or too few vectors
abbrev pub bad_room : List ℕ → ℕ → ℕ → Bool
bad_room bytes gate_room vector_room = ltb gate_room (3 * gates_in bytes) || ltb vector_room (vectors_in bytes)

-- rules 1 to 6, of the header
unfoldable pub header_rows : List ℕ → List Row
header_rows bytes =
    refuse 1 at 0 when ltb (length bytes) header_length ∷
    refuse 2 at 0 when not (eqb (number_at 2 bytes 0) 1) ∷
    refuse 3 at 0 when bad_lines (lines_in bytes) ∷
    refuse 4 at 0 when (bad_classes (classes_in bytes) || not (eqb (number_at 2 bytes 6) 0)) ∷
    refuse 5 at 0 when bad_counts (gates_in bytes) (vectors_in bytes) ∷
    refuse 6 at 0 when bad_sizes bytes ∷ []

-- rules 7 and 8, of the gates and the vectors
unfoldable pub content_rows : ℕ → List ℕ → List ℕ → List Row
content_rows n words xs =
    refuse 7 at first_bad_gate n words when not (eqb (first_bad_gate n words) 0) ∷
    refuse 8 at first_bad_vector n xs when not (eqb (first_bad_vector n xs) 0) ∷ []

abbrev pub content_rows_in : List ℕ → List Row
content_rows_in bytes = content_rows (lines_in bytes) (gate_words bytes) (vector_words bytes)

-- rule 10, of the room
abbrev pub room_rows : List ℕ → ℕ → ℕ → List Row
room_rows bytes gate_room vector_room = refuse 10 at 0 when bad_room bytes gate_room vector_room ∷ []

-- a job read out of bytes, into room for so many words of gates and so many vectors
unfoldable pub read_rows : List ℕ → ℕ → ℕ → List Row
read_rows bytes gate_room vector_room = header_rows bytes ++ (content_rows_in bytes ++ room_rows bytes gate_room vector_room)

-- a job written into room for so many bytes
unfoldable pub write_rows : ℕ → ℕ → List ℕ → List ℕ → ℕ → List Row
write_rows n classes words xs room =
    refuse 3 at 0 when bad_lines n ∷
    refuse 4 at 0 when bad_classes classes ∷
    refuse 5 at 0 when bad_counts (gate_count words) (length xs) ∷ (content_rows n words xs ++ (
    refuse 10 at 0 when ltb room (length (image n classes words xs)) ∷ []))
