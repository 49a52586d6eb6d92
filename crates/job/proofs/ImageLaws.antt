-- Laws of the image: its length, and what code makes of it.
use Rattle.std.proofs.Common.{ℕ, ◌+◌, ◌*◌, ◌≤◌, ◌≡◌, ◌∙◌, List, [], ◌∷◌, ◌++◌, length, take, drop}
use Rattle.std.proofs.Common.{refl, sym, ap, arith, length-append, take_at, length-take-le}
use Rattle.std.proofs.Math.Seq.{sets}
use Rattle.basics.specs.Lists.{each, onto}
use Rattle.basics.proofs.Lists.{length-each}
use Rattle.number_bytes.specs.Bytes.{bytes_of}
use Rattle.job.specs.Image.{header_length, past_gates, header, row_bytes, gate_count, image}
use Rattle.job.specs.Image.{gates_in, vectors_in, gate_words, vector_words}
use Rattle.basics.proofs.PutLaws.{sets-append, sets_front}
use Rattle.number_bytes.proofs.ByteLaws.{length_bytes, length-words}

-- ---- lengths

pub length-header : (n k d m : ℕ) → length (each row_bytes (header n k d m)) ≡ header_length
unfolding header row_bytes each bytes_of
length-header n k d m = refl

pub length_words_bytes : (words : List ℕ) → length (each (bytes_of 4) words) ≡ 4 * length words
length_words_bytes words = length-each (bytes_of 4) 4 (length_bytes 4) words ∙ omega arith

pub length-image : (n k : ℕ) (words xs : List ℕ) → length (image n k words xs) ≡ header_length + 4 * length words + 4 * length xs
unfolding image
length-image n k words xs =
    let front : List ℕ = each row_bytes (header n k (gate_count words) (length xs)) in
    omega (
      arith,
      length-append front (each (bytes_of 4) words ++ each (bytes_of 4) xs),
      length-append (each (bytes_of 4) words) (each (bytes_of 4) xs),
      length-header n k (gate_count words) (length xs),
      length_words_bytes words,
      length_words_bytes xs,
    )

-- ---- what code stores

pub put_image : (l headed gated last : List ℕ) (n k : ℕ) (words xs : List ℕ) → length (image n k words xs) ≤ length l
    → headed ≡ sets l 0 (each row_bytes (header n k (gate_count words) (length xs)))
    → gated ≡ sets headed header_length (each (bytes_of 4) words)
    → last ≡ sets gated (header_length + 4 * length words) (each (bytes_of 4) xs)
    → last ≡ onto (image n k words xs) l
unfolding image
put_image l headed gated last n k words xs h p q r =
    let front : List ℕ = each row_bytes (header n k (gate_count words) (length xs)) in
    let e = length-header n k (gate_count words) (length xs) in
    rw (r, q, p)
    (sets-append (sets l 0 front) header_length (header_length + 4 * length words) (each (bytes_of 4) words) (each (bytes_of 4) xs)
    (omega (arith, length_words_bytes words))
    ∙ sets-append l 0 header_length front (each (bytes_of 4) words ++ each (bytes_of 4) xs) (omega arith)
    ∙ sets_front l (image n k words xs) h)

-- ---- the words that code reads

pub length-gate_words : (bytes : List ℕ) → length (gate_words bytes) ≡ 3 * gates_in bytes
unfolding gate_words
length-gate_words bytes = length-words (3 * gates_in bytes) bytes header_length

pub length-vector_words : (bytes : List ℕ) → length (vector_words bytes) ≡ vectors_in bytes
unfolding vector_words
length-vector_words bytes = length-words (vectors_in bytes) bytes (past_gates (gates_in bytes))

-- the front of a list that they were read into
pub gates_front : (bytes out rest : List ℕ) (d : ℕ) → out ≡ gate_words bytes ++ rest → d ≡ gates_in bytes → take (3 * d) out ≡ gate_words bytes
gates_front bytes out rest d e p =
    ap (take (3 * d)) e ∙ take_at (gate_words bytes) rest (3 * d) (length-gate_words bytes ∙ ap (λ i. 3 * i) (sym p))

pub vectors_front : (bytes out rest : List ℕ) (m : ℕ) → out ≡ vector_words bytes ++ rest → m ≡ vectors_in bytes → take m out ≡ vector_words bytes
vectors_front bytes out rest m e p = ap (take m) e ∙ take_at (vector_words bytes) rest m (length-vector_words bytes ∙ sym p)

-- what the functions that store an image and that read its words are proved by
pub ruleset write_steps = (length-image, put_image)

pub ruleset read_steps = (length-words, length-take-le)
