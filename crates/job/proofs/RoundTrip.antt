-- Jobs and their images: a job that is written is read again as it was, an image that is read is written again as it was,
-- and two jobs have two images.
use Rattle.std.proofs.Common.{ℕ, ◌*◌, ◌≤◌, ◌≡◌, ◌∙◌, List, [], ◌++◌, length, drop}
use Rattle.std.proofs.Common.{refl, sym, ap, ap₂, append_assoc, append-nil, rules, arith, length-append}
use Rattle.std.proofs.Math.Seq.{drop-length}
use Rattle.basics.specs.Lists.{each, All}
use Rattle.refusals.specs.Tables.{first_of}
use Rattle.refusals.specs.Answers.{fine}
use Rattle.circuit.specs.Rules.{first_bad_gate, first_bad_vector}
use Rattle.circuit.proofs.WordLaws.{words_fit, words-whole, vectors_fit}
use Rattle.number_bytes.specs.Bytes.{bytes_of, number_at, words_at}
use Rattle.job.specs.Image.{header_length, past_gates, past_vectors, header, row_bytes, gate_count, image}
use Rattle.job.specs.Image.{lines_in, classes_in, gates_in, vectors_in, gate_words, vector_words}
use Rattle.job.specs.Rules.{read_rows, write_rows}
use Rattle.job.proofs.ImageLaws.{length-header, length_words_bytes, length-image, length-gate_words, length-vector_words}
use Rattle.number_bytes.proofs.NumberLaws.{Bytes, words_there, words_on}
use Rattle.job.proofs.RowLaws.{Placed, Stands, rows_there, rows_on}
use Rattle.job.proofs.HeaderLaws.{HeaderOk}
use Rattle.job.proofs.ReadLaws.{ReadOk, read_ok, ok_read}
use Rattle.job.proofs.WriteLaws.{JobOk, write_ok}

-- ---- what an image holds

-- some bytes hold a job
pub record Holds (bytes : List ℕ) (n k : ℕ) (words xs : List ℕ) : Type 0 where
  pub lines : lines_in bytes ≡ n
  pub classes : classes_in bytes ≡ k
  pub gates : gates_in bytes ≡ gate_count words
  pub vectors : vectors_in bytes ≡ length xs
  pub gate_words : gate_words bytes ≡ words
  pub vector_words : vector_words bytes ≡ xs

-- the rows of the header of a job of n lines, classes k, d gates and m vectors, as some bytes hold them
record Rows (bytes : List ℕ) (n k d m : ℕ) : Type 0 where
  form : number_at 2 bytes 0 ≡ 1
  lines : number_at 2 bytes 2 ≡ n
  classes : number_at 2 bytes 4 ≡ k
  nothing : number_at 2 bytes 6 ≡ 0
  gates : number_at 4 bytes 8 ≡ d
  vectors : number_at 4 bytes 12 ≡ m
  gates_at : number_at 4 bytes 16 ≡ header_length
  vectors_at : number_at 4 bytes 20 ≡ past_gates d
  end_at : number_at 4 bytes 24 ≡ past_vectors d m

rows_of : (bytes : List ℕ) (n k d m : ℕ) → All (Stands bytes) (header n k d m) → Rows bytes n k d m
unfolding header
rows_of bytes n k d m (form, (lines, (classes, (nothing, (gates, (vectors, (gates_at, (vectors_at, (end_at, end))))))))) = record {
  form = form;
  lines = lines;
  classes = classes;
  nothing = nothing;
  gates = gates;
  vectors = vectors;
  gates_at = gates_at;
  vectors_at = vectors_at;
  end_at = end_at;
}

module _ (n k : ℕ) (words xs : List ℕ) (ok : JobOk n k words xs) where
  -- no word is left over
  gates_whole : 3 * gate_count words ≡ length words
  unfolding gate_count
  gates_whole = words-whole n words ok.gates_good

  placed : Placed 0 (header n k (gate_count words) (length xs))
  unfolding header
  placed = search rules

  -- every row of the header stands at its place
  header-stands : Rows (image n k words xs) n k (gate_count words) (length xs)
  unfolding image
  header-stands = rows_of (image n k words xs) n k (gate_count words) (length xs)
      (rows_there (header n k (gate_count words) (length xs)) [] (each (bytes_of 4) words ++ each (bytes_of 4) xs) 0 refl placed)

  image_gates : gates_in (image n k words xs) ≡ gate_count words
  unfolding gates_in
  image_gates = header-stands.gates

  image_vectors : vectors_in (image n k words xs) ≡ length xs
  unfolding vectors_in
  image_vectors = header-stands.vectors

  image-gate_words : gate_words (image n k words xs) ≡ words
  unfolding gate_words image
  image-gate_words =
      let e : 3 * gates_in (image n k words xs) ≡ length words = omega (arith, image_gates, gates_whole) in
      ap (λ c. words_at c (image n k words xs) header_length) e
      ∙ words_there (each row_bytes (header n k (gate_count words) (length xs))) words (each (bytes_of 4) xs) header_length
      (length-header n k (gate_count words) (length xs))
      (words_fit n words ok.gates_good ok.lines_fit)

  image-vector_words : vector_words (image n k words xs) ≡ xs
  unfolding vector_words image
  image-vector_words =
      let front : List ℕ = each row_bytes (header n k (gate_count words) (length xs)) in
      let gs : List ℕ = each (bytes_of 4) words in
      let vs : List ℕ = each (bytes_of 4) xs in
      let at : length (front ++ gs) ≡ past_gates (gates_in (image n k words xs)) =
      omega (
        arith,
        length-append front gs,
        length-header n k (gate_count words)
            (length xs),
        length_words_bytes words,
        image_gates,
        gates_whole,
      ) in
      let e : image n k words xs ≡ (front ++ gs) ++ (vs ++ []) = sym
      (append_assoc front gs (vs ++ []) ∙ ap (λ r. front ++ (gs ++ r)) (append-nil vs)) in
      ap₂ (λ c b. words_at c b (past_gates (gates_in (image n k words xs)))) image_vectors e
      ∙ words_there (front ++ gs) xs [] (past_gates (gates_in (image n k words xs))) at (vectors_fit n xs ok.lines_fit ok.vectors_good)

  holds : Holds (image n k words xs) n k words xs
  unfolding lines_in classes_in
  holds = record {
    lines = header-stands.lines;
    classes = header-stands.classes;
    gates = image_gates;
    vectors = image_vectors;
    gate_words = image-gate_words;
    vector_words = image-vector_words;
  }

  image_head : HeaderOk (image n k words xs)
  image_head =
      let h = holds in
      let l = length-image n k words xs in
      let whole = gates_whole in
      let s = header-stands in
      record {
        long = omega arith;
        form = s.form;
        some_lines = omega arith;
        lines_fit = omega arith;
        some_classes = omega arith;
        classes_fit = omega arith;
        nothing = s.nothing;
        gates_fit = omega arith;
        vectors_fit = omega arith;
        gates_at = s.gates_at;
        vectors_at = s.vectors_at ∙ omega arith;
        end_at = s.end_at ∙ omega arith;
        whole = omega arith;
      }

  -- it breaks no rule of reading where there is room
  image_ok : (gate_room vector_room : ℕ) → 3 * gate_count words ≤ gate_room → length xs ≤ vector_room
      → ReadOk (image n k words xs) gate_room vector_room
  image_ok gate_room vector_room g v =
      let h = holds in
      record {
        head = image_head;
        gates_good = ap₂ first_bad_gate h.lines h.gate_words ∙ ok.gates_good;
        vectors_good = ap₂ first_bad_vector h.lines h.vector_words ∙ ok.vectors_good;
        gates_room = omega arith;
        vectors_room = omega arith;
      }

-- ---- the image of what some bytes hold, from the back to the front

gate_count_lem : (bytes : List ℕ) → gate_count (gate_words bytes) ≡ gates_in bytes
unfolding gate_count
gate_count_lem bytes = let l = length-gate_words bytes in omega arith

module _ (bytes : List ℕ) (h : HeaderOk bytes) (w : Bytes bytes) where
  vectors_back : each (bytes_of 4) (vector_words bytes) ≡ drop (past_gates (gates_in bytes)) bytes
  unfolding vector_words
  vectors_back =
      let vs : List ℕ = each (bytes_of 4) (vector_words bytes) in
      sym (ap (λ r. vs ++ r) (drop-length bytes) ∙ append-nil vs)
      ∙ words_on (vectors_in bytes) bytes (past_gates (gates_in bytes)) (length bytes) w (omega arith) (omega arith)

  content_back : each (bytes_of 4) (gate_words bytes) ++ each (bytes_of 4) (vector_words bytes) ≡ drop header_length bytes
  unfolding gate_words
  content_back =
      ap (λ r. each (bytes_of 4) (gate_words bytes) ++ r) vectors_back
      ∙ words_on (3 * gates_in bytes) bytes header_length (past_gates (gates_in bytes)) w (omega arith) (omega arith)

  header_back : each row_bytes (header (lines_in bytes) (classes_in bytes) (gates_in bytes) (vectors_in bytes)) ++ drop header_length bytes ≡ bytes
  unfolding header lines_in classes_in gates_in vectors_in
  header_back =
      rows_on bytes (header (lines_in bytes) (classes_in bytes) (gates_in bytes) (vectors_in bytes)) 0 header_length w
      (h.form, (refl, (refl, (h.nothing, (refl, (refl, (h.gates_at, (h.vectors_at, (h.end_at, refl)))))))))
      h.long

-- ---- the theorems

-- A job that breaks no rule stands in its image as it is, and the image breaks no rule where there is room.
pub read_written : (n k : ℕ) (words xs : List ℕ) (room : ℕ) → fine ≡ first_of (write_rows n k words xs room) fine
    → Holds (image n k words xs) n k words xs
read_written n k words xs room e = holds n k words xs (write_ok n k words xs room e).job

pub read_written_fine : (n k : ℕ) (words xs : List ℕ) (room gate_room vector_room : ℕ) → fine ≡ first_of (write_rows n k words xs room) fine
    → 3 * gate_count words ≤ gate_room → length xs ≤ vector_room → fine ≡ first_of (read_rows (image n k words xs) gate_room vector_room) fine
read_written_fine n k words xs room gate_room vector_room e g v =
    ok_read (image n k words xs) gate_room vector_room (image_ok n k words xs (write_ok n k words xs room e).job gate_room vector_room g v)

-- Bytes that break no rule are the image of what they hold.
pub written_read : (bytes : List ℕ) (gate_room vector_room : ℕ) → Bytes bytes → fine ≡ first_of (read_rows bytes gate_room vector_room) fine
    → image (lines_in bytes) (classes_in bytes) (gate_words bytes) (vector_words bytes) ≡ bytes
unfolding image
written_read bytes gate_room vector_room w e =
    let h = (read_ok bytes gate_room vector_room e).head in
    let d = gate_count_lem bytes in
    let m = length-vector_words bytes in
    rw (d, m) (ap (λ r. each row_bytes (header (lines_in bytes) (classes_in bytes) (gates_in bytes) (vectors_in bytes)) ++ r)
    (content_back bytes h w) ∙ header_back bytes h w)

-- Two jobs that break no rule and have the same image are the same job.
pub one-image : (n k : ℕ) (words xs : List ℕ) (room : ℕ) (n' k' : ℕ) (words' xs' : List ℕ) (room' : ℕ)
    → fine ≡ first_of (write_rows n k words xs room) fine → fine ≡ first_of (write_rows n' k' words' xs' room') fine
    → image n k words xs ≡ image n' k' words' xs'
    → (n ≡ n') × ((k ≡ k') × ((words ≡ words') × (xs ≡ xs')))
one-image n k words xs room n' k' words' xs' room' e e' same =
    let a = read_written n k words xs room e in
    let b = read_written n' k' words' xs' room' e' in (
      sym a.lines ∙ ap lines_in same ∙ b.lines,
      (
        sym a.classes ∙ ap classes_in same ∙ b.classes,
        (sym a.gate_words ∙ ap gate_words same ∙ b.gate_words, sym a.vector_words ∙ ap vector_words same ∙ b.vector_words),
      ),
    )
