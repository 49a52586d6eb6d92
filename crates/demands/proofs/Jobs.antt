-- What reading and writing a job answer, and what they leave in lent lists: the job image, byte by byte.
use Prim.Native.Nat.{ℕ, ◌+◌, ◌*◌, ◌/◌, ◌%◌, ◌^◌, ◌≤◌, ◌<◌}
use mathlib.Core.Path.{◌≡◌, refl, sym, ap, ap₂, ◌∙◌}
use mathlib.Core.List.{List, [], ◌∷◌, ◌++◌}
use native.Mathlib.Omega.{arith}
use lib.ListN.{length, drop}
use borrow.Author.Tests.{eq-eqb}
use Rattle.basics.specs.Lists.{each, All, onto}
use Rattle.refusals.specs.Tables.{Row, first_of, after}
use Rattle.refusals.specs.Answers.{fine, told, told_word}
use Rattle.refusals.proofs.Tables.{after-fine}
use Rattle.circuit.specs.Gates.{gates_of}
use Rattle.circuit.specs.Rules.{first_bad_gate, first_bad_vector, circuit_set_rows, set_rows}
use Rattle.circuit.specs.declared.Gate.{Gate}
use Rattle.circuit.proofs.GateLaws.{gates_count}
use Rattle.circuit.proofs.RuleLaws.{lines_good, counts_good, VectorsOk, vectors_ok}
use Rattle.number_bytes.specs.Bytes.{bytes_of}
use Rattle.job.specs.Image.{header, row_bytes, gate_count, image, lines_in, classes_in, gates_in, vectors_in, gate_words, vector_words}
use Rattle.job.specs.Rules.{read_rows, write_rows}
use Rattle.job.specs.Answers.{job_values}
use Rattle.job.proofs.ReadLaws.{read_ok}
use Rattle.job.proofs.WriteLaws.{write_ok}
use Rattle.number_bytes.proofs.ByteLaws.{length-words}
use Rattle.job.proofs.RoundTrip.{written_read}
use Rattle.job.proofs.read_job.Reads as read-job
use Rattle.job.proofs.write_job.Reads as write-job
use Rattle.nufsadeem.proofs.jobs.nuf_read_job.Reads as c-read-job
use Rattle.nufsadeem.proofs.jobs.nuf_write_job.Reads as c-write-job
use Rattle.demands.proofs.Machine.{Circuit}
use Rattle.demands.proofs.MachineLaws.{circuit-is}
use Rattle.demands.proofs.Answering.{Answers, means}
use Rattle.demands.proofs.InC.{AnswersInC, means_in_c}
use Rattle.demands.proofs.Demand1 as refusing
use Rattle.demands.proofs.Demand1OfC as refusing-in-c

-- ---- the job image: numbers of two and of four bytes, lowest first; a header of 28 bytes, the gates and the vectors

abbrev pub two : ℕ → List ℕ
two x = x % 256 ∷ x / 256 % 256 ∷ []

abbrev pub four : ℕ → List ℕ
four x = x % 256 ∷ x / 256 % 256 ∷ x / 256 / 256 % 256 ∷ x / 256 / 256 / 256 % 256 ∷ []

abbrev pub fours : List ℕ → List ℕ
fours [] = []
fours (x ∷ xs) = four x ++ fours xs

-- form, lines, classes wanted, nothing; gates, vectors; offsets of both, and the length of all
abbrev pub head : ℕ → ℕ → ℕ → ℕ → List ℕ
head n classes d m = two 1 ++ (two n ++ (two classes ++ (two 0 ++ fours (d ∷ m ∷ 28 ∷ (28 + 12 * d) ∷ (28 + 12 * d + 4 * m) ∷ []))))

abbrev pub image_of : ℕ → ℕ → ℕ → List ℕ → List ℕ → List ℕ
image_of n classes d words xs = head n classes d (length xs) ++ (fours words ++ fours xs)

-- a job: a circuit, the classes wanted and a set of vectors
pub record Job (n classes : ℕ) (words xs : List ℕ) (gs : List Gate) : Type 0 where
  pub circuit : Circuit n words gs
  pub some_classes : 1 ≤ classes
  pub classes_fit : classes ≤ 15
  pub vectors_fit : length xs ≤ 2048
  pub vectors_in : All (λ x. x < 2 ^ n) xs

-- ---- what the calls answer

-- the image stands at the front of the bytes, and its length is told
pub record Writes (n classes : ℕ) (words xs room values exit : List ℕ) : Type 0 where
  pub gs : List Gate
  pub job : Job n classes words xs gs
  pub values-are : values ≡ length (image_of n classes (length gs) words xs) ∷ []
  pub front : exit ≡ image_of n classes (length gs) words xs ++ drop (length (image_of n classes (length gs) words xs)) room

-- the bytes are the image of a job; its lines, classes and numbers of gates and vectors are told, and its gates and vectors stand at the front of
-- the two lists
pub record ReadsOut (bytes gates vectors values gates-exit vectors-exit : List ℕ) : Type 0 where
  pub n : ℕ
  pub classes : ℕ
  pub words : List ℕ
  pub xs : List ℕ
  pub gs : List Gate
  pub job : Job n classes words xs gs
  pub is-image : All (λ b. b < 256) bytes → bytes ≡ image_of n classes (length gs) words xs
  pub values-are : values ≡ n ∷ classes ∷ length gs ∷ length xs ∷ []
  pub gates_front : gates-exit ≡ words ++ drop (length words) gates
  pub vectors_front : vectors-exit ≡ xs ++ drop (length xs) vectors

-- ---- the promised image is so

fours_are : (xs : List ℕ) → each (bytes_of 4) xs ≡ fours xs
unfolding each bytes_of
fours_are [] = refl
fours_are (x ∷ xs) = ap (λ more. four x ++ more) (fours_are xs)

pub image-is : (n classes : ℕ) (words xs : List ℕ) → image n classes words xs ≡ image_of n classes (length (gates_of words)) words xs
unfolding image header row_bytes each bytes_of gate_count
image-is n classes words xs =
    ap₂ (λ g v. head n classes (length words / 3) (length xs) ++ (g ++ v)) (fours_are words) (fours_are xs)
    ∙ ap (λ d. image_of n classes d words xs) (sym (gates_count words))

-- a circuit and a set that break none of rules 3, 5, 7 and 8
pub set-fine : (n : ℕ) (words xs : List ℕ) → 1 ≤ n → n ≤ 32 → length words / 3 ≤ 1024 → length xs ≤ 2048 → first_bad_gate n words ≡ 0
    → first_bad_vector n xs ≡ 0 → fine ≡ first_of (set_rows n words xs) fine
unfolding set_rows circuit_set_rows
set-fine n words xs lo hi gates vectors g v = rw (
  lines_good n lo hi,
  gates_count words,
  counts_good (length words / 3) (length xs) gates vectors,
  eq-eqb (first_bad_gate n words) 0 g,
  eq-eqb (first_bad_vector n xs) 0 v,
)

is-job : (n classes : ℕ) (words xs : List ℕ) → VectorsOk n words xs → 1 ≤ classes → classes ≤ 15 → Job n classes words xs (gates_of words)
is-job n classes words xs ok lo hi = record {
  circuit = circuit-is n words ok.set.circuit;
  some_classes = lo;
  classes_fit = hi;
  vectors_fit = ok.set.vectors_fit;
  vectors_in = ok.vectors;
}

writes : (n classes : ℕ) (words xs room exit : List ℕ) → fine ≡ first_of (write_rows n classes words xs (length room)) fine
    → exit ≡ after (write_rows n classes words xs (length room)) (image n classes words xs ++ drop (length (image n classes words xs)) room) room
    → Writes n classes words xs room (length (image n classes words xs) ∷ []) exit
unfolding gate_count
writes n classes words xs room exit unbroken made =
    let ok = (write_ok n classes words xs (length room) unbroken).job in
    let same = image-is n classes words xs in
    record {
      gs = gates_of words;
      job = is-job n classes words xs
          (vectors_ok n words xs
          (set-fine n words xs ok.some_lines ok.lines_fit ok.gates_fit ok.vectors_fit ok.gates_good ok.vectors_good))
          ok.some_classes ok.classes_fit;
      values-are = ap (λ l. length l ∷ []) same;
      front = made ∙ sym (after-fine (write_rows n classes words xs (length room)) _ _ unbroken) ∙ ap (λ l. l ++ drop (length l) room) same;
    }

module _ (bytes : List ℕ) where
  gate_words_lem : length (gate_words bytes) ≡ 3 * gates_in bytes
  unfolding gate_words
  gate_words_lem = length-words (3 * gates_in bytes) bytes 28

  pub vector_words_lem : length (vector_words bytes) ≡ vectors_in bytes
  unfolding vector_words
  vector_words_lem = length-words (vectors_in bytes) bytes (28 + 12 * gates_in bytes)

  pub gate_number : gates_in bytes ≡ length (gates_of (gate_words bytes))
  gate_number = omega (arith, gates_count (gate_words bytes), gate_words_lem)

  module _ (gate_room vector_room : ℕ) (unbroken : fine ≡ first_of (read_rows bytes gate_room vector_room) fine) where
    pub held-fine : fine ≡ first_of (set_rows (lines_in bytes) (gate_words bytes) (vector_words bytes)) fine
    held-fine =
        let ok = read_ok bytes gate_room vector_room unbroken in
        let h = ok.head in
        set-fine (lines_in bytes) (gate_words bytes) (vector_words bytes) h.some_lines h.lines_fit (omega (arith, gate_words_lem, h.gates_fit))
        (omega (arith, vector_words_lem, h.vectors_fit)) ok.gates_good ok.vectors_good

    pub held-set : VectorsOk (lines_in bytes) (gate_words bytes) (vector_words bytes)
    held-set = vectors_ok (lines_in bytes) (gate_words bytes) (vector_words bytes) held-fine

    pub held-job : Job (lines_in bytes) (classes_in bytes) (gate_words bytes) (vector_words bytes) (gates_of (gate_words bytes))
    held-job =
        let h = (read_ok bytes gate_room vector_room unbroken).head in
        is-job (lines_in bytes) (classes_in bytes) (gate_words bytes) (vector_words bytes) held-set h.some_classes h.classes_fit

    pub held-image : All (λ b. b < 256) bytes
        → bytes ≡ image_of (lines_in bytes) (classes_in bytes) (length (gates_of (gate_words bytes))) (gate_words bytes) (vector_words bytes)
    held-image all = sym (written_read bytes gate_room vector_room all unbroken)
        ∙ image-is (lines_in bytes) (classes_in bytes) (gate_words bytes) (vector_words bytes)

  reads_out : (gates vectors gates-exit vectors-exit : List ℕ) → fine ≡ first_of (read_rows bytes (length gates) (length vectors)) fine
      → gates-exit ≡ after (read_rows bytes (length gates) (length vectors)) (onto (gate_words bytes) gates) gates
      → vectors-exit ≡ after (read_rows bytes (length gates) (length vectors)) (onto (vector_words bytes) vectors) vectors
      → ReadsOut bytes gates vectors (lines_in bytes ∷ classes_in bytes ∷ gates_in bytes ∷ vectors_in bytes ∷ []) gates-exit vectors-exit
  reads_out gates vectors gates-exit vectors-exit unbroken made-gates made-vectors =
      let rows : List Row = read_rows bytes (length gates) (length vectors) in
      record {
        n = lines_in bytes;
        classes = classes_in bytes;
        words = gate_words bytes;
        xs = vector_words bytes;
        gs = gates_of (gate_words bytes);
        job = held-job (length gates) (length vectors) unbroken;
        is-image = held-image (length gates) (length vectors) unbroken;
        values-are = ap₂ (λ d m. lines_in bytes ∷ classes_in bytes ∷ d ∷ m ∷ []) gate_number (sym vector_words_lem);
        gates_front = made-gates ∙ sym (after-fine rows _ _ unbroken);
        vectors_front = made-vectors ∙ sym (after-fine rows _ _ unbroken);
      }

-- ---- the calls

pub read_job_means : Answers read-job.Post (λ κs. told job_values)
    (λ κs (bytes, (gates, (vectors, _))) values (_, (gates-after, (vectors-after, _))).
    ReadsOut bytes.now gates.now vectors.now values gates-after.now vectors-after.now)
read_job_means = means refusing.read_job_refuses _ (λ κs a r e p. p.0) (λ κs a r e p u. reads_out _ _ _ _ _ u p.1.0 p.1.1)

pub read_job_in_c : AnswersInC c-read-job.Post (λ κs r. r.number) (λ κs r. r.lines ∷ r.classes ∷ r.gates ∷ r.vectors ∷ [])
    (λ κs (bytes, (gates, (vectors, _))) values (_, (gates-after, (vectors-after, _))).
    ReadsOut bytes.now gates.now vectors.now values gates-after.now vectors-after.now)
read_job_in_c = means_in_c 4 refusing-in-c.read_job_refuses _ (λ κs a r e p. p.0) (λ κs a r e p u. reads_out _ _ _ _ _ u p.1.0 p.1.1)

pub write_job_means : Answers write-job.Post (λ κs. told_word)
    (λ κs (lines, (classes, (gates, (vectors, (out, _))))) values (_, (_, (_, (_, (out-after, _))))).
    Writes lines classes gates.now vectors.now out.now values out-after.now)
write_job_means = means refusing.write_job_refuses _ (λ κs a r e p. p.0) (λ κs a r e p u. writes _ _ _ _ _ _ u p.1)

pub write_job_in_c : AnswersInC c-write-job.Post (λ κs r. r.number) (λ κs r. r.count ∷ [])
    (λ κs (lines, (classes, (gates, (vectors, (out, _))))) values (_, (_, (_, (_, (out-after, _))))).
    Writes lines classes gates.now vectors.now out.now values out-after.now)
write_job_in_c = means_in_c 1 refusing-in-c.write_job_refuses _ (λ κs a r e p. p.0) (λ κs a r e p u. writes _ _ _ _ _ _ u p.1)
