-- Images over contracts: reading what was written gives the same job, writing what was read gives the same bytes, two byte strings that
-- are read as one job are equal, and so are two jobs that were written as the same bytes. One law each for every call that writes
-- and every call that reads as the tables say, so that the library's calls and the C calls may be mixed (`ImagesOfCalls`).
-- `Bytes` says that every entry is below 256, as all are in a slice of bytes: a contract sees only their list.
use Prim.Native.Nat.{ℕ, ◌*◌, ◌≤◌}
use mathlib.Core.Path.{◌≡◌, sym, ap, ap₂, transport, ◌∙◌}
use mathlib.Core.List.{List}
use native.Mathlib.Omega.{arith}
use lib.ListN.{length, take}
use Rattle.job.specs.Image.{image, lines_in, classes_in, gates_in, vectors_in, gate_words, vector_words, gate_count}
use Rattle.number_bytes.proofs.NumberLaws.{Bytes}
use Rattle.circuit.proofs.WordLaws.{words-whole}
use Rattle.job.proofs.WriteLaws.{write_ok}
use Rattle.job.proofs.RoundTrip.{read_written, read_written_fine, written_read}
use Rattle.job.proofs.RoundTrip as jobs
use Rattle.job.proofs.ReadBackLaws.{written_read_fine}
use Rattle.demands.proofs.ImagesPromised.{Writer, Writes, writes, wrote, Reader, Reads, reads, has_read}

-- it answers with this job, and has put its gates and vectors in front
pub record ReadAs (R : Reader) (r : R.Call) (n k : ℕ) (words xs : List ℕ) : Type 0 where
  pub answers-job : Reads R r n k (gate_count words) (length xs)
  pub gates_same : take (length words) (R.gates r) ≡ words
  pub vectors_same : take (length xs) (R.vectors r) ≡ xs

-- ---- the theorems

-- Reading what was written, with enough room, gives the same lines, classes, gates and vectors.
pub read_what_was_written : (W : Writer) (R : Reader) (w : W.Call) (count : ℕ) → Writes W w count
    → (r : R.Call) → R.bytes r ≡ take count (W.left w)
    → length (W.gates w) ≤ length (R.gate_room r) → length (W.vectors w) ≤ length (R.vector_room r)
    → ReadAs R r (W.lines w) (W.classes w) (W.gates w) (W.vectors w)
unfolding gate_count
read_what_was_written W R w count done r same g v =
    let n = W.lines w in
    let k = W.classes w in
    let words = W.gates w in
    let xs = W.vectors w in
    let put = wrote W w count done in
    let is : R.bytes r ≡ image n k words xs = same ∙ put.front_is in
    let whole = words-whole n words (write_ok n k words xs (length (W.room w)) put.passed).job.gates_good in
    let holds = read_written n k words xs (length (W.room w)) put.passed in
    let passes = read_written_fine n k words xs (length (W.room w)) (length (R.gate_room r)) (length (R.vector_room r)) put.passed
    (omega arith) v in
    let held = reads R r (rw is passes) in
    let answered-so : Reads R r n k (gate_count words) (length xs) = transport
    (λ i. Reads R r ((ap lines_in is ∙ holds.lines) i) ((ap classes_in is ∙ holds.classes) i) ((ap gates_in is ∙ holds.gates) i)
    ((ap vectors_in is ∙ holds.vectors) i)) held in
    let got = has_read R r n k (gate_count words) (length xs) answered-so in
    record {
      answers-job = answered-so;
      gates_same = ap (λ i. take i (R.gates r)) (sym whole) ∙ got.gates_front ∙ ap gate_words is ∙ holds.gate_words;
      vectors_same = got.vectors_front ∙ ap vector_words is ∙ holds.vector_words;
    }

-- bytes that were read are the image of what was answered and put in front
bytes_are : (R : Reader) (r : R.Call) (n k d m : ℕ) → Reads R r n k d m → Bytes (R.bytes r)
    → image n k (take (3 * d) (R.gates r)) (take m (R.vectors r)) ≡ R.bytes r
bytes_are R r n k d m done b =
    let got = has_read R r n k d m done in
    (λ i. image (got.lines_are i) (got.classes_are i) (got.gates_front i) (got.vectors_front i))
    ∙ written_read (R.bytes r) (length (R.gate_room r)) (length (R.vector_room r)) b got.passed

-- Writing what was read, with enough room, gives the same bytes.
pub write_what_was_read : (R : Reader) (W : Writer) (r : R.Call) (n k d m : ℕ) → Reads R r n k d m → Bytes (R.bytes r)
    → (w : W.Call) → W.lines w ≡ n → W.classes w ≡ k → W.gates w ≡ take (3 * d) (R.gates r) → W.vectors w ≡ take m (R.vectors r)
    → length (R.bytes r) ≤ length (W.room w)
    → Writes W w (length (R.bytes r)) × (take (length (R.bytes r)) (W.left w) ≡ R.bytes r)
write_what_was_read R W r n k d m done b w l c g v h =
    let bytes = R.bytes r in
    let got = has_read R r n k d m done in
    let whole = written_read bytes (length (R.gate_room r)) (length (R.vector_room r)) b got.passed in
    let is : image (W.lines w) (W.classes w) (W.gates w) (W.vectors w) ≡ bytes =
    (λ i. image (l i) (c i) (g i) (v i)) ∙ bytes_are R r n k d m done b in
    let passes = written_read_fine bytes (length (R.gate_room r)) (length (R.vector_room r)) (length (W.room w)) got.passed (rw whole h) in
    let answered-so = writes W w
    (rw (l ∙ got.lines_are, c ∙ got.classes_are, g ∙ got.gates_front, v ∙ got.vectors_front) passes) in
    let put = rw is at answered-so in
    (put, (wrote W w (length bytes) put).front_is ∙ is)

-- Two byte strings that are read as the same job are equal.
pub one-image : (R S : Reader) (r : R.Call) (s : S.Call) (n k d m : ℕ) → Reads R r n k d m → Reads S s n k d m
    → Bytes (R.bytes r) → Bytes (S.bytes s)
    → take (3 * d) (R.gates r) ≡ take (3 * d) (S.gates s) → take m (R.vectors r) ≡ take m (S.vectors s) → R.bytes r ≡ S.bytes s
one-image R S r s n k d m done done' b b' g v =
    sym (bytes_are R r n k d m done b) ∙ ap₂ (image n k) g v ∙ bytes_are S s n k d m done' b'

-- Two jobs that were written as the same bytes are the same job.
pub one-job : (W X : Writer) (w : W.Call) (v : X.Call) (count count' : ℕ) → Writes W w count → Writes X v count'
    → take count (W.left w) ≡ take count' (X.left v)
    → (W.lines w ≡ X.lines v) × ((W.classes w ≡ X.classes v) × ((W.gates w ≡ X.gates v) × (W.vectors w ≡ X.vectors v)))
one-job W X w v count count' done done' same =
    let put = wrote W w count done in
    let put' = wrote X v count' done' in
    jobs.one-image _ _ _ _ (length (W.room w)) _ _ _ _ (length (X.room v)) put.passed put'.passed
    (sym put.front_is ∙ same ∙ put'.front_is)
