-- Calls that write a job and calls that read one: what their contracts promise, however they tell it, and what one that answers has done.
use Prim.Native.Nat.{ℕ, ◌*◌}
use mathlib.Core.Path.{◌≡◌, refl, sym, ap, ◌∙◌}
use mathlib.Core.Bool.{true, false}
use mathlib.Core.List.{List, [], ◌∷◌, ◌++◌}
use native.Mathlib.Omega.{arith}
use lib.ListN.{length, take, drop}
use lib.Seq.{take_at}
use Rattle.basics.specs.Lists.{onto}
use Rattle.refusals.specs.Tables.{Row, Told, first_of, after}
use Rattle.refusals.specs.Tables.Row.{refuse◌at◌when◌}
use Rattle.refusals.specs.Tables.Told.{answered}
use Rattle.refusals.specs.Answers.{fine}
use Rattle.refusals.proofs.Tables.{Numbered, answered-fine, fine_all, after-fine}
use Rattle.job.specs.Image.{image, lines_in, classes_in, gates_in, vectors_in, gate_words, vector_words}
use Rattle.job.specs.Rules.{read_rows, write_rows, header_rows, content_rows}
use Rattle.job.proofs.ImageLaws.{gates_front, vectors_front}
use Rattle.answers.specs.Fields.{fields}

-- ---- ways of telling: as it is, or as the fields of a struct

-- an answer is told only where no rule is broken, and by its own values
abbrev pub Answering : {T : Type 0} → (Told → T) → Type 0
Answering tell = (rows : List Row) → Numbered rows → (values answer : List ℕ) → tell (answered values) ≡ tell (first_of rows (answered answer))
    → (values ≡ answer) × (fine ≡ first_of rows fine)

pub plainly : Answering (λ told. told)
plainly rows numbered values answer e = answered-fine rows values answer e

pub by_fields : (others : ℕ) → Answering (fields others)
by_fields others [] numbered values answer e = (cc, refl)
by_fields others (refuse k at p when true ∷ rows) numbered values answer e = let none : k ≡ 0 = cc in absurd (numbered.0 none)
by_fields others (refuse k at p when false ∷ rows) numbered values answer e = by_fields others rows numbered.1 values answer e

write_numbered : (n k : ℕ) (words xs : List ℕ) (room : ℕ) → Numbered (write_rows n k words xs room)
unfolding write_rows content_rows
write_numbered n k words xs room = omega arith

read_numbered : (bytes : List ℕ) (gate_room vector_room : ℕ) → Numbered (read_rows bytes gate_room vector_room)
unfolding read_rows header_rows content_rows
read_numbered bytes gate_room vector_room = omega arith

-- ---- writing

pub record Writer : Type 1 where
  -- the calls that its contract allows, with what each is given and lent, and what it leaves in the room
  pub Call : Type 0
  pub lines : Call → ℕ
  pub classes : Call → ℕ
  pub gates : Call → List ℕ
  pub vectors : Call → List ℕ
  pub room : Call → List ℕ
  pub left : Call → List ℕ
  -- what each says, and how that is told
  pub Saying : Type 0
  pub tell : Told → Saying
  pub answering : Answering tell
  pub said : Call → Saying
  -- what its contract promises
  pub promise : (c : Call)
      → (said c ≡ tell (first_of (write_rows (lines c) (classes c) (gates c) (vectors c) (length (room c)))
      (answered (length (image (lines c) (classes c) (gates c) (vectors c)) ∷ []))))
      × (left c ≡ after (write_rows (lines c) (classes c) (gates c) (vectors c) (length (room c)))
      (image (lines c) (classes c) (gates c) (vectors c) ++ drop (length (image (lines c) (classes c) (gates c) (vectors c))) (room c)) (room c))

-- a call answers with so many bytes
abbrev pub Writes : (W : Writer) → W.Call → ℕ → Type 0
Writes W c count = W.said c ≡ W.tell (answered (count ∷ []))

-- a job is written
pub record Wrote (n k : ℕ) (words xs room : List ℕ) (count : ℕ) (left : List ℕ) : Type 0 where
  pub passed : fine ≡ first_of (write_rows n k words xs (length room)) fine
  pub count-is : count ≡ length (image n k words xs)
  pub front_is : take count left ≡ image n k words xs

module _ (W : Writer) (c : W.Call) where
  abbrev n : ℕ
  n = W.lines c

  abbrev k : ℕ
  k = W.classes c

  abbrev words : List ℕ
  words = W.gates c

  abbrev xs : List ℕ
  xs = W.vectors c

  abbrev rows : List Row
  rows = write_rows n k words xs (length (W.room c))

  -- it answers where no rule is broken, and has written the image where it answers
  pub writes : fine ≡ first_of rows fine → Writes W c (length (image n k words xs))
  writes e = (W.promise c).0 ∙ ap W.tell (sym (fine_all rows _ e))

  pub wrote : (count : ℕ) → Writes W c count → Wrote n k words xs (W.room c) count (W.left c)
  wrote count answer =
      let w = W.answering rows (write_numbered n k words xs (length (W.room c))) (count ∷ []) _ (sym answer ∙ (W.promise c).0) in
      let is : count ≡ length (image n k words xs) = let v = w.0 in cc in
      record {
        passed = w.1;
        count-is = is;
        front_is = ap (take count) ((W.promise c).1 ∙ sym (after-fine rows _ _ w.1)) ∙ take_at (image n k words xs) _ count (sym is);
      }

-- ---- reading

pub record Reader : Type 1 where
  -- the calls that its contract allows, with what each is lent, and what it leaves in the two lists
  pub Call : Type 0
  pub bytes : Call → List ℕ
  pub gate_room : Call → List ℕ
  pub vector_room : Call → List ℕ
  pub gates : Call → List ℕ
  pub vectors : Call → List ℕ
  -- what each says, and how that is told
  pub Saying : Type 0
  pub tell : Told → Saying
  pub answering : Answering tell
  pub said : Call → Saying
  -- what its contract promises
  pub promise : (c : Call)
      → (said c ≡ tell (first_of (read_rows (bytes c) (length (gate_room c)) (length (vector_room c)))
      (answered (lines_in (bytes c) ∷ classes_in (bytes c) ∷ gates_in (bytes c) ∷ vectors_in (bytes c) ∷ []))))
      × ((gates c ≡ after (read_rows (bytes c) (length (gate_room c)) (length (vector_room c)))
      (onto (gate_words (bytes c)) (gate_room c)) (gate_room c))
      × (vectors c ≡ after (read_rows (bytes c) (length (gate_room c)) (length (vector_room c)))
      (onto (vector_words (bytes c)) (vector_room c)) (vector_room c)))

-- a call answers with these lines, classes, number of gates and number of vectors
abbrev pub Reads : (R : Reader) → R.Call → ℕ → ℕ → ℕ → ℕ → Type 0
Reads R c n k d m = R.said c ≡ R.tell (answered (n ∷ k ∷ d ∷ m ∷ []))

-- a job is read
pub record HasRead (bytes gate_room vector_room : List ℕ) (n k d m : ℕ) (gates vectors : List ℕ) : Type 0 where
  pub passed : fine ≡ first_of (read_rows bytes (length gate_room) (length vector_room)) fine
  pub lines_are : n ≡ lines_in bytes
  pub classes_are : k ≡ classes_in bytes
  pub gates_are : d ≡ gates_in bytes
  pub vectors_are : m ≡ vectors_in bytes
  pub gates_front : take (3 * d) gates ≡ gate_words bytes
  pub vectors_front : take m vectors ≡ vector_words bytes

module _ (R : Reader) (c : R.Call) where
  abbrev bytes : List ℕ
  bytes = R.bytes c

  abbrev reading_rows : List Row
  reading_rows = read_rows bytes (length (R.gate_room c)) (length (R.vector_room c))

  -- it answers where no rule is broken, and has read what the bytes hold where it answers
  pub reads : fine ≡ first_of reading_rows fine → Reads R c (lines_in bytes) (classes_in bytes) (gates_in bytes) (vectors_in bytes)
  reads e = (R.promise c).0 ∙ ap R.tell (sym (fine_all reading_rows _ e))

  pub has_read : (n k d m : ℕ) → Reads R c n k d m → HasRead bytes (R.gate_room c) (R.vector_room c) n k d m (R.gates c) (R.vectors c)
  unfolding gates_in vectors_in
  has_read n k d m answer =
      let w = R.answering reading_rows (read_numbered bytes (length (R.gate_room c)) (length (R.vector_room c))) (n ∷ k ∷ d ∷ m ∷ []) _
      (sym answer ∙ (R.promise c).0) in
      let v = w.0 in
      let is-d : d ≡ gates_in bytes = cc in
      let is_m : m ≡ vectors_in bytes = cc in
      record {
        passed = w.1;
        lines_are = cc;
        classes_are = cc;
        gates_are = is-d;
        vectors_are = is_m;
        gates_front = gates_front bytes (R.gates c) _ d ((R.promise c).1.0 ∙ sym (after-fine reading_rows _ _ w.1)) is-d;
        vectors_front = vectors_front bytes (R.vectors c) _ m ((R.promise c).1.1 ∙ sym (after-fine reading_rows _ _ w.1)) is_m;
      }
