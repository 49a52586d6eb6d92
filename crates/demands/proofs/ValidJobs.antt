-- What reading and writing a job take, in the words of docs/SCOPE.md: exactly what breaks no rule of their tables. Bytes are taken as a job exactly
-- if they
-- are the image of a valid one.
use Prim.Native.Nat.{ℕ, ◌*◌, ◌/◌, ◌^◌, ◌≤◌, ◌<◌}
use mathlib.Core.Path.{◌≡◌, sym, ap, ◌∙◌, subst}
use mathlib.Core.Logic.{◌↔◌}
use mathlib.Core.List.{List}
use native.Mathlib.Nat.{le_refl}
use native.Mathlib.Omega.{arith}
use lib.ListN.{length}
use borrow.Author.Tests.{eq-eqb, ne_eqb, le-ltb}
use Rattle.basics.specs.Lists.{All}
use Rattle.basics.proofs.Tests.{or-false}
use Rattle.circuit.specs.Gates.{gates_of}
use Rattle.circuit.specs.Rules.{first_bad_gate, first_bad_vector}
use Rattle.circuit.specs.declared.Gate.{Gate}
use Rattle.circuit.proofs.GateLaws.{gates_count}
use Rattle.circuit.proofs.RuleLaws.{lines_good, counts_good}
use Rattle.job.specs.Image.{gate_count, image, lines_in, classes_in, gate_words, vector_words}
use Rattle.job.specs.Rules.{bad_classes, content_rows, read_rows, write_rows}
use Rattle.job.proofs.WriteLaws.{write_ok}
use Rattle.job.proofs.ReadLaws.{read_ok}
use Rattle.job.proofs.RoundTrip.{read_written_fine}
use Rattle.demands.proofs.Valid.{Valid, no_bad_gate, circuit_set_valid}
use Rattle.demands.proofs.ValidCalls.{its_gates}
use Rattle.demands.proofs.ValidRows.{Fine, vectors_valid, set_valid}
use Rattle.demands.proofs.Jobs.{image_of, image-is, set-fine, gate_number, vector_words_lem, held-fine, held-image}

-- a job: a valid circuit, at most 2,048 vectors of it, and some of the four classes
pub record ValidJob (n classes : ℕ) (words xs : List ℕ) (gs : List Gate) : Type 0 where
  pub circuit : Valid n words gs
  pub some_classes : 1 ≤ classes
  pub classes_fit : classes ≤ 15
  pub vectors_fit : length xs ≤ 2048
  pub vectors_in : All (λ x. x < 2 ^ n) xs

-- ---- written: room for the image

module _ (n classes : ℕ) (words xs : List ℕ) (room : ℕ) where
  written_job : Fine (write_rows n classes words xs room)
      → (gs : List Gate) × ValidJob n classes words xs gs × (length (image_of n classes (length gs) words xs) ≤ room)
  unfolding gate_count
  written_job e =
      let ok = write_ok n classes words xs room e in
      let j = ok.job in
      let set = (set_valid n words xs).0
      (set-fine n words xs j.some_lines j.lines_fit j.gates_fit j.vectors_fit j.gates_good j.vectors_good) in
      let valid = subst (Valid n words) (sym (its_gates n words set.0.0.0 set.0.0.1)) set.0.0.1 in (
        gates_of words,
        record {
          circuit = valid;
          some_classes = j.some_classes;
          classes_fit = j.classes_fit;
          vectors_fit = j.vectors_fit;
          vectors_in = set.1;
        },
        subst (λ l. length l ≤ room) (image-is n classes words xs) ok.bytes_room,
      )

  write_passes : (gs : List Gate) → ValidJob n classes words xs gs → length (image_of n classes (length gs) words xs) ≤ room
      → Fine (write_rows n classes words xs room)
  unfolding write_rows content_rows bad_classes gate_count
  write_passes gs job wide =
      let c = job.circuit.circuit in
      let same = its_gates n words gs job.circuit in
      let few : length words / 3 ≤ 1024 = omega (arith, gates_count words, ap length same, c.gates_fit) in
      let good = no_bad_gate n words (length xs) ((circuit_set_valid n words (length xs)).1 ((gs, job.circuit), job.vectors_fit)) in
      let fits : length (image n classes words xs) ≤ room =
      subst (λ l. length l ≤ room) (sym (image-is n classes words xs ∙ ap (λ hs. image_of n classes (length hs) words xs) same)) wide in
      rw (
        lines_good n c.some_lines c.lines_fit,
        or-false (ne_eqb classes 0 (λ e. omega (arith, job.some_classes))) (le-ltb 15 classes job.classes_fit),
        counts_good (length words / 3) (length xs) few job.vectors_fit,
        eq-eqb (first_bad_gate n words) 0 good,
        eq-eqb (first_bad_vector n xs) 0 ((vectors_valid n xs).1 job.vectors_in),
        le-ltb room (length (image n classes words xs)) fits,
      )

  pub write_valid : Fine (write_rows n classes words xs room)
      ↔ ((gs : List Gate) × ValidJob n classes words xs gs × (length (image_of n classes (length gs) words xs) ≤ room))
  write_valid = (written_job, λ w. write_passes w.0 w.1 w.2)

-- ---- read: bytes that are the image of a valid job, and room for its gates and vectors

pub record IsJob (bytes : List ℕ) (gate_room vector_room : ℕ) : Type 0 where
  pub n : ℕ
  pub classes : ℕ
  pub words : List ℕ
  pub xs : List ℕ
  pub gs : List Gate
  pub job : ValidJob n classes words xs gs
  pub is-image : bytes ≡ image_of n classes (length gs) words xs
  pub gates_room : 3 * length gs ≤ gate_room
  pub vectors_room : length xs ≤ vector_room

module _ (bytes : List ℕ) (all : All (λ b. b < 256) bytes) (gate_room vector_room : ℕ) where
  pub read_valid : Fine (read_rows bytes gate_room vector_room) ↔ IsJob bytes gate_room vector_room
  unfolding gate_count
  read_valid = (held, passes)
    where
      held : Fine (read_rows bytes gate_room vector_room) → IsJob bytes gate_room vector_room
      held e =
          let ok = read_ok bytes gate_room vector_room e in
          let h = ok.head in
          let n : ℕ = lines_in bytes in
          let words : List ℕ = gate_words bytes in
          let xs : List ℕ = vector_words bytes in
          let set = (set_valid n words xs).0 (held-fine bytes gate_room vector_room e) in
          let valid = subst (Valid n words) (sym (its_gates n words set.0.0.0 set.0.0.1)) set.0.0.1 in
          record {
            n = n;
            classes = classes_in bytes;
            words = words;
            xs = xs;
            gs = gates_of words;
            job = record {
              circuit = valid;
              some_classes = h.some_classes;
              classes_fit = h.classes_fit;
              vectors_fit = set.0.1;
              vectors_in = set.1;
            };
            is-image = held-image bytes gate_room vector_room e all;
            gates_room = omega (arith, gate_number bytes, ok.gates_room);
            vectors_room = omega (arith, vector_words_lem bytes, ok.vectors_room);
          }

      passes : IsJob bytes gate_room vector_room → Fine (read_rows bytes gate_room vector_room)
      passes w =
          let same = its_gates w.n w.words w.gs w.job.circuit in
          let image-of : bytes ≡ image w.n w.classes w.words w.xs =
          w.is-image ∙ sym (image-is w.n w.classes w.words w.xs
          ∙ ap (λ hs. image_of w.n w.classes (length hs) w.words w.xs) same) in
          let room : ℕ = length (image_of w.n w.classes (length w.gs) w.words w.xs) in
          let written = (write_valid w.n w.classes w.words w.xs room).1 (w.gs, w.job, le_refl room) in
          subst (λ l. Fine (read_rows l gate_room vector_room)) (sym image-of)
          (read_written_fine w.n w.classes w.words w.xs room gate_room vector_room written
          (omega (arith, gates_count w.words, ap length same, w.gates_room)) w.vectors_room)
