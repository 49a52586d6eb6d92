-- Bytes that are more than the longest job has: rules 2 to 5 of the header, and else rule 6, decide what is told of them,
-- so that their first 28 bytes are all that counts.
use Rattle.std.proofs.Common.{ℕ, zero, suc, ◌+◌, ◌*◌, ◌≤◌, ◌≡◌, ◌∙◌, true, false, not, ◌||◌, List, [], ◌∷◌, length, take, eqb}
use Rattle.std.proofs.Common.{refl, sym, ap, ap₂, arith, get_or-take, le-ltb, ne_eqb}
use Rattle.basics.proofs.Tests.{by_test, or_right}
use Rattle.refusals.specs.Tables.{Row, Told, first_of}
use Rattle.refusals.specs.Tables.Row.{refuse◌at◌when◌}
use Rattle.refusals.specs.Tables.Told.{refused}
use Rattle.refusals.specs.Answers.{fine}
use Rattle.refusals.proofs.Tables.{refused_on}
use Rattle.number_bytes.specs.Bytes.{number_at}
use Rattle.job.specs.Image.{longest_job, lines_in, classes_in, gates_in, vectors_in}
use Rattle.circuit.specs.Rules.{bad_lines, bad_counts}
use Rattle.job.specs.Rules.{bad_classes, bad_sizes, header_rows, read_rows}
use Rattle.circuit.proofs.RuleLaws.{counts_right}

-- more bytes than the longest job has
abbrev pub Long : List ℕ → Type 0
Long bytes = suc longest_job ≤ length bytes

-- what is told of such bytes: the first broken one of rules 2 to 5, and where none is broken rule 6
abbrev form_to_count_rows : List ℕ → List Row
form_to_count_rows bytes =
    refuse 2 at 0 when not (eqb (number_at 2 bytes 0) 1) ∷
    refuse 3 at 0 when bad_lines (lines_in bytes) ∷
    refuse 4 at 0 when (bad_classes (classes_in bytes) || not (eqb (number_at 2 bytes 6) 0)) ∷
    refuse 5 at 0 when bad_counts (gates_in bytes) (vectors_in bytes) ∷ []

abbrev pub told_long : List ℕ → Told
told_long bytes = first_of (form_to_count_rows bytes) (refused 6 0)

-- ---- it is a refusal, whatever the room and the answer would be

always_refused : (rows : List Row) (k p : ℕ) → (j : ℕ) × (q : ℕ) × (first_of rows (refused k p) ≡ refused j q)
always_refused [] k p = (k, p, refl)
always_refused (refuse n at q when true ∷ rows) k p = (n, q, refl)
always_refused (refuse n at q when false ∷ rows) k p = always_refused rows k p

pub long_is_refused : (bytes : List ℕ) → (k : ℕ) × (p : ℕ) × (told_long bytes ≡ refused k p)
long_is_refused bytes = always_refused (form_to_count_rows bytes) 6 0

-- their number is that of no job
long_sizes : (bytes : List ℕ) → Long bytes → bad_counts (gates_in bytes) (vectors_in bytes) ≡ false → bad_sizes bytes ≡ true
unfolding bad_sizes
long_sizes bytes h e =
    let few = counts_right (gates_in bytes) (vectors_in bytes) e in
    let whole : ℕ = 28 + 12 * gates_in bytes + 4 * vectors_in bytes in
    or_right (not (eqb (number_at 4 bytes 16) 28))
    (or_right (not (eqb (number_at 4 bytes 20) (28 + 12 * gates_in bytes)))
    (or_right (not (eqb (number_at 4 bytes 24) whole)) (ap not (ne_eqb (length bytes) whole (λ z. omega arith)))))

long_header : (bytes : List ℕ) → Long bytes → first_of (header_rows bytes) fine ≡ told_long bytes
unfolding header_rows
long_header bytes h = rw (le-ltb (length bytes) 28 (omega arith))
    (by_test (bad_counts (gates_in bytes) (vectors_in bytes)) (λ e. rw e) (λ e. rw (e, long_sizes bytes h e)))

pub long_told : (bytes : List ℕ) (gate_room vector_room : ℕ) (answer : Told) → Long bytes
    → first_of (read_rows bytes gate_room vector_room) answer ≡ told_long bytes
unfolding read_rows
long_told bytes gate_room vector_room answer h =
    let r = long_is_refused bytes in
    sym (refused_on (header_rows bytes) _ answer r.0 r.1 (sym (long_header bytes h ∙ r.2))) ∙ sym r.2

-- ---- it is the same where the first 28 bytes are

number_front : (width : ℕ) (bytes : List ℕ) (start end : ℕ) → start + width ≤ end
    → number_at width (take end bytes) start ≡ number_at width bytes start
unfolding number_at
number_front zero bytes start end h = refl
number_front (suc width) bytes start end h =
    ap₂ (λ a b. a + 256 * b) (get_or-take end bytes start 0 (omega arith)) (number_front width bytes (suc start) end (omega arith))

module _ (a b : List ℕ) (same : take 28 a ≡ take 28 b) where
  number_same : (width start : ℕ) → start + width ≤ 28 → number_at width a start ≡ number_at width b start
  number_same width start h =
      sym (number_front width a start 28 h) ∙ ap (λ l. number_at width l start) same ∙ number_front width b start 28 h

  pub long_same : told_long a ≡ told_long b
  unfolding lines_in classes_in gates_in vectors_in
  long_same = rw (
    number_same 2 0 (omega arith),
    number_same 2 2 (omega arith),
    number_same 2 4 (omega arith),
    number_same 2 6 (omega arith),
    number_same 4 8 (omega arith),
    number_same 4 12 (omega arith),
  )
