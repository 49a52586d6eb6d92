-- Texts over contracts: an export is of the .real form; the import of an export is the same circuit; an import answers what its text says; a refusal
-- 14 or 15 tells the first faulty line, and is told exactly if the text says no circuit. One law each for every call that imports and every call
-- that exports as the tables say, so that the library's calls and the C calls may be mixed (`RealCalls`).
use Prim.Native.Nat.{ℕ, ◌-◌, ◌*◌, ◌/◌, ◌^◌, ◌≤◌, ◌<◌}
use mathlib.Core.Path.{◌≡◌, refl, sym, ap, subst, ◌∙◌}
use mathlib.Core.Logic.Iff
use mathlib.Core.Logic.{◌↔◌, ◌⊎◌}
use mathlib.Core.Logic.◌⊎◌.{inl, inr}
use mathlib.Core.Bool.{true, false}
use mathlib.Core.List.{List, [], ◌∷◌, ◌++◌}
use native.Mathlib.Omega.{arith}
use lib.ListN.{length, take, drop}
use lib.Seq.{take_at}
use lib.Dec.{eqb, ltb}
use borrow.Author.Tests.{eqb-true, le-ltb}
use Rattle.basics.specs.Lists.{All, onto}
use Rattle.basics.proofs.Tests.{by_test}
use Rattle.refusals.specs.Tables.{Row, Told, first_of}
use Rattle.refusals.specs.Tables.Row.{refuse◌at◌when◌}
use Rattle.refusals.specs.Tables.Told.{answered, refused}
use Rattle.refusals.specs.Answers.{fine}
use Rattle.refusals.specs.Places.{in_word}
use Rattle.refusals.proofs.Clashes.{answered-refused, refused-answered}
use Rattle.refusals.proofs.Tables.{answered-fine, fine_all, fine_on, fine-parts, fine_row, after-fine}
use Rattle.circuit.specs.Gates.{gates_of}
use Rattle.circuit.specs.Rules.{bad_lines, circuit_set_rows, circuit_rows}
use Rattle.circuit.proofs.GateLaws.{gates_count}
use Rattle.circuit.proofs.RuleLaws.{sound}
use Rattle.text_words.specs.Words.{lines_of}
use Rattle.real.specs.Reading.{Reading, reading}
use Rattle.real.specs.Reading.Reading.{circuit, faulty}
use Rattle.real.specs.Export.{real_text}
use Rattle.real.proofs.RoundTrip.{round_trip}
use Rattle.real_import.specs.Promises.{import_tells, import_leaves}
use Rattle.real_import.specs.Rules.{lines_read, words_read, reading_rows, import_rows}
use Rattle.real_export.specs.Rules.{export_rows}
use Rattle.demands.proofs.RulesOfTexts.{Stopped, stopped}
use Rattle.demands.proofs.RealForm.{OfForm}
use Rattle.demands.proofs.RealLines.{same-circuit}
use Rattle.demands.proofs.RealReading.{form_read, no_form}
use Rattle.demands.proofs.RealCalls.{Importer, Imports, Refuses, told_imported_lem, Exporter, Exports, told_exported_lem}

-- ---- exports

-- a text of the .real form that says a circuit which breaks no rule, and is read as it
pub record ExportedAs (text : List ℕ) (n : ℕ) (words : List ℕ) : Type 0 where
  pub broken_none : fine ≡ first_of (circuit_rows n words) fine
  pub is_read : reading text ≡ circuit n words
  pub of_form : OfForm text n words

-- An export that answers with so many bytes has put a text in front that says its circuit.
pub export_says : (X : Exporter) (x : X.Call) (count : ℕ) → Exports X x count → ExportedAs (take count (X.left x)) (X.lines x) (X.gates x)
unfolding export_rows
export_says X x count done =
    let n = X.lines x in
    let words = X.gates x in
    let room = X.room x in
    let rows = export_rows n words (length room) in
    let w = answered-fine rows (count ∷ []) (length (real_text n words) ∷ []) (told_exported_lem X x (answered (count ∷ [])) tt done) in
    let same : count ≡ length (real_text n words) = let v = w.0 in cc in
    let passed = (fine-parts (circuit_rows n words) (refuse 10 at 0 when ltb (length room) (length (real_text n words)) ∷ []) w.1).0 in
    let front = ap (take count) (X.leaves x ∙ sym (after-fine rows (onto (real_text n words) room) room w.1))
    ∙ take_at (real_text n words) (drop (length (real_text n words)) room) count (sym same) in
    let is = ap reading front ∙ round_trip n words passed in
    record { broken_none = passed; is_read = is; of_form = (form_read _ n words).0 is }

-- ---- imports

-- an import answers with this circuit, and has put the words of its gates in front of the room, with the rest as it was
pub record ImportedAs (I : Importer) (i : I.Call) (n : ℕ) (words : List ℕ) : Type 0 where
  pub answers-circuit : Imports I i n (length words / 3)
  pub leaves-words : I.left i ≡ words ++ drop (length words) (I.room i)

-- a text that is read as a circuit which breaks no rule, into enough room, breaks none
module _ (text words : List ℕ) (n : ℕ) (room : List ℕ) (is : reading text ≡ circuit n words) (passed : fine ≡ first_of (circuit_rows n words) fine)
    (fits : length words ≤ length room) where
  rows_fine : fine ≡ first_of (import_rows text (length room)) fine
  unfolding import_rows
  rows_fine =
      sym (ap (λ r. first_of (reading_rows r (length room)) fine) is
      ∙ fine_on (circuit_rows n words) (refuse 10 at 0 when ltb (length room) (length words) ∷ []) fine passed
      ∙ rw (le-ltb (length room) (length words) fits))

  tells-circuit : import_tells text room ≡ answered (n ∷ length words / 3 ∷ [])
  tells-circuit =
      sym (fine_all (import_rows text (length room)) _ rows_fine)
      ∙ ap (λ r. answered (lines_read r ∷ length (gates_of (words_read r)) ∷ [])) is
      ∙ ap (λ d. answered (n ∷ d ∷ [])) (gates_count words)

  leaves-circuit : import_leaves text room ≡ words ++ drop (length words) room
  leaves-circuit = sym (after-fine (import_rows text (length room)) _ room rows_fine) ∙ ap (λ r. onto (words_read r) room) is

-- The import of an export, into a room of at least as many words as the circuit has, gives the same circuit.
pub import_of_export : (X : Exporter) (I : Importer) (x : X.Call) (count : ℕ) → Exports X x count
    → (i : I.Call) → I.text i ≡ take count (X.left x) → length (X.gates x) ≤ length (I.room i)
    → ImportedAs I i (X.lines x) (X.gates x)
import_of_export X I x count done i same fits =
    let n = X.lines x in
    let words = X.gates x in
    let put = export_says X x count done in
    let is : reading (I.text i) ≡ circuit n words = ap reading same ∙ put.is_read in
    record {
      answers-circuit = I.tells i ∙ ap I.way.tell (tells-circuit (I.text i) words n (I.room i) is put.broken_none fits);
      leaves-words = I.leaves i ∙ leaves-circuit (I.text i) words n (I.room i) is put.broken_none fits;
    }

-- Two circuits that were exported as the same bytes are the same circuit.
pub one-circuit : (X Y : Exporter) (x : X.Call) (y : Y.Call) (count count' : ℕ) → Exports X x count → Exports Y y count'
    → take count (X.left x) ≡ take count' (Y.left y) → (X.lines x ≡ Y.lines y) × (X.gates x ≡ Y.gates y)
one-circuit X Y x y count count' done done' same =
    same-circuit (sym (export_says X x count done).is_read ∙ ap reading same ∙ (export_says Y y count' done').is_read)

-- a text that breaks no rule is read as a circuit that breaks none
some-circuit : (r : Reading) (room : ℕ) → fine ≡ first_of (reading_rows r room) fine
    → (r ≡ circuit (lines_read r) (words_read r)) × (fine ≡ first_of (circuit_rows (lines_read r) (words_read r)) fine)
unfolding circuit_rows circuit_set_rows bad_lines
some-circuit (circuit n words) room e = (refl, (fine-parts (circuit_rows n words) (refuse 10 at 0 when ltb room (length words) ∷ []) e).0)
some-circuit (faulty k line) room e =
    let u = fine_row (eqb k 15) 15 (in_word line) _ e in
    let v = fine_row (eqb k 14) 14 (in_word line) _ u.1 in
    answered-refused v.1

-- An import that answers has read what its text says.
pub import_answers : (I : Importer) (i : I.Call) (n d : ℕ) → Imports I i n d
    → (words : List ℕ) × OfForm (I.text i) n words × (length words ≡ 3 * d) × ImportedAs I i n words
unfolding import_rows
import_answers I i n d done =
    let text = I.text i in
    let room = I.room i in
    let rows = import_rows text (length room) in
    let w = answered-fine rows (n ∷ d ∷ []) _ (told_imported_lem I i (answered (n ∷ d ∷ [])) tt done) in
    let v = w.0 in
    let c = some-circuit (reading text) (length room) w.1 in
    let words = words_read (reading text) in
    let lines : n ≡ lines_read (reading text) = cc in
    let gates : d ≡ length (gates_of words) = cc in
    let whole = (sound (lines_read (reading text)) words c.1).whole in
    let is : reading text ≡ circuit n words = c.0 ∙ ap (λ m. circuit m words) (sym lines) in
    let count : d ≡ length words / 3 = gates ∙ gates_count words in (
      words,
      (form_read text n words).0 is,
      omega arith,
      record {
        answers-circuit = done ∙ ap (λ m. I.way.tell (answered (n ∷ m ∷ []))) count;
        leaves-words = I.leaves i ∙ sym (after-fine rows (onto words room) room w.1);
      },
    )

-- ---- refusals of texts

-- 14 for a text that is not of the form, 15 for a gate token of another kind
abbrev pub OfText : ℕ → Type 0
OfText k = (k ≡ 14) ⊎ (k ≡ 15)

pub text_number : (k : ℕ) → OfText k → k ≡ 0 → ⊥
text_number k (inl e) z = omega arith
text_number k (inr e) z = omega arith

-- The first faulty line of a text, counted from 1, and the number by which it is refused: every line before it leads on; it is refused, or it is the
-- one after the last where something is due, and then the number is 14.
abbrev pub FirstFaulty : List ℕ → ℕ → ℕ → Type 0
FirstFaulty text k line = Stopped text k line

-- no other rule has these numbers
abbrev Other : ℕ → Row → Type 0
Other k (refuse number at place when broken) = number ≡ k → ⊥

not_told {ℓ} : {A : Type ℓ} (rows : List Row) (k p : ℕ) (values : List ℕ) → All (Other k) rows → refused k p ≡ first_of rows (answered values) → A
not_told [] k p values w e = refused-answered e
not_told (refuse m at q when true ∷ rows) k p values w e = let z : m ≡ k = cc in absurd (w.0 z)
not_told (refuse m at q when false ∷ rows) k p values w e = not_told rows k p values w.1 e

module _ (room k p : ℕ) (values : List ℕ) (of-text : OfText k) where
  abbrev other_rows : ℕ → List ℕ → List Row
  other_rows n words = circuit_rows n words ++ (refuse 10 at 0 when ltb room (length words) ∷ [])

  all_other : (n : ℕ) (words : List ℕ) → OfText k → All (Other k) (other_rows n words)
  unfolding circuit_rows circuit_set_rows
  all_other n words (inl e) = omega arith
  all_other n words (inr e) = omega arith

  abbrev FaultyAt : Reading → Type 0
  FaultyAt r = (line : ℕ) × (r ≡ faulty k line) × (p ≡ in_word line)

  by_other : (n : ℕ) (words : List ℕ) (r : Reading) → refused k p ≡ first_of (other_rows n words) (answered values) → FaultyAt r
  by_other n words r e = not_told (other_rows n words) k p values (all_other n words of-text) e

  by_number : (m j line : ℕ) → eqb m j ≡ true → refused k p ≡ refused j (in_word line) → FaultyAt (faulty m line)
  by_number m j line q e =
      let number : k ≡ j = cc in
      let place : p ≡ in_word line = cc in
      (line, ap (λ t. faulty t line) (eqb-true m j q ∙ sym number), place)

  refused-faulty : (r : Reading) → refused k p ≡ first_of (reading_rows r room) (answered values) → FaultyAt r
  refused-faulty (circuit n words) e = by_other n words (circuit n words) e
  refused-faulty (faulty m line) e = by_test (eqb m 15)
      (λ q. by_number m 15 line q (rw q at e))
      (λ q. let rest = rw q at e in by_test (eqb m 14)
      (λ u. by_number m 14 line u (rw u at rest))
      (λ u. by_other 0 [] (faulty m line) (rw u at rest)))

faulty-refused : (room k line : ℕ) (told : Told) → OfText k → first_of (reading_rows (faulty k line) room) told ≡ refused k (in_word line)
faulty-refused room k line told (inl e) = rw e
faulty-refused room k line told (inr e) = rw e

text_refused : (I : Importer) (i : I.Call) (k p : ℕ) → OfText k
    → Refuses I i k p ↔ ((line : ℕ) × (reading (I.text i) ≡ faulty k line) × (p ≡ in_word line))
unfolding import_rows
text_refused I i k p of-text = (
  λ done. refused-faulty (length (I.room i)) k p _ of-text (reading (I.text i)) (told_imported_lem I i (refused k p) (text_number k of-text) done),
  λ w. I.tells i ∙ ap I.way.tell
      (ap (λ r. first_of (reading_rows r (length (I.room i))) (answered (lines_read r ∷ length (gates_of (words_read r)) ∷ []))) w.1
      ∙ faulty-refused (length (I.room i)) k w.0 _ of-text ∙ ap (refused k) (sym w.2)),
)

-- A refusal 14 or 15 is told exactly of the first faulty line; a place that no word holds is told as the largest word.
pub refusal_tells_line : (I : Importer) (i : I.Call) (k p : ℕ) → OfText k
    → Refuses I i k p ↔ ((line : ℕ) × FirstFaulty (I.text i) k line × (p ≡ in_word line))
unfolding reading
refusal_tells_line I i k p of-text = (
  λ done. let w = (text_refused I i k p of-text).0 done in (w.0, (stopped (I.text i) k w.0).0 w.1, w.2),
  λ w. (text_refused I i k p of-text).1 (w.0, (stopped (I.text i) k w.0).1 w.1, w.2),
)

-- So of a text of fewer than 2 ^ 32 - 1 lines the place is the first faulty line.
pub place-is-line : (I : Importer) (i : I.Call) (k line : ℕ) → OfText k → length (lines_of (I.text i)) < 2 ^ 32 - 1
    → Refuses I i k line ↔ FirstFaulty (I.text i) k line
unfolding in_word
place-is-line I i k line of-text few = (
  λ done.
      let w = (refusal_tells_line I i k line of-text).0 done in
      let same : w.0 ≡ line = omega (arith, w.1.0, w.1.1.within, w.2) in
      subst (FirstFaulty (I.text i) k) same w.1,
  λ first. (refusal_tells_line I i k line of-text).1 (line, first, omega (arith, first.0, first.1.within)),
)

-- A refusal 14 or 15 is told exactly if the text says no circuit, by the grammar of `RealForm`.
pub refused_says_none : (I : Importer) (i : I.Call)
    → ((k : ℕ) × (p : ℕ) × OfText k × Refuses I i k p) ↔ ((n : ℕ) (words : List ℕ) → OfForm (I.text i) n words → ⊥)
refused_says_none I i = Iff.trans (
  λ w. let f = (text_refused I i w.0 w.1 w.2).0 w.3 in (w.0, f.0, w.2, f.1),
  λ w. (w.0, in_word w.1, w.2, (text_refused I i w.0 (in_word w.1) w.2).1 (w.1, w.3, refl)),
) (no_form (I.text i))

-- And exactly if it is read as none.
pub refused_reads_none : (I : Importer) (i : I.Call)
    → ((k : ℕ) × (p : ℕ) × OfText k × Refuses I i k p) ↔ ((n : ℕ) (words : List ℕ) → reading (I.text i) ≡ circuit n words → ⊥)
refused_reads_none I i = Iff.trans (refused_says_none I i) (
  λ none n words e. none n words ((form_read (I.text i) n words).0 e),
  λ none n words f. none n words ((form_read (I.text i) n words).1 f),
)
