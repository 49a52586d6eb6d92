-- Calls that import a text and calls that export one: what their contracts promise, however they tell it. The library's two calls and the two of C
-- are such, so that the theorems of `RealTexts` hold of them.
use Prim.Native.Nat.{ℕ}
use mathlib.Core.Path.{◌≡◌, sym, ap, ◌∙◌}
use mathlib.Core.Bool.{true, false}
use mathlib.Core.List.{List, [], ◌∷◌}
use native.Mathlib.Omega.{arith}
use lib.ListN.{length}
use Rattle.refusals.specs.Answers.{told, told_word}
use Rattle.refusals.specs.Tables.{Row, Told, first_of}
use Rattle.refusals.specs.Tables.Row.{refuse◌at◌when◌}
use Rattle.refusals.specs.Tables.Told.{answered, refused}
use Rattle.refusals.proofs.Tables.{Numbered}
use Rattle.circuit.specs.Rules.{circuit_set_rows, circuit_rows}
use Rattle.real_import.specs.Answers.{imported_values}
use Rattle.real_import.specs.Promises.{import_tells, import_leaves}
use Rattle.real_import.specs.Rules.{import_rows}
use Rattle.real_import.proofs.import.Reads as import-call
use Rattle.real_export.specs.Promises.{export_tells, export_leaves}
use Rattle.real_export.specs.Rules.{export_rows}
use Rattle.real_export.proofs.export.Reads as export-call
use Rattle.answers.specs.Fields.{fields}
use Rattle.nufsadeem.proofs.texts.nuf_import_real.Reads as nuf-import-real
use Rattle.nufsadeem.proofs.texts.nuf_export_real.Reads as nuf-export-real
use Rattle.demands.proofs.Answering.{Ended}

-- ---- ways of telling

-- no refusal has number 0
abbrev pub Proper : Told → Type 0
Proper (answered values) = Unit {0}
Proper (refused number place) = number ≡ 0 → ⊥

-- what is told, as it is said: two that differ are said in two ways
pub record Way : Type 1 where
  pub Saying : Type 0
  pub tell : Told → Saying
  pub one : (a b : Told) → Proper a → Proper b → tell a ≡ tell b → a ≡ b

-- as it is
abbrev pub plainly : Way
plainly = record { Saying = Told; tell = λ told. told; one = λ a b v w e. e }

pub one_struct : (others : ℕ) (a b : Told) → Proper a → Proper b → fields others a ≡ fields others b → a ≡ b
one_struct others (answered xs) (answered ys) v w e = let is : xs ≡ ys = cc in ap answered is
one_struct others (answered xs) (refused k p) v w e = let z : k ≡ 0 = cc in absurd (w z)
one_struct others (refused k p) (answered ys) v w e = let z : k ≡ 0 = cc in absurd (v z)
one_struct others (refused k p) (refused m q) v w e =
    let number : k ≡ m = cc in
    let place : p ≡ q = cc in
    λ i. refused (number i) (place i)

-- as the fields of a struct, with so many after a refusal's number and place
abbrev pub as_struct : ℕ → Way
as_struct others = record { Saying = List ℕ; tell = fields others; one = one_struct others }

table_proper : (rows : List Row) (values : List ℕ) → Numbered rows → Proper (first_of rows (answered values))
table_proper [] values w = tt
table_proper (refuse k at p when true ∷ rows) values w = w.0
table_proper (refuse k at p when false ∷ rows) values w = table_proper rows values w.1

-- ---- calls that import and calls that export

pub record Importer : Type 1 where
  -- the calls that its contract allows, with the text and the room that each is lent, and what it leaves in the room
  pub Call : Type 0
  pub text : Call → List ℕ
  pub room : Call → List ℕ
  pub left : Call → List ℕ
  -- what each says, and how that is told
  pub way : Way
  pub said : Call → way.Saying
  -- what its contract promises
  pub tells : (i : Call) → said i ≡ way.tell (import_tells (text i) (room i))
  pub leaves : (i : Call) → left i ≡ import_leaves (text i) (room i)

pub record Exporter : Type 1 where
  -- the calls that its contract allows, with the circuit that each is given and the room that it is lent, and what it leaves in the room
  pub Call : Type 0
  pub lines : Call → ℕ
  pub gates : Call → List ℕ
  pub room : Call → List ℕ
  pub left : Call → List ℕ
  -- what each says, and how that is told
  pub way : Way
  pub said : Call → way.Saying
  -- what its contract promises
  pub tells : (x : Call) → said x ≡ way.tell (export_tells (lines x) (gates x) (room x))
  pub leaves : (x : Call) → left x ≡ export_leaves (lines x) (gates x) (room x)

-- a call answers with so many lines and gates, refuses by a number at a place, or answers with so many bytes
abbrev pub Imports : (I : Importer) → I.Call → ℕ → ℕ → Type 0
Imports I i n d = I.said i ≡ I.way.tell (answered (n ∷ d ∷ []))

abbrev pub Refuses : (I : Importer) → I.Call → ℕ → ℕ → Type 0
Refuses I i k p = I.said i ≡ I.way.tell (refused k p)

abbrev pub Exports : (X : Exporter) → X.Call → ℕ → Type 0
Exports X x count = X.said x ≡ X.way.tell (answered (count ∷ []))

-- ---- the four calls

abbrev pub import_imports : Importer
import_imports = record {
  Call = Ended import-call.Post;
  text = λ call. let (text, _) = call.inputs in text.now;
  room = λ call. let (_, (gates, _)) = call.inputs in gates.now;
  left = λ call. let (_, (gates-after, _)) = call.exit in gates-after.now;
  way = plainly;
  said = λ call. told imported_values call.result;
  tells = λ call. call.promised.0;
  leaves = λ call. call.promised.1;
}

abbrev pub export_exports : Exporter
export_exports = record {
  Call = Ended export-call.Post;
  lines = λ call. let (lines, _) = call.inputs in lines;
  gates = λ call. let (_, (gates, _)) = call.inputs in gates.now;
  room = λ call. let (_, (_, (out, _))) = call.inputs in out.now;
  left = λ call. let (_, (_, (out-after, _))) = call.exit in out-after.now;
  way = plainly;
  said = λ call. told_word call.result;
  tells = λ call. call.promised.0;
  leaves = λ call. call.promised.1;
}

abbrev pub nuf_import_real_imports : Importer
nuf_import_real_imports = record {
  Call = Ended nuf-import-real.Post;
  text = λ call. let (text, _) = call.inputs in text.now;
  room = λ call. let (_, (gates, _)) = call.inputs in gates.now;
  left = λ call. let (_, (gates-after, _)) = call.exit in gates-after.now;
  way = as_struct 2;
  said = λ call. let r = call.result in r.number ∷ r.place ∷ r.lines ∷ r.gates ∷ [];
  tells = λ call. call.promised.0;
  leaves = λ call. call.promised.1;
}

abbrev pub nuf_export_real_exports : Exporter
nuf_export_real_exports = record {
  Call = Ended nuf-export-real.Post;
  lines = λ call. let (lines, _) = call.inputs in lines;
  gates = λ call. let (_, (gates, _)) = call.inputs in gates.now;
  room = λ call. let (_, (_, (out, _))) = call.inputs in out.now;
  left = λ call. let (_, (_, (out-after, _))) = call.exit in out-after.now;
  way = as_struct 1;
  said = λ call. let r = call.result in r.number ∷ r.place ∷ r.count ∷ [];
  tells = λ call. call.promised.0;
  leaves = λ call. call.promised.1;
}

-- ---- what is said is what the tables tell

pub import_proper : (text room : List ℕ) → Proper (import_tells text room)
unfolding import_rows circuit_rows circuit_set_rows
import_proper text room = table_proper (import_rows text (length room)) _ (omega arith)

pub export_proper : (n : ℕ) (words room : List ℕ) → Proper (export_tells n words room)
unfolding export_rows circuit_rows circuit_set_rows
export_proper n words room = table_proper (export_rows n words (length room)) _ (omega arith)

pub told_imported_lem : (I : Importer) (i : I.Call) (told : Told) → Proper told → I.said i ≡ I.way.tell told
    → told ≡ import_tells (I.text i) (I.room i)
told_imported_lem I i told proper says = I.way.one told _ proper (import_proper (I.text i) (I.room i)) (sym says ∙ I.tells i)

pub told_exported_lem : (X : Exporter) (x : X.Call) (told : Told) → Proper told → X.said x ≡ X.way.tell told
    → told ≡ export_tells (X.lines x) (X.gates x) (X.room x)
told_exported_lem X x told proper says = X.way.one told _ proper (export_proper (X.lines x) (X.gates x) (X.room x)) (sym says ∙ X.tells x)
