-- The theorems on texts once more, of the C calls, by the fields of their structs.
use Prim.Native.Nat.{ℕ, ◌-◌, ◌*◌, ◌/◌, ◌^◌, ◌≤◌, ◌<◌}
use mathlib.Core.Path.{◌≡◌, refl, sym, ◌∙◌}
use mathlib.Core.Logic.Iff
use mathlib.Core.Logic.{◌↔◌}
use mathlib.Core.Logic.◌⊎◌.{inl, inr}
use mathlib.Core.List.{List, [], ◌∷◌, ◌++◌}
use lib.ListN.{length, take, drop}
use Rattle.refusals.specs.Tables.{Told}
use Rattle.refusals.specs.Tables.Told.{answered, refused}
use Rattle.text_words.specs.Words.{lines_of}
use Rattle.real_import.specs.Promises.{import_tells}
use Rattle.real_export.specs.Promises.{export_tells}
use Rattle.answers.specs.Fields.{fields}
use Rattle.nufsadeem.proofs.texts.nuf_import_real.Reads as nuf-import-real
use Rattle.nufsadeem.proofs.texts.nuf_export_real.Reads as nuf-export-real
use Rattle.demands.proofs.Answering.{Ended}
use Rattle.demands.proofs.RealForm.{OfForm}
use Rattle.demands.proofs.RealCalls.{Proper, Imports, Refuses, import_proper, Exports, export_proper, nuf_import_real_imports, nuf_export_real_exports}
use Rattle.demands.proofs.RealTexts.{export_says, import_of_export, import_answers, OfText, text_number, FirstFaulty, place-is-line, refused_says_none}

-- ---- structs

-- number 0 has place 0
zero-place : (others number place : ℕ) (values : List ℕ) (told : Told) → Proper told → number ∷ place ∷ values ≡ fields others told → number ≡ 0
    → place ≡ 0
zero-place others number place values (answered xs) proper e z = cc
zero-place others number place values (refused k p) proper e z = let same : number ≡ k = cc in absurd (proper (sym same ∙ z))

-- any other has zeros after the place
refused_rest : (others number place : ℕ) (values : List ℕ) (told : Told) → number ∷ place ∷ values ≡ fields others told → (number ≡ 0 → ⊥)
    → number ∷ place ∷ values ≡ fields others (refused number place)
refused_rest others number place values (answered xs) e some = let z : number ≡ 0 = cc in absurd (some z)
refused_rest others number place values (refused k p) e some =
    let same : number ≡ k = cc in
    let at : place ≡ p = cc in
    e ∙ (λ i. fields others (refused (sym same i) (sym at i)))

exports : (x : Ended nuf-export-real.Post) → x.result.number ≡ 0 → Exports nuf_export_real_exports x x.result.count
exports x z =
    let (lines, (gates, (out, _))) = x.inputs in
    let r = x.result in
    let told = export_tells lines gates.now out.now in
    let p = zero-place 1 r.number r.place (r.count ∷ []) told (export_proper lines gates.now out.now) x.promised.0 z in
    λ i. z i ∷ p i ∷ r.count ∷ []

imports : (i : Ended nuf-import-real.Post) → i.result.number ≡ 0 → Imports nuf_import_real_imports i i.result.lines i.result.gates
imports i z =
    let (text, (room, _)) = i.inputs in
    let r = i.result in
    let told = import_tells text.now room.now in
    let p = zero-place 2 r.number r.place (r.lines ∷ r.gates ∷ []) told (import_proper text.now room.now) i.promised.0 z in
    λ j. z j ∷ p j ∷ r.lines ∷ r.gates ∷ []

-- a struct with this number and this place is that refusal
refuses : (i : Ended nuf-import-real.Post) (k line : ℕ) → OfText k
    → ((i.result.number ≡ k) × (i.result.place ≡ line)) ↔ Refuses nuf_import_real_imports i k line
refuses i k line of-text =
    let (text, (room, _)) = i.inputs in
    let r = i.result in
    let told = import_tells text.now room.now in (
      λ w. refused_rest 2 r.number r.place (r.lines ∷ r.gates ∷ []) told i.promised.0 (λ z. text_number k of-text (sym w.0 ∙ z))
          ∙ (λ j. fields 2 (refused (w.0 j) (w.1 j))),
      λ e. (cc, cc),
    )

-- ---- the theorems

-- An export with number 0 has put a text of the .real form in front that says its circuit.
pub nuf_export_says : (x : Ended nuf-export-real.Post)
    → let (lines, (gates, (out, _))) = x.inputs in
    let (_, (_, (out-after, _))) = x.exit in
    x.result.number ≡ 0 → OfForm (take x.result.count out-after.now) lines gates.now
nuf_export_says x z = (export_says nuf_export_real_exports x x.result.count (exports x z)).of_form

-- The import of an export gives the same circuit, into a room of at least as many words, of which the rest stays as it was.
pub nuf_import_of_export : (x : Ended nuf-export-real.Post) (i : Ended nuf-import-real.Post)
    → let (lines, (gates, (out, _))) = x.inputs in
    let (_, (_, (out-after, _))) = x.exit in
    let (text, (room, _)) = i.inputs in
    let (_, (room-after, _)) = i.exit in
    x.result.number ≡ 0 → text.now ≡ take x.result.count out-after.now → length gates.now ≤ length room.now
    → (i.result.number ≡ 0) × (i.result.place ≡ 0) × (i.result.lines ≡ lines) × (i.result.gates ≡ length gates.now / 3)
    × (room-after.now ≡ gates.now ++ drop (length gates.now) room.now)
nuf_import_of_export x i z same fits =
    let w = import_of_export nuf_export_real_exports nuf_import_real_imports x x.result.count (exports x z) i same fits in
    let e = w.answers-circuit in
    (cc, cc, cc, cc, w.leaves-words)

-- An import with number 0 has read what its text says.
pub nuf_import_answers : (i : Ended nuf-import-real.Post)
    → let (text, (room, _)) = i.inputs in
    let (_, (room-after, _)) = i.exit in
    i.result.number ≡ 0
    → (words : List ℕ) × OfForm text.now i.result.lines words × (length words ≡ 3 * i.result.gates)
    × (room-after.now ≡ words ++ drop (length words) room.now)
nuf_import_answers i z =
    let w = import_answers nuf_import_real_imports i i.result.lines i.result.gates (imports i z) in
    (w.0, w.1, w.2, w.3.leaves-words)

-- Its number is 14 or 15 exactly if the text says no circuit.
pub nuf_refused_says_none : (i : Ended nuf-import-real.Post)
    → let (text, _) = i.inputs in
    OfText i.result.number ↔ ((n : ℕ) (words : List ℕ) → OfForm text.now n words → ⊥)
nuf_refused_says_none i = Iff.trans (
  λ of-text. (i.result.number, i.result.place, of-text, (refuses i _ _ of-text).0 (refl, refl)),
  λ w. by_number w.2 ((refuses i w.0 w.1 w.2).1 w.3).0,
) (refused_says_none nuf_import_real_imports i)
  where
    by_number : {k : ℕ} → OfText k → i.result.number ≡ k → OfText i.result.number
    by_number (inl e) same = inl (same ∙ e)
    by_number (inr e) same = inr (same ∙ e)

-- And then its place is the first faulty line, of a text of fewer than 2 ^ 32 - 1 lines.
pub nuf_place_is_line : (i : Ended nuf-import-real.Post)
    → let (text, _) = i.inputs in
    (k line : ℕ) → OfText k → length (lines_of text.now) < 2 ^ 32 - 1
    → ((i.result.number ≡ k) × (i.result.place ≡ line)) ↔ FirstFaulty text.now k line
nuf_place_is_line i k line of-text few = Iff.trans (refuses i k line of-text) (place-is-line nuf_import_real_imports i k line of-text few)
