-- What importing and exporting a text take, in the words of docs/SCOPE.md: exactly what breaks no rule of their tables.
use Prim.Native.Nat.{ℕ, ◌*◌, ◌≤◌}
use mathlib.Core.Path.{◌≡◌, sym, ap, ◌∙◌, subst}
use mathlib.Core.Logic.Iff
use mathlib.Core.Logic.{◌↔◌}
use mathlib.Core.List.{List, [], ◌∷◌, ◌++◌}
use native.Mathlib.Omega.{arith}
use lib.ListN.{length}
use lib.Dec.{ltb}
use borrow.Author.Tests.{ltb-false, le-ltb}
use Rattle.refusals.specs.Tables.{Row}
use Rattle.refusals.specs.Tables.Row.{refuse◌at◌when◌}
use Rattle.refusals.specs.Places.{in_word}
use Rattle.refusals.proofs.Tables.{fine_row}
use Rattle.circuit.specs.Rules.{circuit_rows}
use Rattle.circuit.specs.declared.Gate.{Gate}
use Rattle.real.specs.Export.{real_text}
use Rattle.real.specs.Reading.{reading}
use Rattle.real.specs.Reading.Reading.{circuit}
use Rattle.real_export.specs.Rules.{export_rows}
use Rattle.real_import.specs.Rules.{is_refused, faulty_line, reading_rows, import_rows}
use Rattle.real_import.proofs.RuleLaws.{reads}
use Rattle.demands.proofs.Valid.{Valid, flat_length}
use Rattle.demands.proofs.ValidRows.{Fine, one_rule}
use Rattle.demands.proofs.ValidCalls.{with_circuit}

-- room for what is needed
room_valid : (needed room : ℕ) → Fine (refuse 10 at 0 when ltb room needed ∷ []) ↔ (needed ≤ room)
room_valid needed room = Iff.trans (one_rule (ltb room needed) 10 0) (ltb-false room needed, le-ltb room needed)

-- ---- written: room for the text

pub export_valid : (n : ℕ) (words : List ℕ) (room : ℕ)
    → Fine (export_rows n words room) ↔ ((gs : List Gate) × Valid n words gs × (length (real_text n words) ≤ room))
unfolding export_rows
export_valid n words room = with_circuit n words _ (λ gs. length (real_text n words) ≤ room) (room_valid (length (real_text n words)) room)

-- ---- read: a text that reads as a valid circuit, and room for its gates

-- a circuit, and room for its gates
abbrev stored_rows : ℕ → List ℕ → ℕ → List Row
stored_rows n words room = circuit_rows n words ++ (refuse 10 at 0 when ltb room (length words) ∷ [])

stored_valid : (n : ℕ) (words : List ℕ) (room : ℕ)
    → Fine (stored_rows n words room) ↔ ((gs : List Gate) × Valid n words gs × (3 * length gs ≤ room))
stored_valid n words room =
    let w = with_circuit n words _ (λ gs. length words ≤ room) (room_valid (length words) room) in
    let three : (gs : List Gate) → Valid n words gs → length words ≡ 3 * length gs = λ gs v. ap length v.circuit.lent ∙ flat_length gs in (
      λ e. let v = w.0 e in (v.0, v.1, omega (arith, three v.0 v.1, v.2)),
      λ v. w.1 (v.0, v.1, omega (arith, three v.0 v.1, v.2)),
    )

pub import_valid : (text : List ℕ) (room : ℕ) → Fine (import_rows text room)
    ↔ ((n : ℕ) × (words : List ℕ) × (reading text ≡ circuit n words) × ((gs : List Gate) × Valid n words gs × (3 * length gs ≤ room)))
unfolding import_rows
import_valid text room = (
  λ e.
      let fifteen = fine_row (is_refused 15 (reading text)) 15 (in_word (faulty_line (reading text))) _ e in
      let fourteen = fine_row (is_refused 14 (reading text)) 14 (in_word (faulty_line (reading text))) _ fifteen.1 in
      let r = reads text fifteen.0 fourteen.0 in
      let stored : Fine (stored_rows r.0 r.1 room) = rw r.2 at fourteen.1 in
      (r.0, r.1, r.2, (stored_valid r.0 r.1 room).0 stored),
  λ w. subst (λ read. Fine (reading_rows read room)) (sym w.2) ((stored_valid w.0 w.1 room).1 w.3),
)
