-- `real_import::storing::hold` meets its contract: three words are copied to their place, or none. Assumes nothing.
use Rattle.std.proofs.Common.{refl, sym, ◌∙◌, ◌+◌, ◌*◌, ◌-◌, [], ◌∷◌, arith}
use Rattle.std.proofs.lemmas.List.Edits.{sets-eq}
use Rattle.std.proofs.lemmas.Slice.{put_mid-paste}
use Rattle.real_import.proofs.HoldLaws.{held_in, held_over}
use Rattle.real_import.proofs.storing.hold.Goals as goal

pub returns-then-gates-own : goal.returns-then-gates-own
returns-then-gates-own c =
    let a = c.args in
    let at = 3 * a.gates in
    let words = a.gate.controls ∷ 0 ∷ a.gate.target ∷ [] in
    let pasted = put_mid-paste at (at + 3 - at) a.own.now _ words 3 c.copy_from_slice.ensures.after (omega arith) refl in
    held_in a.own.now a.gates a.gate.controls a.gate.target _ (omega arith) (pasted ∙ sym (sets-eq words a.own.now at (omega arith)))

pub returns-else-gates-own : goal.returns-else-gates-own
returns-else-gates-own c =
    let a = c.args in
    held_over a.own.now a.gates a.gate.controls a.gate.target (omega arith)
