-- What the rules of an export leave: room for the text.
use Rattle.std.specs.Prelude.{ℕ, ◌≤◌, ◌≡◌, List, [], ◌∷◌, length, ltb}
use Rattle.std.proofs.lemmas.Bool.{ltb-false}
use Rattle.refusals.specs.Tables.{first_of}
use Rattle.refusals.specs.Tables.Row.{refuse◌at◌when◌}
use Rattle.refusals.specs.Answers.{fine}
use Rattle.refusals.proofs.Tables.{fine_row, fine-parts}
use Rattle.circuit.specs.Rules.{circuit_rows}
use Rattle.real.specs.Export.{real_text}
use Rattle.real_export.specs.Rules.{export_rows}
use Rattle.real_export.proofs.WholeLaws.{text_few, put_length, put_onto}

pub text_fits : (n : ℕ) (words : List ℕ) (room : ℕ) → fine ≡ first_of (export_rows n words room) fine → length (real_text n words) ≤ room
unfolding export_rows
text_fits n words room e =
    let short = ltb room (length (real_text n words)) in
    let w = fine-parts (circuit_rows n words) (refuse 10 at 0 when short ∷ []) e in
    ltb-false room (length (real_text n words)) (fine_row short 10 0 fine w.1).0

-- what an export is proved by: the text fits its room and a word, and is put there as a whole
pub ruleset texts = (text_fits, text_few, put_length, put_onto)
