-- What the call promises: what it tells, and what the room that it was lent holds afterwards.
use Rattle.std.specs.Prelude.{ℕ, List, [], ◌∷◌, length}
use Rattle.basics.specs.Lists.{onto}
use Rattle.refusals.specs.Tables.{Told, first_of, after}
use Rattle.refusals.specs.Tables.Told.{answered}
use Rattle.real.specs.Export.{real_text}
use Rattle.real_export.specs.Rules.{export_rows}

-- the number of bytes of the text
abbrev pub export_tells : ℕ → List ℕ → List ℕ → Told
export_tells n words room = first_of (export_rows n words (length room)) (answered (length (real_text n words) ∷ []))

-- the text in front
abbrev pub export_leaves : ℕ → List ℕ → List ℕ → List ℕ
export_leaves n words room = after (export_rows n words (length room)) (onto (real_text n words) room) room
