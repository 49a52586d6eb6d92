-- What the call promises: what it tells, and what the room that it was lent holds afterwards.
use Rattle.std.specs.Prelude.{ℕ, List, [], ◌∷◌, length}
use Rattle.basics.specs.Lists.{onto}
use Rattle.refusals.specs.Tables.{Told, first_of, after}
use Rattle.refusals.specs.Tables.Told.{answered}
use Rattle.report_text.specs.Report.{report_text}
use Rattle.report_text.specs.Rules.{report_rows}

-- the number of bytes of the text
abbrev pub report_tells : List ℕ → List ℕ → Told
report_tells bytes room = first_of (report_rows bytes (length room)) (answered (length (report_text bytes) ∷ []))

-- the text in front
abbrev pub report_leaves : List ℕ → List ℕ → List ℕ
report_leaves bytes room = after (report_rows bytes (length room)) (onto (report_text bytes) room) room
