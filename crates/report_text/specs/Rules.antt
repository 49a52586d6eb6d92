-- The one rule of the report: any bytes have a text, and it needs its length of room.
use Rattle.std.specs.Prelude.{ℕ, List, [], ◌∷◌, length, ltb}
use Rattle.refusals.specs.Tables.{Row}
use Rattle.refusals.specs.Tables.Row.{refuse◌at◌when◌}
use Rattle.report_text.specs.Report.{report_text}

unfoldable pub report_rows : List ℕ → ℕ → List Row
report_rows bytes room = refuse 10 at 0 when ltb room (length (report_text bytes)) ∷ []
