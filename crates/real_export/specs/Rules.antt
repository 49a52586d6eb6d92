-- The rules of an export.
use Rattle.std.specs.Prelude.{ℕ, List, [], ◌∷◌, ◌++◌, length, ltb}
use Rattle.refusals.specs.Tables.{Row}
use Rattle.refusals.specs.Tables.Row.{refuse◌at◌when◌}
use Rattle.circuit.specs.Rules.{circuit_rows}
use Rattle.real.specs.Export.{real_text}

-- a circuit that is written into room for so many bytes
unfoldable pub export_rows : ℕ → List ℕ → ℕ → List Row
export_rows n words room = circuit_rows n words ++ (refuse 10 at 0 when ltb room (length (real_text n words)) ∷ [])
