-- What the import tells, and what the room holds afterwards.
use Rattle.std.specs.Prelude.{ℕ, List, [], ◌∷◌, length}
use Rattle.basics.specs.Lists.{onto}
use Rattle.refusals.specs.Tables.{Told, first_of, after}
use Rattle.refusals.specs.Tables.Told.{answered}
use Rattle.circuit.specs.Gates.{gates_of}
use Rattle.real.specs.Reading.{reading}
use Rattle.real_import.specs.Rules.{lines_read, words_read, import_rows}

-- the number of lines and of gates
abbrev pub import_tells : List ℕ → List ℕ → Told
import_tells text room =
    first_of (import_rows text (length room)) (answered (lines_read (reading text) ∷ length (gates_of (words_read (reading text))) ∷ []))

-- the gates in front
abbrev pub import_leaves : List ℕ → List ℕ → List ℕ
import_leaves text room = after (import_rows text (length room)) (onto (words_read (reading text)) room) room
