-- The rules of an import: 15 and 14 as the text is read, then those of a circuit, then 10.
use Rattle.std.specs.Prelude.{ℕ, Bool, false, List, [], ◌∷◌, ◌++◌, length, eqb, ltb}
use Rattle.refusals.specs.Tables.{Row}
use Rattle.refusals.specs.Tables.Row.{refuse◌at◌when◌}
use Rattle.refusals.specs.Places.{in_word}
use Rattle.circuit.specs.Rules.{circuit_rows}
use Rattle.real.specs.Reading.{Reading, reading}
use Rattle.real.specs.Reading.Reading.{circuit, faulty}

-- a line is refused by this number, and which it is
abbrev pub is_refused : ℕ → Reading → Bool
is_refused number (circuit n words) = false
is_refused number (faulty told line) = eqb told number

abbrev pub faulty_line : Reading → ℕ
faulty_line (circuit n words) = 0
faulty_line (faulty number line) = line

-- the number of lines, and the words of the gates
abbrev pub lines_read : Reading → ℕ
lines_read (circuit n words) = n
lines_read (faulty number line) = 0

abbrev pub words_read : Reading → List ℕ
words_read (circuit n words) = words
words_read (faulty number line) = []

-- the room is told in words, three a gate
abbrev pub reading_rows : Reading → ℕ → List Row
reading_rows read room =
    refuse 15 at in_word (faulty_line read) when is_refused 15 read ∷
    refuse 14 at in_word (faulty_line read) when is_refused 14 read ∷
    (circuit_rows (lines_read read) (words_read read) ++ (refuse 10 at 0 when ltb room (length (words_read read)) ∷ []))

unfoldable pub import_rows : List ℕ → ℕ → List Row
import_rows text room = reading_rows (reading text) room
