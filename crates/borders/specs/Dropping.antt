-- Dropping from a list of fault records, of plain numbers and of records, on the sample circuit: rule 9, the number left, and the list after.
use Rattle.std.specs.Prelude.{ℕ, List, [], ◌∷◌}
use Rattle.refusals.specs.Tables.Told.{answered, refused}
use Rattle.faults.specs.declared.Fault.{Fault}
use Rattle.dropping.specs.Dropping.{words_of}
use Rattle.proved_samples.specs.Sample.{sample_words}
use Rattle.borders.specs.Rows.{Row, fault}
use Rattle.borders.specs.Rows.Row.{◌tells◌, ◌gives◌}
use Rattle.dropping.specs.Promises.{drop_tells, drop_leaves, drop_records_tells, drop_records_leaves}
use Rattle.borders.specs.Faults.{in_turn}

-- gate 1 missing, level 0 line 0 stuck at 0, gate 1 without control 0: vector 3 catches the first two, vector 7 too, vector 0 none
abbrev pub three : List ℕ
three = 2 ∷ 1 ∷ 0 ∷ 0 ∷ 1 ∷ 0 ∷ 0 ∷ 0 ∷ 3 ∷ 1 ∷ 0 ∷ 0 ∷ []

abbrev pub three_records : List Fault
three_records = fault 2 1 0 0 ∷ fault 1 0 0 0 ∷ fault 3 1 0 0 ∷ []

unfoldable pub drop_table : List Row
drop_table =
    -- the uncaught stand at the front in their old order, the rest is blank, and their number is told
    drop_tells 3 sample_words 3 three tells answered (1 ∷ []) ∷
    drop_leaves 3 sample_words 3 three gives (3 ∷ 1 ∷ 0 ∷ 0 ∷ 0 ∷ 0 ∷ 0 ∷ 0 ∷ 0 ∷ 0 ∷ 0 ∷ 0 ∷ []) ∷
    drop_tells 3 sample_words 1 three tells answered (2 ∷ []) ∷
    drop_leaves 3 sample_words 1 three gives (2 ∷ 1 ∷ 0 ∷ 0 ∷ 3 ∷ 1 ∷ 0 ∷ 0 ∷ 0 ∷ 0 ∷ 0 ∷ 0 ∷ []) ∷
    drop_tells 3 sample_words 0 three tells answered (3 ∷ []) ∷
    drop_leaves 3 sample_words 0 three gives (2 ∷ 1 ∷ 0 ∷ 0 ∷ 1 ∷ 0 ∷ 0 ∷ 0 ∷ 3 ∷ 1 ∷ 0 ∷ 0 ∷ []) ∷
    drop_tells 3 sample_words 3 (2 ∷ 1 ∷ 0 ∷ 0 ∷ []) tells answered (0 ∷ []) ∷
    drop_leaves 3 sample_words 3 (2 ∷ 1 ∷ 0 ∷ 0 ∷ []) gives (0 ∷ 0 ∷ 0 ∷ 0 ∷ []) ∷
    -- an empty list leaves 0
    drop_tells 3 sample_words 3 [] tells answered (0 ∷ []) ∷
    drop_leaves 3 sample_words 3 [] gives [] ∷
    -- rule 9: a blank record is no fault; the place of the first bad record, from 1
    drop_tells 3 sample_words 3 (0 ∷ 0 ∷ 0 ∷ 0 ∷ []) tells refused 9 1 ∷
    drop_tells 3 sample_words 3 (2 ∷ 1 ∷ 0 ∷ 0 ∷ 0 ∷ 0 ∷ 0 ∷ 0 ∷ []) tells refused 9 2 ∷
    drop_tells 3 sample_words 3 (2 ∷ 1 ∷ 0 ∷ 0 ∷ 2 ∷ 3 ∷ 0 ∷ 0 ∷ 5 ∷ 1 ∷ 0 ∷ 0 ∷ []) tells refused 9 2 ∷
    drop_tells 3 sample_words 3 (2 ∷ 1 ∷ 0 ∷ 0 ∷ 2 ∷ 2 ∷ 0 ∷ 0 ∷ 5 ∷ 1 ∷ 0 ∷ 0 ∷ []) tells refused 9 3 ∷
    -- a stuck line that the gate does not touch: first, second, last, and before or after another bad record
    drop_tells 3 sample_words 3 (1 ∷ 2 ∷ 2 ∷ 0 ∷ 2 ∷ 1 ∷ 0 ∷ 0 ∷ []) tells refused 9 1 ∷
    drop_tells 3 sample_words 3 (2 ∷ 1 ∷ 0 ∷ 0 ∷ 1 ∷ 2 ∷ 2 ∷ 0 ∷ 1 ∷ 1 ∷ 2 ∷ 0 ∷ []) tells refused 9 2 ∷
    drop_tells 3 sample_words 3 (2 ∷ 1 ∷ 0 ∷ 0 ∷ 1 ∷ 1 ∷ 2 ∷ 0 ∷ 1 ∷ 2 ∷ 2 ∷ 0 ∷ []) tells refused 9 3 ∷
    drop_tells 3 sample_words 3 (2 ∷ 1 ∷ 0 ∷ 0 ∷ 1 ∷ 2 ∷ 2 ∷ 0 ∷ 0 ∷ 0 ∷ 0 ∷ 0 ∷ []) tells refused 9 2 ∷
    drop_tells 3 sample_words 3 (0 ∷ 0 ∷ 0 ∷ 0 ∷ 1 ∷ 2 ∷ 2 ∷ 0 ∷ []) tells refused 9 1 ∷
    -- classes 1 to 4, fields at their borders
    drop_tells 3 sample_words 3 (1 ∷ 0 ∷ 2 ∷ 0 ∷ []) tells answered (1 ∷ []) ∷
    drop_tells 3 sample_words 3 (1 ∷ 0 ∷ 3 ∷ 0 ∷ []) tells refused 9 1 ∷
    drop_tells 3 sample_words 3 (1 ∷ 2 ∷ 0 ∷ 1 ∷ []) tells answered (1 ∷ []) ∷
    drop_tells 3 sample_words 3 (1 ∷ 2 ∷ 1 ∷ 1 ∷ []) tells answered (0 ∷ []) ∷
    drop_tells 3 sample_words 3 (1 ∷ 3 ∷ 1 ∷ 1 ∷ []) tells refused 9 1 ∷
    drop_tells 3 sample_words 3 (1 ∷ 2 ∷ 2 ∷ 1 ∷ []) tells refused 9 1 ∷
    drop_tells 3 sample_words 3 (1 ∷ 2 ∷ 3 ∷ 1 ∷ []) tells refused 9 1 ∷
    drop_tells 3 sample_words 3 (1 ∷ 2 ∷ 1 ∷ 2 ∷ []) tells refused 9 1 ∷
    drop_tells 3 in_turn 0 (1 ∷ 2 ∷ 1 ∷ 1 ∷ []) tells answered (1 ∷ []) ∷
    drop_tells 3 in_turn 0 (1 ∷ 2 ∷ 0 ∷ 1 ∷ []) tells refused 9 1 ∷
    drop_tells 3 in_turn 0 (1 ∷ 2 ∷ 2 ∷ 1 ∷ []) tells refused 9 1 ∷
    drop_tells 3 sample_words 3 (2 ∷ 0 ∷ 0 ∷ 0 ∷ []) tells refused 9 1 ∷
    drop_tells 3 sample_words 3 (2 ∷ 2 ∷ 0 ∷ 0 ∷ []) tells answered (0 ∷ []) ∷
    drop_tells 3 sample_words 3 (2 ∷ 1 ∷ 1 ∷ 0 ∷ []) tells refused 9 1 ∷
    drop_tells 3 sample_words 3 (2 ∷ 1 ∷ 0 ∷ 1 ∷ []) tells refused 9 1 ∷
    drop_tells 3 sample_words 3 (3 ∷ 1 ∷ 1 ∷ 0 ∷ []) tells answered (1 ∷ []) ∷
    drop_tells 3 sample_words 3 (3 ∷ 1 ∷ 2 ∷ 0 ∷ []) tells refused 9 1 ∷
    drop_tells 3 sample_words 3 (3 ∷ 1 ∷ 1 ∷ 1 ∷ []) tells refused 9 1 ∷
    drop_tells 3 sample_words 3 (4 ∷ 2 ∷ 2 ∷ 0 ∷ []) tells answered (1 ∷ []) ∷
    drop_tells 3 sample_words 3 (4 ∷ 2 ∷ 1 ∷ 0 ∷ []) tells refused 9 1 ∷
    drop_tells 3 sample_words 3 (4 ∷ 2 ∷ 2 ∷ 1 ∷ []) tells refused 9 1 ∷
    drop_tells 3 sample_words 3 (5 ∷ 1 ∷ 0 ∷ 0 ∷ []) tells refused 9 1 ∷
    -- numbers left over are one more bad record after the whole ones, unless an earlier one is bad
    drop_tells 3 sample_words 3 (2 ∷ []) tells refused 9 1 ∷
    drop_tells 3 sample_words 3 (2 ∷ 1 ∷ []) tells refused 9 1 ∷
    drop_tells 3 sample_words 3 (2 ∷ 1 ∷ 0 ∷ []) tells refused 9 1 ∷
    drop_tells 3 sample_words 3 (2 ∷ 1 ∷ 0 ∷ 0 ∷ 2 ∷ []) tells refused 9 2 ∷
    drop_tells 3 sample_words 3 (2 ∷ 1 ∷ 0 ∷ 0 ∷ 2 ∷ 1 ∷ []) tells refused 9 2 ∷
    drop_tells 3 sample_words 3 (2 ∷ 1 ∷ 0 ∷ 0 ∷ 2 ∷ 1 ∷ 0 ∷ []) tells refused 9 2 ∷
    drop_tells 3 sample_words 3 (2 ∷ 3 ∷ 0 ∷ 0 ∷ 2 ∷ 1 ∷ 0 ∷ []) tells refused 9 1 ∷
    drop_tells 3 sample_words 3 (1 ∷ 2 ∷ 2 ∷ 0 ∷ 2 ∷ []) tells refused 9 1 ∷
    drop_tells 3 sample_words 3 (2 ∷ 1 ∷ 0 ∷ 0 ∷ 1 ∷ 2 ∷ 2 ∷ 0 ∷ 1 ∷ 1 ∷ 2 ∷ []) tells refused 9 2 ∷
    -- a refusal leaves the list
    drop_leaves 3 sample_words 3 (2 ∷ 1 ∷ 0 ∷ 0 ∷ 2 ∷ []) gives (2 ∷ 1 ∷ 0 ∷ 0 ∷ 2 ∷ []) ∷
    drop_leaves 3 sample_words 3 (2 ∷ 1 ∷ 0 ∷ 0 ∷ 0 ∷ 0 ∷ 0 ∷ 0 ∷ []) gives (2 ∷ 1 ∷ 0 ∷ 0 ∷ 0 ∷ 0 ∷ 0 ∷ 0 ∷ []) ∷
    drop_leaves 3 sample_words 3 (2 ∷ 1 ∷ 0 ∷ 0 ∷ 1 ∷ 2 ∷ 2 ∷ 0 ∷ []) gives (2 ∷ 1 ∷ 0 ∷ 0 ∷ 1 ∷ 2 ∷ 2 ∷ 0 ∷ []) ∷
    drop_leaves 3 sample_words 8 (2 ∷ 1 ∷ 0 ∷ 0 ∷ []) gives (2 ∷ 1 ∷ 0 ∷ 0 ∷ []) ∷
    -- rules 8 and 3
    drop_tells 3 sample_words 7 three tells answered (1 ∷ []) ∷
    drop_tells 3 sample_words 8 three tells refused 8 1 ∷
    drop_tells 0 [] 0 [] tells refused 3 0 ∷
    drop_tells 1 [] 0 [] tells answered (0 ∷ []) ∷
    drop_tells 32 [] 0 [] tells answered (0 ∷ []) ∷
    drop_tells 33 [] 0 [] tells refused 3 0 ∷
    -- the same over a slice of records
    drop_records_tells 3 sample_words 3 three_records tells answered (1 ∷ []) ∷
    words_of (drop_records_leaves 3 sample_words 3 three_records) gives (3 ∷ 1 ∷ 0 ∷ 0 ∷ 0 ∷ 0 ∷ 0 ∷ 0 ∷ 0 ∷ 0 ∷ 0 ∷ 0 ∷ []) ∷
    drop_records_tells 3 sample_words 1 three_records tells answered (2 ∷ []) ∷
    words_of (drop_records_leaves 3 sample_words 1 three_records) gives (2 ∷ 1 ∷ 0 ∷ 0 ∷ 3 ∷ 1 ∷ 0 ∷ 0 ∷ 0 ∷ 0 ∷ 0 ∷ 0 ∷ []) ∷
    drop_records_tells 3 sample_words 3 [] tells answered (0 ∷ []) ∷
    drop_records_tells 3 sample_words 3 (fault 0 0 0 0 ∷ []) tells refused 9 1 ∷
    drop_records_tells 3 sample_words 3 (fault 2 1 0 0 ∷ fault 2 3 0 0 ∷ fault 5 1 0 0 ∷ []) tells refused 9 2 ∷
    words_of (drop_records_leaves 3 sample_words 3 (fault 2 1 0 0 ∷ fault 2 3 0 0 ∷ [])) gives (2 ∷ 1 ∷ 0 ∷ 0 ∷ 2 ∷ 3 ∷ 0 ∷ 0 ∷ []) ∷
    drop_records_tells 3 sample_words 3 (fault 1 0 2 0 ∷ []) tells answered (1 ∷ []) ∷
    drop_records_tells 3 sample_words 3 (fault 1 2 1 1 ∷ []) tells answered (0 ∷ []) ∷
    drop_records_tells 3 sample_words 3 (fault 1 2 2 1 ∷ fault 2 1 0 0 ∷ []) tells refused 9 1 ∷
    drop_records_tells 3 sample_words 3 (fault 2 1 0 0 ∷ fault 1 2 2 1 ∷ fault 5 1 0 0 ∷ []) tells refused 9 2 ∷
    drop_records_tells 3 sample_words 3 (fault 2 1 0 0 ∷ fault 1 1 2 1 ∷ fault 1 2 2 1 ∷ []) tells refused 9 3 ∷
    drop_records_tells 3 in_turn 0 (fault 1 2 0 1 ∷ []) tells refused 9 1 ∷
    drop_records_tells 3 in_turn 0 (fault 1 2 2 1 ∷ []) tells refused 9 1 ∷
    words_of (drop_records_leaves 3 sample_words 3 (fault 2 1 0 0 ∷ fault 1 2 2 1 ∷ [])) gives (2 ∷ 1 ∷ 0 ∷ 0 ∷ 1 ∷ 2 ∷ 2 ∷ 1 ∷ []) ∷
    drop_records_tells 3 sample_words 7 three_records tells answered (1 ∷ []) ∷
    drop_records_tells 3 sample_words 8 three_records tells refused 8 1 ∷
    drop_records_tells 0 [] 0 [] tells refused 3 0 ∷
    drop_records_tells 1 [] 0 [] tells answered (0 ∷ []) ∷
    drop_records_tells 32 [] 0 [] tells answered (0 ∷ []) ∷
    drop_records_tells 33 [] 0 [] tells refused 3 0 ∷ []
