-- Rules 9 and 13 of a multiple fault, four words an entry: class, level, line, value.
use Rattle.std.specs.Prelude.{List, [], ◌∷◌}
use Rattle.refusals.specs.Tables.Told.{answered, refused}
use Rattle.refusals.specs.Places.{in_word}
use Rattle.proved_samples.specs.Sample.{sample_words}
use Rattle.borders.specs.Rows.{Row}
use Rattle.borders.specs.Rows.Row.{◌tells◌, ◌gives◌}
use Rattle.multiple_faults.specs.Promises.{catches_multiple_tells}
use Rattle.borders.specs.Faults.{in_turn}

unfoldable pub multiple_table : List Row
multiple_table =
    -- rule 13: some entry
    catches_multiple_tells 3 sample_words 0 [] tells refused 13 0 ∷
    catches_multiple_tells 3 sample_words 0 (1 ∷ 0 ∷ 0 ∷ 1 ∷ []) tells answered (1 ∷ []) ∷
    catches_multiple_tells 3 sample_words 1 (1 ∷ 0 ∷ 0 ∷ 1 ∷ []) tells answered (0 ∷ []) ∷
    -- a site twice: the same level and line, whatever the values
    catches_multiple_tells 3 sample_words 0 (1 ∷ 1 ∷ 2 ∷ 1 ∷ 1 ∷ 1 ∷ 2 ∷ 1 ∷ []) tells refused 13 0 ∷
    catches_multiple_tells 3 sample_words 0 (1 ∷ 1 ∷ 2 ∷ 0 ∷ 1 ∷ 1 ∷ 2 ∷ 1 ∷ []) tells refused 13 0 ∷
    catches_multiple_tells 3 sample_words 0 (1 ∷ 1 ∷ 2 ∷ 0 ∷ 1 ∷ 1 ∷ 1 ∷ 0 ∷ 1 ∷ 1 ∷ 2 ∷ 0 ∷ []) tells refused 13 0 ∷
    catches_multiple_tells 3 sample_words 0 (1 ∷ 1 ∷ 1 ∷ 0 ∷ 1 ∷ 1 ∷ 2 ∷ 0 ∷ 1 ∷ 1 ∷ 2 ∷ 0 ∷ []) tells refused 13 0 ∷
    catches_multiple_tells 3 sample_words 0 (1 ∷ 1 ∷ 2 ∷ 0 ∷ 1 ∷ 1 ∷ 1 ∷ 0 ∷ []) tells answered (0 ∷ []) ∷
    -- opposite values on one line at two levels are allowed, and the later one may hide the earlier
    catches_multiple_tells 3 sample_words 0 (1 ∷ 0 ∷ 2 ∷ 1 ∷ 1 ∷ 1 ∷ 2 ∷ 0 ∷ []) tells answered (0 ∷ []) ∷
    catches_multiple_tells 3 sample_words 0 (1 ∷ 0 ∷ 2 ∷ 0 ∷ 1 ∷ 1 ∷ 2 ∷ 1 ∷ []) tells answered (1 ∷ []) ∷
    catches_multiple_tells 3 sample_words 0 (1 ∷ 1 ∷ 1 ∷ 1 ∷ 1 ∷ 2 ∷ 1 ∷ 0 ∷ []) tells answered (0 ∷ []) ∷
    catches_multiple_tells 3 sample_words 0 (1 ∷ 1 ∷ 1 ∷ 0 ∷ 1 ∷ 2 ∷ 1 ∷ 1 ∷ []) tells answered (1 ∷ []) ∷
    -- rule 9: class 1 alone, at the place of the first bad entry
    catches_multiple_tells 3 sample_words 0 (2 ∷ 1 ∷ 0 ∷ 0 ∷ []) tells refused 9 1 ∷
    catches_multiple_tells 3 sample_words 0 (0 ∷ 0 ∷ 0 ∷ 0 ∷ []) tells refused 9 1 ∷
    catches_multiple_tells 3 sample_words 0 (1 ∷ 0 ∷ 0 ∷ 1 ∷ 3 ∷ 1 ∷ 0 ∷ 0 ∷ []) tells refused 9 2 ∷
    catches_multiple_tells 3 sample_words 0 (1 ∷ 0 ∷ 0 ∷ 1 ∷ 4 ∷ 2 ∷ 2 ∷ 0 ∷ 5 ∷ 0 ∷ 0 ∷ 0 ∷ []) tells refused 9 2 ∷
    -- levels 0 to d, values 0 and 1
    catches_multiple_tells 3 sample_words 0 (1 ∷ 2 ∷ 1 ∷ 1 ∷ []) tells answered (1 ∷ []) ∷
    catches_multiple_tells 3 sample_words 0 (1 ∷ 3 ∷ 1 ∷ 1 ∷ []) tells refused 9 1 ∷
    catches_multiple_tells 3 sample_words 0 (1 ∷ 2 ∷ 1 ∷ 2 ∷ []) tells refused 9 1 ∷
    catches_multiple_tells 3 sample_words 0 (1 ∷ 2 ∷ 1 ∷ 0 ∷ []) tells answered (0 ∷ []) ∷
    -- lines 0 to n-1 at level 0, the controls and the target of gate i at level i
    catches_multiple_tells 3 sample_words 0 (1 ∷ 0 ∷ 2 ∷ 1 ∷ []) tells answered (1 ∷ []) ∷
    catches_multiple_tells 3 sample_words 0 (1 ∷ 0 ∷ 3 ∷ 1 ∷ []) tells refused 9 1 ∷
    catches_multiple_tells 3 sample_words 0 (1 ∷ 1 ∷ 2 ∷ 1 ∷ []) tells answered (1 ∷ []) ∷
    catches_multiple_tells 3 sample_words 0 (1 ∷ 1 ∷ 3 ∷ 1 ∷ []) tells refused 9 1 ∷
    catches_multiple_tells 3 sample_words 0 (1 ∷ 2 ∷ 0 ∷ 1 ∷ []) tells answered (1 ∷ []) ∷
    catches_multiple_tells 3 sample_words 0 (1 ∷ 2 ∷ 2 ∷ 1 ∷ []) tells refused 9 1 ∷
    catches_multiple_tells 3 sample_words 0 (1 ∷ 2 ∷ 3 ∷ 1 ∷ []) tells refused 9 1 ∷
    catches_multiple_tells 3 in_turn 0 (1 ∷ 2 ∷ 1 ∷ 0 ∷ []) tells answered (1 ∷ []) ∷
    catches_multiple_tells 3 in_turn 0 (1 ∷ 2 ∷ 0 ∷ 0 ∷ []) tells refused 9 1 ∷
    catches_multiple_tells 3 in_turn 0 (1 ∷ 2 ∷ 2 ∷ 0 ∷ []) tells refused 9 1 ∷
    catches_multiple_tells 32 (0 ∷ 0 ∷ 31 ∷ []) 0 (1 ∷ 1 ∷ 31 ∷ 0 ∷ []) tells answered (1 ∷ []) ∷
    catches_multiple_tells 32 (0 ∷ 0 ∷ 31 ∷ []) 0 (1 ∷ 1 ∷ 30 ∷ 0 ∷ []) tells refused 9 1 ∷
    -- the place of an entry whose line the gate does not touch: second, last, and before or after another bad one
    catches_multiple_tells 3 sample_words 0 (1 ∷ 1 ∷ 2 ∷ 1 ∷ 1 ∷ 2 ∷ 2 ∷ 0 ∷ []) tells refused 9 2 ∷
    catches_multiple_tells 3 sample_words 0 (1 ∷ 2 ∷ 2 ∷ 0 ∷ 1 ∷ 1 ∷ 2 ∷ 1 ∷ []) tells refused 9 1 ∷
    catches_multiple_tells 3 sample_words 0 (1 ∷ 0 ∷ 0 ∷ 1 ∷ 1 ∷ 1 ∷ 0 ∷ 1 ∷ 1 ∷ 2 ∷ 2 ∷ 1 ∷ []) tells refused 9 3 ∷
    catches_multiple_tells 3 sample_words 0 (1 ∷ 0 ∷ 0 ∷ 1 ∷ 1 ∷ 2 ∷ 2 ∷ 1 ∷ 5 ∷ 0 ∷ 0 ∷ 0 ∷ []) tells refused 9 2 ∷
    catches_multiple_tells 3 sample_words 0 (1 ∷ 0 ∷ 0 ∷ 1 ∷ 5 ∷ 0 ∷ 0 ∷ 0 ∷ 1 ∷ 2 ∷ 2 ∷ 1 ∷ []) tells refused 9 2 ∷
    -- words left over are one more bad entry
    catches_multiple_tells 3 sample_words 0 (1 ∷ []) tells refused 9 1 ∷
    catches_multiple_tells 3 sample_words 0 (1 ∷ 0 ∷ []) tells refused 9 1 ∷
    catches_multiple_tells 3 sample_words 0 (1 ∷ 0 ∷ 0 ∷ []) tells refused 9 1 ∷
    catches_multiple_tells 3 sample_words 0 (1 ∷ 0 ∷ 0 ∷ 1 ∷ 1 ∷ []) tells refused 9 2 ∷
    catches_multiple_tells 3 sample_words 0 (1 ∷ 0 ∷ 0 ∷ 1 ∷ 1 ∷ 1 ∷ []) tells refused 9 2 ∷
    catches_multiple_tells 3 sample_words 0 (1 ∷ 0 ∷ 0 ∷ 1 ∷ 1 ∷ 1 ∷ 0 ∷ []) tells refused 9 2 ∷
    catches_multiple_tells 3 sample_words 0 (1 ∷ 0 ∷ 0 ∷ 2 ∷ 1 ∷ 1 ∷ 0 ∷ []) tells refused 9 1 ∷
    catches_multiple_tells 3 sample_words 0 (1 ∷ 2 ∷ 2 ∷ 1 ∷ 1 ∷ []) tells refused 9 1 ∷
    catches_multiple_tells 3 sample_words 0 (1 ∷ 0 ∷ 0 ∷ 1 ∷ 1 ∷ 2 ∷ 2 ∷ 1 ∷ 1 ∷ 1 ∷ 0 ∷ []) tells refused 9 2 ∷
    -- 9 before 13
    catches_multiple_tells 3 sample_words 0 (1 ∷ 0 ∷ 0 ∷ 1 ∷ 1 ∷ 0 ∷ 0 ∷ 1 ∷ 2 ∷ 1 ∷ 0 ∷ 0 ∷ []) tells refused 9 3 ∷
    catches_multiple_tells 3 sample_words 0 (1 ∷ 0 ∷ 0 ∷ 1 ∷ 1 ∷ 0 ∷ 0 ∷ 1 ∷ 1 ∷ []) tells refused 9 3 ∷
    catches_multiple_tells 3 sample_words 0 (1 ∷ 2 ∷ 2 ∷ 1 ∷ 1 ∷ 2 ∷ 2 ∷ 1 ∷ []) tells refused 9 1 ∷
    catches_multiple_tells 3 sample_words 0 (1 ∷ 0 ∷ 0 ∷ 1 ∷ 1 ∷ 2 ∷ 2 ∷ 0 ∷ 1 ∷ 2 ∷ 2 ∷ 1 ∷ []) tells refused 9 2 ∷
    catches_multiple_tells 3 sample_words 0 (1 ∷ 2 ∷ 1 ∷ 1 ∷ 1 ∷ 2 ∷ 1 ∷ 1 ∷ 1 ∷ 2 ∷ 2 ∷ 1 ∷ []) tells refused 9 3 ∷
    catches_multiple_tells 3 sample_words 0 (1 ∷ 2 ∷ 1 ∷ 1 ∷ 1 ∷ 2 ∷ 1 ∷ 1 ∷ 1 ∷ 2 ∷ 0 ∷ 1 ∷ []) tells refused 13 0 ∷
    -- rule 8, a vector alone; rule 3
    catches_multiple_tells 3 sample_words 7 (1 ∷ 0 ∷ 0 ∷ 1 ∷ []) tells answered (0 ∷ []) ∷
    catches_multiple_tells 3 sample_words 8 (1 ∷ 0 ∷ 0 ∷ 1 ∷ []) tells refused 8 1 ∷
    catches_multiple_tells 0 [] 0 (1 ∷ 0 ∷ 0 ∷ 1 ∷ []) tells refused 3 0 ∷
    catches_multiple_tells 1 [] 0 (1 ∷ 0 ∷ 0 ∷ 1 ∷ []) tells answered (1 ∷ []) ∷
    catches_multiple_tells 32 [] 0 (1 ∷ 0 ∷ 31 ∷ 1 ∷ []) tells answered (1 ∷ []) ∷
    catches_multiple_tells 33 [] 0 (1 ∷ 0 ∷ 0 ∷ 1 ∷ []) tells refused 3 0 ∷
    -- a place or a number that no word holds is told as the largest word
    (in_word 0 ∷ in_word 4294967295 ∷ in_word 4294967296 ∷ []) gives (0 ∷ 4294967295 ∷ 4294967295 ∷ []) ∷ []
