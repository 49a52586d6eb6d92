-- The rules of a circuit and of a run at their borders. Words of a gate: controls, spare, target.
use Rattle.std.specs.Prelude.{List, [], ◌∷◌}
use Rattle.refusals.specs.Tables.Told.{answered, refused}
use Rattle.proved_samples.specs.Sample.{sample_words}
use Rattle.borders.specs.Rows.{Row}
use Rattle.borders.specs.Rows.Row.{◌tells◌, ◌gives◌}
use Rattle.circuit.specs.Promises.{forward_tells, backward_tells}

unfoldable pub circuit_table : List Row
circuit_table =
    -- the sample circuit: gate 1 has controls 0 and 1 and target 2, gate 2 has control 0 and target 1
    sample_words gives (3 ∷ 0 ∷ 2 ∷ 1 ∷ 0 ∷ 1 ∷ []) ∷
    -- rule 3: 1 to 32 lines
    forward_tells 0 [] 0 0 tells refused 3 0 ∷
    forward_tells 1 [] 0 0 tells answered (0 ∷ []) ∷
    forward_tells 32 [] 0 0 tells answered (0 ∷ []) ∷
    forward_tells 33 [] 0 0 tells refused 3 0 ∷
    backward_tells 0 [] 0 0 tells refused 3 0 ∷
    backward_tells 1 [] 0 0 tells answered (0 ∷ []) ∷
    backward_tells 32 [] 0 0 tells answered (0 ∷ []) ∷
    backward_tells 33 [] 0 0 tells refused 3 0 ∷
    -- rule 7: a mask bit at n or above
    forward_tells 3 (4 ∷ 0 ∷ 0 ∷ []) 1 4 tells answered (5 ∷ []) ∷
    forward_tells 3 (6 ∷ 0 ∷ 0 ∷ []) 1 6 tells answered (7 ∷ []) ∷
    forward_tells 3 (8 ∷ 0 ∷ 0 ∷ []) 1 4 tells refused 7 1 ∷
    forward_tells 3 (12 ∷ 0 ∷ 0 ∷ []) 1 4 tells refused 7 1 ∷
    forward_tells 1 (2 ∷ 0 ∷ 0 ∷ []) 0 0 tells refused 7 1 ∷
    forward_tells 31 (2147483648 ∷ 0 ∷ 0 ∷ []) 0 0 tells refused 7 1 ∷
    forward_tells 32 (2147483648 ∷ 0 ∷ 0 ∷ []) 1 2147483648 tells answered (2147483649 ∷ []) ∷
    forward_tells 32 (4294967294 ∷ 0 ∷ 0 ∷ []) 1 4294967294 tells answered (4294967295 ∷ []) ∷
    -- a spare that is not 0
    forward_tells 3 (0 ∷ 1 ∷ 0 ∷ []) 0 0 tells refused 7 1 ∷
    forward_tells 3 (0 ∷ 4294967295 ∷ 0 ∷ []) 0 0 tells refused 7 1 ∷
    -- a target at n or above
    forward_tells 3 (0 ∷ 0 ∷ 2 ∷ []) 1 0 tells answered (4 ∷ []) ∷
    forward_tells 3 (0 ∷ 0 ∷ 3 ∷ []) 1 0 tells refused 7 1 ∷
    forward_tells 1 (0 ∷ 0 ∷ 1 ∷ []) 1 0 tells refused 7 1 ∷
    forward_tells 32 (0 ∷ 0 ∷ 31 ∷ []) 1 0 tells answered (2147483648 ∷ []) ∷
    forward_tells 32 (0 ∷ 0 ∷ 32 ∷ []) 1 0 tells refused 7 1 ∷
    -- a target among the controls
    forward_tells 3 (3 ∷ 0 ∷ 2 ∷ []) 0 0 tells answered (0 ∷ []) ∷
    forward_tells 3 (4 ∷ 0 ∷ 2 ∷ []) 0 0 tells refused 7 1 ∷
    forward_tells 3 (7 ∷ 0 ∷ 0 ∷ []) 0 0 tells refused 7 1 ∷
    forward_tells 32 (4294967295 ∷ 0 ∷ 31 ∷ []) 0 0 tells refused 7 1 ∷
    -- the first bad gate, from 1
    forward_tells 3 (3 ∷ 0 ∷ 2 ∷ 3 ∷ 1 ∷ 2 ∷ 1 ∷ 0 ∷ 1 ∷ []) 0 0 tells refused 7 2 ∷
    forward_tells 3 (3 ∷ 0 ∷ 2 ∷ 1 ∷ 0 ∷ 1 ∷ 0 ∷ 0 ∷ 3 ∷ []) 0 0 tells refused 7 3 ∷
    forward_tells 3 (3 ∷ 0 ∷ 2 ∷ 8 ∷ 0 ∷ 2 ∷ 0 ∷ 1 ∷ 3 ∷ []) 0 0 tells refused 7 2 ∷
    backward_tells 3 (3 ∷ 0 ∷ 2 ∷ 8 ∷ 0 ∷ 2 ∷ 0 ∷ 1 ∷ 3 ∷ []) 0 0 tells refused 7 2 ∷
    -- words left over are one more bad gate
    forward_tells 3 (3 ∷ []) 0 0 tells refused 7 1 ∷
    forward_tells 3 (3 ∷ 0 ∷ []) 0 0 tells refused 7 1 ∷
    forward_tells 3 (3 ∷ 0 ∷ 2 ∷ 1 ∷ 0 ∷ 1 ∷ 0 ∷ []) 0 0 tells refused 7 3 ∷
    forward_tells 3 (3 ∷ 0 ∷ 2 ∷ 1 ∷ 0 ∷ 1 ∷ 0 ∷ 0 ∷ []) 0 0 tells refused 7 3 ∷
    forward_tells 3 (3 ∷ 0 ∷ 2 ∷ 1 ∷ 1 ∷ 1 ∷ 0 ∷ 0 ∷ []) 0 0 tells refused 7 2 ∷
    backward_tells 3 (3 ∷ 0 ∷ 2 ∷ 1 ∷ 0 ∷ 1 ∷ 0 ∷ []) 0 0 tells refused 7 3 ∷
    -- rule 8: a state of 2^n or more, alone
    forward_tells 1 [] 0 1 tells answered (1 ∷ []) ∷
    forward_tells 1 [] 0 2 tells refused 8 1 ∷
    forward_tells 3 sample_words 0 7 tells answered (7 ∷ []) ∷
    forward_tells 3 sample_words 0 8 tells refused 8 1 ∷
    forward_tells 31 [] 0 2147483647 tells answered (2147483647 ∷ []) ∷
    forward_tells 31 [] 0 2147483648 tells refused 8 1 ∷
    forward_tells 32 [] 0 4294967295 tells answered (4294967295 ∷ []) ∷
    forward_tells 32 [] 0 4294967296 tells refused 8 1 ∷
    backward_tells 3 sample_words 2 7 tells answered (5 ∷ []) ∷
    backward_tells 3 sample_words 2 8 tells refused 8 1 ∷
    -- rule 12: levels 0 to d
    forward_tells 3 [] 0 5 tells answered (5 ∷ []) ∷
    forward_tells 3 [] 1 5 tells refused 12 0 ∷
    forward_tells 3 sample_words 2 3 tells answered (5 ∷ []) ∷
    forward_tells 3 sample_words 3 3 tells refused 12 0 ∷
    forward_tells 3 sample_words 4294967295 3 tells refused 12 0 ∷
    backward_tells 3 [] 1 5 tells refused 12 0 ∷
    backward_tells 3 sample_words 3 3 tells refused 12 0 ∷
    -- level 0 is the input, level i the state after gate i; backward is the same gates, last first
    forward_tells 3 sample_words 0 3 tells answered (3 ∷ []) ∷
    forward_tells 3 sample_words 1 3 tells answered (7 ∷ []) ∷
    backward_tells 3 sample_words 0 5 tells answered (5 ∷ []) ∷
    backward_tells 3 sample_words 1 7 tells answered (3 ∷ []) ∷
    backward_tells 3 sample_words 2 5 tells answered (3 ∷ []) ∷
    -- a gate with no controls always inverts; one with controls inverts when all are 1
    forward_tells 1 (0 ∷ 0 ∷ 0 ∷ []) 1 0 tells answered (1 ∷ []) ∷
    forward_tells 1 (0 ∷ 0 ∷ 0 ∷ []) 1 1 tells answered (0 ∷ []) ∷
    forward_tells 3 (3 ∷ 0 ∷ 2 ∷ []) 1 1 tells answered (1 ∷ []) ∷
    forward_tells 3 (3 ∷ 0 ∷ 2 ∷ []) 1 2 tells answered (2 ∷ []) ∷
    forward_tells 3 (3 ∷ 0 ∷ 2 ∷ []) 1 7 tells answered (3 ∷ []) ∷ []
