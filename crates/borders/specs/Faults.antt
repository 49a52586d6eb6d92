-- Rule 9 of a fault alone, field by field, on the sample circuit: 3 lines, gate 1 with controls 0 and 1 and target 2, gate 2 with control 0
-- and target 1. A fault is class, place, line, value.
use Rattle.std.specs.Prelude.{ℕ, List, [], ◌∷◌}
use Rattle.refusals.specs.Tables.Told.{answered, refused}
use Rattle.proved_samples.specs.Sample.{sample_words}
use Rattle.borders.specs.Rows.{Row, fault}
use Rattle.borders.specs.Rows.Row.{◌tells◌}
use Rattle.simulator.specs.Promises.{output_tells, catches_tells}
use Rattle.fault_test.specs.Promises.{test_for_tells}

-- gates without controls, of targets 0, 1 and 2 in turn
abbrev pub in_turn : List ℕ
in_turn = 0 ∷ 0 ∷ 0 ∷ 0 ∷ 0 ∷ 1 ∷ 0 ∷ 0 ∷ 2 ∷ []

unfoldable pub fault_table : List Row
fault_table =
    -- rule 9, classes: 1 to 4; a fault alone has place 1
    catches_tells 3 sample_words 3 (fault 0 0 0 0) tells refused 9 1 ∷
    catches_tells 3 sample_words 3 (fault 0 1 0 0) tells refused 9 1 ∷
    catches_tells 3 sample_words 3 (fault 1 1 0 0) tells answered (1 ∷ []) ∷
    catches_tells 3 sample_words 3 (fault 4 2 2 0) tells answered (0 ∷ []) ∷
    catches_tells 3 sample_words 3 (fault 5 1 0 0) tells refused 9 1 ∷
    catches_tells 3 sample_words 3 (fault 5 2 2 0) tells refused 9 1 ∷
    catches_tells 3 sample_words 3 (fault 4294967295 1 0 0) tells refused 9 1 ∷
    -- class 1, level: 0 to d
    catches_tells 3 sample_words 3 (fault 1 0 0 0) tells answered (1 ∷ []) ∷
    catches_tells 3 sample_words 3 (fault 1 2 0 0) tells answered (1 ∷ []) ∷
    catches_tells 3 sample_words 3 (fault 1 3 0 0) tells refused 9 1 ∷
    catches_tells 1 [] 0 (fault 1 0 0 1) tells answered (1 ∷ []) ∷
    catches_tells 1 [] 0 (fault 1 1 0 1) tells refused 9 1 ∷
    catches_tells 3 in_turn 0 (fault 1 3 2 0) tells answered (1 ∷ []) ∷
    catches_tells 3 in_turn 0 (fault 1 4 2 0) tells refused 9 1 ∷
    -- class 1, line at level 0: 0 to n-1, also one that no gate touches
    catches_tells 3 sample_words 3 (fault 1 0 0 1) tells answered (0 ∷ []) ∷
    catches_tells 3 sample_words 3 (fault 1 0 1 1) tells answered (0 ∷ []) ∷
    catches_tells 3 sample_words 3 (fault 1 0 2 1) tells answered (1 ∷ []) ∷
    catches_tells 3 sample_words 3 (fault 1 0 3 1) tells refused 9 1 ∷
    catches_tells 4 sample_words 3 (fault 1 0 3 1) tells answered (1 ∷ []) ∷
    catches_tells 4 sample_words 3 (fault 1 1 3 1) tells refused 9 1 ∷
    catches_tells 4 sample_words 3 (fault 1 2 3 1) tells refused 9 1 ∷
    catches_tells 32 [] 0 (fault 1 0 31 1) tells answered (1 ∷ []) ∷
    catches_tells 32 [] 0 (fault 1 0 32 1) tells refused 9 1 ∷
    -- line at level i: a control or the target of gate i
    catches_tells 3 sample_words 3 (fault 1 1 1 0) tells answered (1 ∷ []) ∷
    catches_tells 3 sample_words 3 (fault 1 1 3 0) tells refused 9 1 ∷
    catches_tells 3 sample_words 3 (fault 1 2 0 1) tells answered (0 ∷ []) ∷
    catches_tells 3 sample_words 3 (fault 1 2 1 0) tells answered (0 ∷ []) ∷
    catches_tells 3 sample_words 3 (fault 1 2 2 0) tells refused 9 1 ∷
    catches_tells 3 sample_words 3 (fault 1 2 3 0) tells refused 9 1 ∷
    catches_tells 4 (5 ∷ 0 ∷ 3 ∷ []) 0 (fault 1 1 0 1) tells answered (1 ∷ []) ∷
    catches_tells 4 (5 ∷ 0 ∷ 3 ∷ []) 0 (fault 1 1 1 1) tells refused 9 1 ∷
    catches_tells 4 (5 ∷ 0 ∷ 3 ∷ []) 0 (fault 1 1 2 1) tells answered (1 ∷ []) ∷
    catches_tells 4 (5 ∷ 0 ∷ 3 ∷ []) 0 (fault 1 1 3 1) tells answered (1 ∷ []) ∷
    catches_tells 4 (5 ∷ 0 ∷ 3 ∷ []) 0 (fault 1 1 4 1) tells refused 9 1 ∷
    -- of a gate without controls the target alone, and not a line of the gate before or after it
    catches_tells 3 in_turn 0 (fault 1 1 0 0) tells answered (1 ∷ []) ∷
    catches_tells 3 in_turn 0 (fault 1 1 1 0) tells refused 9 1 ∷
    catches_tells 3 in_turn 0 (fault 1 2 0 0) tells refused 9 1 ∷
    catches_tells 3 in_turn 0 (fault 1 2 1 0) tells answered (1 ∷ []) ∷
    catches_tells 3 in_turn 0 (fault 1 2 2 0) tells refused 9 1 ∷
    catches_tells 3 in_turn 0 (fault 1 3 0 0) tells refused 9 1 ∷
    catches_tells 3 in_turn 0 (fault 1 3 1 0) tells refused 9 1 ∷
    -- line 31 as a control, as the target, and as neither
    catches_tells 32 (2147483648 ∷ 0 ∷ 0 ∷ []) 0 (fault 1 1 31 1) tells answered (1 ∷ []) ∷
    catches_tells 32 (2147483648 ∷ 0 ∷ 0 ∷ []) 0 (fault 1 1 32 1) tells refused 9 1 ∷
    catches_tells 32 (0 ∷ 0 ∷ 31 ∷ []) 0 (fault 1 1 31 1) tells answered (0 ∷ []) ∷
    catches_tells 32 (0 ∷ 0 ∷ 31 ∷ []) 0 (fault 1 1 30 1) tells refused 9 1 ∷
    catches_tells 32 (2147483646 ∷ 0 ∷ 0 ∷ []) 0 (fault 1 1 30 1) tells answered (1 ∷ []) ∷
    catches_tells 32 (2147483646 ∷ 0 ∷ 0 ∷ []) 0 (fault 1 1 31 1) tells refused 9 1 ∷
    -- class 1, value: 0 or 1
    catches_tells 3 sample_words 3 (fault 1 1 2 0) tells answered (1 ∷ []) ∷
    catches_tells 3 sample_words 3 (fault 1 1 2 1) tells answered (0 ∷ []) ∷
    catches_tells 3 sample_words 3 (fault 1 1 2 2) tells refused 9 1 ∷
    -- class 2, gate: 1 to d
    catches_tells 3 sample_words 3 (fault 2 0 0 0) tells refused 9 1 ∷
    catches_tells 3 sample_words 3 (fault 2 1 0 0) tells answered (1 ∷ []) ∷
    catches_tells 3 sample_words 3 (fault 2 2 0 0) tells answered (1 ∷ []) ∷
    catches_tells 3 sample_words 3 (fault 2 3 0 0) tells refused 9 1 ∷
    -- class 2, line and value: 0
    catches_tells 3 sample_words 3 (fault 2 1 1 0) tells refused 9 1 ∷
    catches_tells 3 sample_words 3 (fault 2 2 2 0) tells refused 9 1 ∷
    catches_tells 3 sample_words 3 (fault 2 1 0 1) tells refused 9 1 ∷
    -- class 3, gate: 1 to d
    catches_tells 3 sample_words 2 (fault 3 0 0 0) tells refused 9 1 ∷
    catches_tells 3 sample_words 2 (fault 3 1 0 0) tells answered (1 ∷ []) ∷
    catches_tells 3 sample_words 2 (fault 3 2 0 0) tells answered (1 ∷ []) ∷
    catches_tells 3 sample_words 2 (fault 3 3 0 0) tells refused 9 1 ∷
    -- class 3, line: a control of the gate
    catches_tells 3 sample_words 2 (fault 3 1 1 0) tells answered (0 ∷ []) ∷
    catches_tells 3 sample_words 2 (fault 3 1 2 0) tells refused 9 1 ∷
    catches_tells 3 sample_words 2 (fault 3 1 3 0) tells refused 9 1 ∷
    catches_tells 3 sample_words 2 (fault 3 2 1 0) tells refused 9 1 ∷
    catches_tells 3 sample_words 2 (fault 3 2 2 0) tells refused 9 1 ∷
    catches_tells 32 (2147483648 ∷ 0 ∷ 0 ∷ []) 0 (fault 3 1 31 0) tells answered (1 ∷ []) ∷
    catches_tells 32 (2147483648 ∷ 0 ∷ 0 ∷ []) 0 (fault 3 1 32 0) tells refused 9 1 ∷
    -- class 3, value: 0
    catches_tells 3 sample_words 2 (fault 3 1 0 1) tells refused 9 1 ∷
    catches_tells 3 sample_words 2 (fault 3 1 0 2) tells refused 9 1 ∷
    -- class 4, gate: 1 to d, on 3 lines and one gate with control 0 and target 1
    catches_tells 3 (1 ∷ 0 ∷ 1 ∷ []) 1 (fault 4 0 2 0) tells refused 9 1 ∷
    catches_tells 3 (1 ∷ 0 ∷ 1 ∷ []) 1 (fault 4 1 2 0) tells answered (1 ∷ []) ∷
    catches_tells 3 (1 ∷ 0 ∷ 1 ∷ []) 1 (fault 4 2 2 0) tells refused 9 1 ∷
    -- class 4, line: 0 to n-1, neither a control nor the target
    catches_tells 3 sample_words 1 (fault 4 2 0 0) tells refused 9 1 ∷
    catches_tells 3 sample_words 1 (fault 4 2 1 0) tells refused 9 1 ∷
    catches_tells 3 sample_words 1 (fault 4 2 2 0) tells answered (1 ∷ []) ∷
    catches_tells 3 sample_words 1 (fault 4 2 3 0) tells refused 9 1 ∷
    catches_tells 3 sample_words 1 (fault 4 1 0 0) tells refused 9 1 ∷
    catches_tells 3 sample_words 1 (fault 4 1 1 0) tells refused 9 1 ∷
    catches_tells 3 sample_words 1 (fault 4 1 2 0) tells refused 9 1 ∷
    catches_tells 3 sample_words 1 (fault 4 1 3 0) tells refused 9 1 ∷
    catches_tells 32 (0 ∷ 0 ∷ 0 ∷ []) 0 (fault 4 1 31 0) tells answered (1 ∷ []) ∷
    catches_tells 32 (0 ∷ 0 ∷ 0 ∷ []) 0 (fault 4 1 32 0) tells refused 9 1 ∷
    -- class 4, value: 0
    catches_tells 3 sample_words 1 (fault 4 2 2 1) tells refused 9 1 ∷
    catches_tells 3 sample_words 1 (fault 4 2 2 2) tells refused 9 1 ∷
    -- the same rule for the faulty run
    output_tells 3 sample_words 3 (fault 0 1 0 0) tells refused 9 1 ∷
    output_tells 3 sample_words 3 (fault 1 0 2 1) tells answered (1 ∷ []) ∷
    output_tells 3 sample_words 3 (fault 1 0 3 1) tells refused 9 1 ∷
    output_tells 3 sample_words 3 (fault 1 2 0 0) tells answered (4 ∷ []) ∷
    output_tells 3 sample_words 3 (fault 1 2 1 0) tells answered (5 ∷ []) ∷
    output_tells 3 sample_words 3 (fault 1 2 2 1) tells refused 9 1 ∷
    output_tells 3 sample_words 3 (fault 1 3 1 0) tells refused 9 1 ∷
    output_tells 3 in_turn 0 (fault 1 2 1 0) tells answered (5 ∷ []) ∷
    output_tells 3 in_turn 0 (fault 1 2 0 0) tells refused 9 1 ∷
    output_tells 3 in_turn 0 (fault 1 2 2 0) tells refused 9 1 ∷
    output_tells 3 sample_words 3 (fault 5 1 0 0) tells refused 9 1 ∷
    -- and for the test of a fault
    test_for_tells 3 sample_words (fault 0 1 0 0) tells refused 9 1 ∷
    test_for_tells 3 sample_words (fault 1 0 1 1) tells answered (5 ∷ []) ∷
    test_for_tells 3 sample_words (fault 1 0 3 1) tells refused 9 1 ∷
    test_for_tells 3 sample_words (fault 1 2 0 1) tells answered (6 ∷ []) ∷
    test_for_tells 3 sample_words (fault 1 2 1 1) tells answered (3 ∷ []) ∷
    test_for_tells 3 sample_words (fault 1 2 1 2) tells refused 9 1 ∷
    test_for_tells 3 sample_words (fault 1 2 2 1) tells refused 9 1 ∷
    test_for_tells 3 sample_words (fault 1 2 3 1) tells refused 9 1 ∷
    test_for_tells 3 sample_words (fault 1 3 1 1) tells refused 9 1 ∷
    test_for_tells 3 in_turn (fault 1 2 1 1) tells answered (6 ∷ []) ∷
    test_for_tells 3 in_turn (fault 1 2 0 1) tells refused 9 1 ∷
    test_for_tells 3 in_turn (fault 1 2 2 1) tells refused 9 1 ∷
    test_for_tells 32 (0 ∷ 0 ∷ 31 ∷ []) (fault 1 1 31 0) tells answered (2147483647 ∷ []) ∷
    test_for_tells 32 (0 ∷ 0 ∷ 31 ∷ []) (fault 1 1 30 0) tells refused 9 1 ∷
    test_for_tells 3 sample_words (fault 2 0 0 0) tells refused 9 1 ∷
    test_for_tells 3 sample_words (fault 2 3 0 0) tells refused 9 1 ∷
    test_for_tells 3 sample_words (fault 3 1 2 0) tells refused 9 1 ∷
    test_for_tells 3 sample_words (fault 4 2 1 0) tells refused 9 1 ∷
    test_for_tells 3 sample_words (fault 5 1 0 0) tells refused 9 1 ∷
    -- rule 8, a vector of 2^n or more, alone
    catches_tells 3 sample_words 7 (fault 1 0 0 0) tells answered (1 ∷ []) ∷
    catches_tells 3 sample_words 8 (fault 1 0 0 0) tells refused 8 1 ∷
    catches_tells 32 [] 4294967295 (fault 1 0 0 0) tells answered (1 ∷ []) ∷
    output_tells 3 sample_words 7 (fault 1 0 0 1) tells answered (1 ∷ []) ∷
    output_tells 3 sample_words 8 (fault 1 0 0 1) tells refused 8 1 ∷
    -- rule 3
    catches_tells 0 [] 0 (fault 1 0 0 1) tells refused 3 0 ∷
    catches_tells 1 [] 0 (fault 1 0 0 1) tells answered (1 ∷ []) ∷
    catches_tells 32 [] 0 (fault 1 0 0 1) tells answered (1 ∷ []) ∷
    catches_tells 33 [] 0 (fault 1 0 0 1) tells refused 3 0 ∷
    test_for_tells 0 [] (fault 1 0 0 1) tells refused 3 0 ∷
    test_for_tells 1 [] (fault 1 0 0 1) tells answered (0 ∷ []) ∷
    test_for_tells 32 [] (fault 1 0 0 0) tells answered (4294967295 ∷ []) ∷
    test_for_tells 32 [] (fault 1 0 31 1) tells answered (2147483647 ∷ []) ∷
    test_for_tells 33 [] (fault 1 0 0 1) tells refused 3 0 ∷ []
