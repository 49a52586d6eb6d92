-- Where two rules are broken in one call, the earlier is told: by number, but 10 last of all. Every pair that a call of a circuit can have;
-- those of which rule 5 is the earlier stand in `Long`.
use Rattle.std.specs.Prelude.{ℕ, List, [], ◌∷◌, replicate}
use Rattle.refusals.specs.Tables.Told.{refused}
use Rattle.faults.specs.declared.Fault.{Fault}
use Rattle.judge.specs.Coverages.{empty_coverage}
use Rattle.borders.specs.Rows.{Row, fault}
use Rattle.borders.specs.Rows.Row.{◌tells◌}
use Rattle.circuit.specs.Promises.{forward_tells}
use Rattle.simulator.specs.Promises.{catches_tells}
use Rattle.multiple_faults.specs.Promises.{catches_multiple_tells}
use Rattle.fault_test.specs.Promises.{test_for_tells}
use Rattle.judge.specs.Promises.{judge_tells, with_vector_tells, count_tells}
use Rattle.dropping.specs.Promises.{drop_tells, drop_records_tells}
use Rattle.testsets.specs.Promises.{backward_set_tells, compact_set_tells}

-- rule 3 is broken by 33 lines, or by none where a state of 1 is to be too large; the others by these

-- 5: 1,025 gates; 7: a gate with a spare of 1; 5 and 7: 1,025 of those
abbrev pub many : List ℕ
many = replicate 3075 0

abbrev pub bad : List ℕ
bad = 1 ∷ 1 ∷ 1 ∷ []

abbrev pub many_bad : List ℕ
many_bad = replicate 3075 1

-- a fault that every circuit has, and one that none has
abbrev pub known : Fault
known = fault 1 0 0 0

abbrev pub unknown : Fault
unknown = fault 5 0 0 0

-- a gate, and a stuck line at level 1 that neither it nor the first gate of `many` or `bad` touches
abbrev pub one : List ℕ
one = 1 ∷ 0 ∷ 1 ∷ []

abbrev pub untouched : Fault
untouched = fault 1 1 2 0

-- rule 8: vector 8 of 3 lines; rule 9: class 5, or a line that the gate does not touch; rule 12: a level above d; rule 13: no entry, or a site twice
unfoldable pub order_table : List Row
order_table =
    -- a run: 3 5 7 8 12
    forward_tells 33 many 0 0 tells refused 3 0 ∷
    forward_tells 33 bad 0 0 tells refused 3 0 ∷
    forward_tells 0 [] 0 1 tells refused 3 0 ∷
    forward_tells 33 [] 1 0 tells refused 3 0 ∷
    forward_tells 3 bad 0 8 tells refused 7 1 ∷
    forward_tells 3 bad 2 0 tells refused 7 1 ∷
    forward_tells 3 [] 1 8 tells refused 8 1 ∷
    -- a vector and a fault: 3 5 7 8 9
    catches_tells 33 many 0 known tells refused 3 0 ∷
    catches_tells 33 bad 0 known tells refused 3 0 ∷
    catches_tells 0 [] 1 known tells refused 3 0 ∷
    catches_tells 33 [] 0 unknown tells refused 3 0 ∷
    catches_tells 3 bad 8 known tells refused 7 1 ∷
    catches_tells 3 bad 0 unknown tells refused 7 1 ∷
    catches_tells 3 [] 8 unknown tells refused 8 1 ∷
    catches_tells 33 one 0 untouched tells refused 3 0 ∷
    catches_tells 3 bad 0 untouched tells refused 7 1 ∷
    catches_tells 3 one 8 untouched tells refused 8 1 ∷
    -- the test for a fault: 3 5 7 9
    test_for_tells 33 many known tells refused 3 0 ∷
    test_for_tells 33 bad known tells refused 3 0 ∷
    test_for_tells 33 [] unknown tells refused 3 0 ∷
    test_for_tells 3 bad unknown tells refused 7 1 ∷
    test_for_tells 33 one untouched tells refused 3 0 ∷
    test_for_tells 3 bad untouched tells refused 7 1 ∷
    -- a multiple fault: 3 5 7 8 9 13
    catches_multiple_tells 33 many 0 (1 ∷ 0 ∷ 0 ∷ 0 ∷ []) tells refused 3 0 ∷
    catches_multiple_tells 33 bad 0 (1 ∷ 0 ∷ 0 ∷ 0 ∷ []) tells refused 3 0 ∷
    catches_multiple_tells 0 [] 1 (1 ∷ 0 ∷ 0 ∷ 0 ∷ []) tells refused 3 0 ∷
    catches_multiple_tells 33 [] 0 (5 ∷ 0 ∷ 0 ∷ 0 ∷ []) tells refused 3 0 ∷
    catches_multiple_tells 33 [] 0 [] tells refused 3 0 ∷
    catches_multiple_tells 3 bad 8 (1 ∷ 0 ∷ 0 ∷ 0 ∷ []) tells refused 7 1 ∷
    catches_multiple_tells 3 bad 0 (5 ∷ 0 ∷ 0 ∷ 0 ∷ []) tells refused 7 1 ∷
    catches_multiple_tells 3 bad 0 [] tells refused 7 1 ∷
    catches_multiple_tells 3 [] 8 (5 ∷ 0 ∷ 0 ∷ 0 ∷ []) tells refused 8 1 ∷
    catches_multiple_tells 3 [] 8 [] tells refused 8 1 ∷
    catches_multiple_tells 3 [] 0 (1 ∷ 0 ∷ 0 ∷ 0 ∷ 1 ∷ 0 ∷ 0 ∷ 0 ∷ 5 ∷ 0 ∷ 0 ∷ 0 ∷ []) tells refused 9 3 ∷
    catches_multiple_tells 33 one 0 (1 ∷ 1 ∷ 2 ∷ 0 ∷ []) tells refused 3 0 ∷
    catches_multiple_tells 3 bad 0 (1 ∷ 1 ∷ 2 ∷ 0 ∷ []) tells refused 7 1 ∷
    catches_multiple_tells 3 one 8 (1 ∷ 1 ∷ 2 ∷ 0 ∷ []) tells refused 8 1 ∷
    catches_multiple_tells 3 one 0 (1 ∷ 0 ∷ 0 ∷ 0 ∷ 1 ∷ 0 ∷ 0 ∷ 0 ∷ 1 ∷ 1 ∷ 2 ∷ 0 ∷ []) tells refused 9 3 ∷
    catches_multiple_tells 3 one 0 (1 ∷ 1 ∷ 2 ∷ 0 ∷ 1 ∷ 1 ∷ 2 ∷ 0 ∷ []) tells refused 9 1 ∷
    -- a set and a class: 3 5 7 8 9
    judge_tells 33 many [] 1 tells refused 3 0 ∷
    judge_tells 33 [] (replicate 2049 0) 1 tells refused 3 0 ∷
    judge_tells 33 bad [] 1 tells refused 3 0 ∷
    judge_tells 0 [] (1 ∷ []) 1 tells refused 3 0 ∷
    judge_tells 33 [] [] 5 tells refused 3 0 ∷
    judge_tells 3 bad (8 ∷ []) 1 tells refused 7 1 ∷
    judge_tells 3 bad [] 5 tells refused 7 1 ∷
    judge_tells 3 [] (8 ∷ []) 5 tells refused 8 1 ∷
    -- a coverage and a vector: 3 5 7 8
    with_vector_tells 33 many 0 tells refused 3 0 ∷
    with_vector_tells 33 bad 0 tells refused 3 0 ∷
    with_vector_tells 0 [] 1 tells refused 3 0 ∷
    with_vector_tells 3 bad 8 tells refused 7 1 ∷
    -- a coverage and a class: 3 5 7 9
    count_tells empty_coverage 33 many 1 tells refused 3 0 ∷
    count_tells empty_coverage 33 bad 1 tells refused 3 0 ∷
    count_tells empty_coverage 33 [] 5 tells refused 3 0 ∷
    count_tells empty_coverage 3 bad 5 tells refused 7 1 ∷
    -- a plain list: 3 5 7 8 9
    drop_tells 33 many 0 [] tells refused 3 0 ∷
    drop_tells 33 bad 0 [] tells refused 3 0 ∷
    drop_tells 0 [] 1 [] tells refused 3 0 ∷
    drop_tells 33 [] 0 (0 ∷ 0 ∷ 0 ∷ 0 ∷ []) tells refused 3 0 ∷
    drop_tells 3 bad 8 [] tells refused 7 1 ∷
    drop_tells 3 bad 0 (0 ∷ 0 ∷ 0 ∷ 0 ∷ []) tells refused 7 1 ∷
    drop_tells 3 [] 8 (0 ∷ 0 ∷ 0 ∷ 0 ∷ []) tells refused 8 1 ∷
    drop_tells 33 one 0 (1 ∷ 1 ∷ 2 ∷ 0 ∷ []) tells refused 3 0 ∷
    drop_tells 3 bad 0 (1 ∷ 1 ∷ 2 ∷ 0 ∷ []) tells refused 7 1 ∷
    drop_tells 3 one 8 (1 ∷ 1 ∷ 2 ∷ 0 ∷ []) tells refused 8 1 ∷
    -- a slice of records: 3 5 7 8 9
    drop_records_tells 33 many 0 [] tells refused 3 0 ∷
    drop_records_tells 33 bad 0 [] tells refused 3 0 ∷
    drop_records_tells 0 [] 1 [] tells refused 3 0 ∷
    drop_records_tells 33 [] 0 (unknown ∷ []) tells refused 3 0 ∷
    drop_records_tells 3 bad 8 [] tells refused 7 1 ∷
    drop_records_tells 3 bad 0 (unknown ∷ []) tells refused 7 1 ∷
    drop_records_tells 3 [] 8 (unknown ∷ []) tells refused 8 1 ∷
    drop_records_tells 33 one 0 (untouched ∷ []) tells refused 3 0 ∷
    drop_records_tells 3 bad 0 (untouched ∷ []) tells refused 7 1 ∷
    drop_records_tells 3 one 8 (untouched ∷ []) tells refused 8 1 ∷
    -- the backward set: 3 5 7 10
    backward_set_tells 33 many (replicate 1027 9) tells refused 3 0 ∷
    backward_set_tells 33 bad (replicate 3 9) tells refused 3 0 ∷
    backward_set_tells 33 [] [] tells refused 3 0 ∷
    backward_set_tells 3 bad [] tells refused 7 1 ∷
    -- the compact set: 3 5 7 11 10
    compact_set_tells 0 many (replicate 20 9) tells refused 3 0 ∷
    compact_set_tells 0 bad (replicate 20 9) tells refused 3 0 ∷
    compact_set_tells 33 [] (replicate 20 9) tells refused 3 0 ∷
    compact_set_tells 0 [] [] tells refused 3 0 ∷
    compact_set_tells 13 bad (replicate 20 9) tells refused 7 1 ∷
    compact_set_tells 3 bad [] tells refused 7 1 ∷
    compact_set_tells 13 [] [] tells refused 11 0 ∷ []
