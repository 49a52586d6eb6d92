-- Borders that take long lists: rule 5, 1,024 gates and 2,048 vectors, rule 13, 256 entries, the header of the longest job,
-- and rule 5 before each later rule; the same of texts.
use Rattle.std.specs.Prelude.{ℕ, List, [], ◌∷◌, ◌++◌, take, drop, replicate}
use Prim.Native.String.{String}
use Rattle.basics.specs.Lists.{up_from, each}
use Rattle.refusals.specs.Tables.{Told, first_of}
use Rattle.refusals.specs.Tables.Told.{answered, refused}
use Rattle.judge.specs.Coverages.{empty_coverage}
use Rattle.testsets.specs.Rules.{backward_rows, compact_rows}
use Rattle.text.specs.Texts.{ascii}
use Rattle.real.specs.Reading.Reading.{circuit}
use Rattle.real_import.specs.Rules.{reading_rows}
use Rattle.job.specs.Rules.{header_rows}
use Rattle.borders.specs.Rows.{Row, fault}
use Rattle.borders.specs.Rows.Row.{◌tells◌, ◌gives◌}
use Rattle.circuit.specs.Promises.{forward_tells, backward_tells}
use Rattle.simulator.specs.Promises.{output_tells, catches_tells}
use Rattle.multiple_faults.specs.Promises.{catches_multiple_tells}
use Rattle.fault_test.specs.Promises.{test_for_tells}
use Rattle.judge.specs.Promises.{judge_tells, with_vector_tells, count_tells}
use Rattle.dropping.specs.Promises.{drop_tells, drop_records_tells}
use Rattle.testsets.specs.Promises.{backward_set_tells, compact_set_tells}
use Rattle.real_import.specs.Promises.{import_tells}
use Rattle.real_export.specs.Promises.{export_tells}
use Rattle.job.specs.Promises.{write_tells, write_leaves}
use Rattle.borders.specs.Images.{header_of}
use Rattle.borders.specs.Importing.{block}
use Rattle.borders.specs.Orders.{many, bad, many_bad, known, unknown, untouched}

-- the most gates, each with no control and target 0
abbrev pub most : List ℕ
most = replicate 3072 0

-- the most gates, each on all of 12 lines
abbrev pub most_of12 : List ℕ
most_of12 = each (λ i. 4094 ∷ 0 ∷ 0 ∷ []) (up_from 0 1024)

-- 7 gates on all of 32 lines and one on line 0 alone, and an entry for each line at each of the levels 0 to 7: 256 entries, all stuck at 1
abbrev pub eight_gates : List ℕ
eight_gates = each (λ i. 4294967294 ∷ 0 ∷ 0 ∷ []) (up_from 0 7) ++ (0 ∷ 0 ∷ 0 ∷ [])

abbrev pub entries256 : List ℕ
entries256 = each (λ level. each (λ line. 1 ∷ level ∷ line ∷ 1 ∷ []) (up_from 0 32)) (up_from 0 8)

-- the header of a job is read, and its content is not
abbrev pub read_header : List ℕ → Told
read_header bytes = first_of (header_rows bytes) (answered [])

unfoldable pub long_table : List Row
long_table =
    -- rule 5: 1,024 gates are taken
    forward_tells 1 most 0 0 tells answered (0 ∷ []) ∷
    forward_tells 1 most 1023 0 tells answered (1 ∷ []) ∷
    forward_tells 1 most 1024 0 tells answered (0 ∷ []) ∷
    forward_tells 1 most 1025 0 tells refused 12 0 ∷
    backward_tells 1 most 1023 0 tells answered (1 ∷ []) ∷
    backward_tells 1 most 1024 0 tells answered (0 ∷ []) ∷
    output_tells 1 most 0 (fault 1 1024 0 1) tells answered (1 ∷ []) ∷
    catches_tells 1 most 0 (fault 2 1024 0 0) tells answered (1 ∷ []) ∷
    output_tells 1 most 0 (fault 1 1025 0 1) tells refused 9 1 ∷
    output_tells 2 most 0 (fault 1 1024 1 1) tells refused 9 1 ∷
    catches_tells 1 most 0 (fault 2 1025 0 0) tells refused 9 1 ∷
    test_for_tells 1 most (fault 1 1024 0 0) tells answered (1 ∷ []) ∷
    catches_multiple_tells 1 most 0 (1 ∷ 1024 ∷ 0 ∷ 1 ∷ []) tells answered (1 ∷ []) ∷
    judge_tells 1 most [] 4 tells answered (0 ∷ 0 ∷ 1 ∷ 0 ∷ 0 ∷ 0 ∷ 0 ∷ []) ∷
    with_vector_tells 1 most 0 tells answered [] ∷
    count_tells empty_coverage 1 most 4 tells answered (0 ∷ 0 ∷ 1 ∷ 0 ∷ 0 ∷ 0 ∷ 0 ∷ []) ∷
    drop_tells 1 most 0 (2 ∷ 1024 ∷ 0 ∷ 0 ∷ []) tells answered (0 ∷ []) ∷
    drop_records_tells 1 most 0 (fault 2 1024 0 0 ∷ []) tells answered (0 ∷ []) ∷
    first_of (backward_rows 1 most 1025) (answered []) tells refused 10 0 ∷
    first_of (backward_rows 1 most 1026) (answered []) tells answered [] ∷
    -- S = 12 + 1,024 = 1,036 with one line a gate, S = 12 * 1,025 = 12,300 with all of them
    first_of (compact_rows 12 most 11) (answered []) tells refused 10 0 ∷
    first_of (compact_rows 12 most 12) (answered []) tells answered [] ∷
    first_of (compact_rows 12 most_of12 14) (answered []) tells refused 10 0 ∷
    first_of (compact_rows 12 most_of12 15) (answered []) tells answered [] ∷
    -- 1,025 gates are not
    forward_tells 1 (replicate 3075 0) 0 0 tells refused 5 0 ∷
    backward_tells 1 (replicate 3075 0) 0 0 tells refused 5 0 ∷
    output_tells 1 (replicate 3075 0) 0 (fault 1 0 0 1) tells refused 5 0 ∷
    catches_tells 1 (replicate 3075 0) 0 (fault 1 0 0 1) tells refused 5 0 ∷
    test_for_tells 1 (replicate 3075 0) (fault 1 0 0 1) tells refused 5 0 ∷
    catches_multiple_tells 1 (replicate 3075 0) 0 (1 ∷ 0 ∷ 0 ∷ 1 ∷ []) tells refused 5 0 ∷
    judge_tells 1 (replicate 3075 0) [] 4 tells refused 5 0 ∷
    with_vector_tells 1 (replicate 3075 0) 0 tells refused 5 0 ∷
    count_tells empty_coverage 1 (replicate 3075 0) 4 tells refused 5 0 ∷
    drop_tells 1 (replicate 3075 0) 0 [] tells refused 5 0 ∷
    drop_records_tells 1 (replicate 3075 0) 0 [] tells refused 5 0 ∷
    backward_set_tells 1 (replicate 3075 0) (replicate 1027 9) tells refused 5 0 ∷
    compact_set_tells 1 (replicate 3075 0) (replicate 12 9) tells refused 5 0 ∷
    -- it counts whole gates, and words left over are one more bad gate
    forward_tells 1 (replicate 3073 0) 0 0 tells refused 7 1025 ∷
    forward_tells 1 (replicate 3074 0) 0 0 tells refused 7 1025 ∷
    forward_tells 1 (replicate 3076 0) 0 0 tells refused 5 0 ∷
    write_tells 1 1 (replicate 3073 0) [] (replicate 12320 9) tells refused 7 1025 ∷
    -- 0 to 2,048 vectors, which may repeat
    judge_tells 1 [] (replicate 2048 0) 1 tells answered (1 ∷ 2 ∷ 0 ∷ 1 ∷ 0 ∷ 0 ∷ 0 ∷ []) ∷
    judge_tells 1 [] (replicate 2049 0) 1 tells refused 5 0 ∷
    judge_tells 1 [] (replicate 2047 0 ++ (2 ∷ [])) 1 tells refused 8 2048 ∷
    -- both in a job's header: gates in bytes 8 and 9, vectors in 12 and 13
    read_header (header_of 0 4 0 0 28 48 28 48 ++ replicate 12288 0) tells answered [] ∷
    read_header (header_of 1 4 0 0 40 48 40 48 ++ replicate 12300 0) tells refused 5 0 ∷
    read_header (header_of 0 0 0 8 28 0 28 32 ++ replicate 8192 0) tells answered [] ∷
    read_header (header_of 0 0 1 8 28 0 32 32 ++ replicate 8196 0) tells refused 5 0 ∷
    read_header (header_of 0 4 0 8 28 48 28 80 ++ replicate 20480 0) tells answered [] ∷
    -- and in a job written, the longest of which has 20,508 bytes
    write_tells 1 1 most (replicate 2048 0) (replicate 20507 9) tells refused 10 0 ∷
    write_tells 1 1 most (replicate 2048 0) (replicate 20508 9) tells answered (20508 ∷ []) ∷
    take 28 (write_leaves 1 1 most (replicate 2048 0) (replicate 20508 9)) gives header_of 0 4 0 8 28 48 28 80 ∷
    write_tells 1 1 (replicate 3075 0) (replicate 2048 0) (replicate 20520 9) tells refused 5 0 ∷
    write_tells 1 1 most (replicate 2049 0) (replicate 20512 9) tells refused 5 0 ∷
    -- rule 13: at most 256 entries; rule 9 comes before it also past the 256th
    catches_multiple_tells 32 eight_gates 0 (drop 4 entries256) tells answered (1 ∷ []) ∷
    catches_multiple_tells 32 eight_gates 0 entries256 tells answered (1 ∷ []) ∷
    catches_multiple_tells 32 eight_gates 0 (entries256 ++ (1 ∷ 8 ∷ 0 ∷ 1 ∷ [])) tells refused 13 0 ∷
    catches_multiple_tells 32 eight_gates 0 (entries256 ++ (1 ∷ 8 ∷ 1 ∷ 1 ∷ [])) tells refused 9 257 ∷
    catches_multiple_tells 32 eight_gates 0 (entries256 ++ (1 ∷ 9 ∷ 0 ∷ 1 ∷ [])) tells refused 9 257 ∷
    catches_multiple_tells 32 eight_gates 0 (entries256 ++ (1 ∷ 8 ∷ 0 ∷ [])) tells refused 9 257 ∷ []

unfoldable pub long_order_table : List Row
long_order_table =
    -- 5 before 7, 8 and 12
    forward_tells 3 many_bad 0 0 tells refused 5 0 ∷
    forward_tells 3 many 0 8 tells refused 5 0 ∷
    forward_tells 3 many 1026 0 tells refused 5 0 ∷
    -- before 7, 8 and 9
    catches_tells 3 many_bad 0 known tells refused 5 0 ∷
    catches_tells 3 many 8 known tells refused 5 0 ∷
    catches_tells 3 many 0 unknown tells refused 5 0 ∷
    catches_tells 3 many 0 untouched tells refused 5 0 ∷
    test_for_tells 3 many_bad known tells refused 5 0 ∷
    test_for_tells 3 many unknown tells refused 5 0 ∷
    test_for_tells 3 many untouched tells refused 5 0 ∷
    -- before 7, 8, 9 and 13
    catches_multiple_tells 3 many_bad 0 (1 ∷ 0 ∷ 0 ∷ 0 ∷ []) tells refused 5 0 ∷
    catches_multiple_tells 3 many 8 (1 ∷ 0 ∷ 0 ∷ 0 ∷ []) tells refused 5 0 ∷
    catches_multiple_tells 3 many 0 (5 ∷ 0 ∷ 0 ∷ 0 ∷ []) tells refused 5 0 ∷
    catches_multiple_tells 3 many 0 (1 ∷ 1 ∷ 2 ∷ 0 ∷ []) tells refused 5 0 ∷
    catches_multiple_tells 3 many 0 [] tells refused 5 0 ∷
    -- before 7, 8 and 9, by its gates and by its vectors
    judge_tells 3 many_bad [] 1 tells refused 5 0 ∷
    judge_tells 3 bad (replicate 2049 0) 1 tells refused 5 0 ∷
    judge_tells 3 many (8 ∷ []) 1 tells refused 5 0 ∷
    judge_tells 3 [] (replicate 2049 8) 1 tells refused 5 0 ∷
    judge_tells 3 many [] 5 tells refused 5 0 ∷
    judge_tells 3 [] (replicate 2049 0) 5 tells refused 5 0 ∷
    with_vector_tells 3 many_bad 0 tells refused 5 0 ∷
    with_vector_tells 3 many 8 tells refused 5 0 ∷
    count_tells empty_coverage 3 many_bad 1 tells refused 5 0 ∷
    count_tells empty_coverage 3 many 5 tells refused 5 0 ∷
    drop_tells 3 many_bad 0 [] tells refused 5 0 ∷
    drop_tells 3 many 8 [] tells refused 5 0 ∷
    drop_tells 3 many 0 (0 ∷ 0 ∷ 0 ∷ 0 ∷ []) tells refused 5 0 ∷
    drop_tells 3 many 0 (1 ∷ 1 ∷ 2 ∷ 0 ∷ []) tells refused 5 0 ∷
    drop_records_tells 3 many_bad 0 [] tells refused 5 0 ∷
    drop_records_tells 3 many 8 [] tells refused 5 0 ∷
    drop_records_tells 3 many 0 (unknown ∷ []) tells refused 5 0 ∷
    drop_records_tells 3 many 0 (untouched ∷ []) tells refused 5 0 ∷
    -- before 7, 11 and 10
    backward_set_tells 3 many_bad (replicate 1027 9) tells refused 5 0 ∷
    backward_set_tells 3 many [] tells refused 5 0 ∷
    compact_set_tells 3 many_bad (replicate 20 9) tells refused 5 0 ∷
    compact_set_tells 13 many (replicate 20 9) tells refused 5 0 ∷
    compact_set_tells 3 many [] tells refused 5 0 ∷ []

-- a text of so many gates without controls, its lines 5 and on, and the lines after them
abbrev pub gates_text : ℕ → String → List ℕ
gates_text count lines = block "" ++ (each (λ i. ascii "t1 a\n") (up_from 0 count) ++ ascii lines)

-- the most gates, on all of the most lines
abbrev pub widest : List ℕ
widest = each (λ i. 2147483647 ∷ 0 ∷ 31 ∷ []) (up_from 0 1024)

unfoldable pub long_text_table : List Row
long_text_table =
    -- rule 5: 1,024 gates are read, and 1,025 are not, also where 7 and 10 are broken
    import_tells (gates_text 1024 ".end") (replicate 3072 9) tells answered (2 ∷ 1024 ∷ []) ∷
    import_tells (gates_text 1024 "t2 a a\n.end") [] tells refused 5 0 ∷
    -- 15, 14 and 3 come before it: a text is read to its end
    import_tells (gates_text 1025 "f1 a\n.end") [] tells refused 15 1030 ∷
    import_tells (gates_text 1025 "") [] tells refused 14 1030 ∷
    first_of (reading_rows (circuit 33 many) 3075) (answered []) tells refused 3 0 ∷
    -- a circuit that is written: 3 before 5, and 5 before 7 and 10
    export_tells 1 most (replicate 6194 9) tells answered (6194 ∷ []) ∷
    export_tells 1 many (replicate 6200 9) tells refused 5 0 ∷
    export_tells 33 many (replicate 6200 9) tells refused 3 0 ∷
    export_tells 3 many_bad (replicate 6300 9) tells refused 5 0 ∷
    export_tells 3 many [] tells refused 5 0 ∷ []
