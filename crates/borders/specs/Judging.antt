-- Judging a set and counting a coverage: rule 8 of a set, rule 9 of a class. A verdict is the number caught, the number
-- in the class, and 1 with four zeros where complete, or 0 with the class, place, line and value of the first uncaught fault.
use Rattle.std.specs.Prelude.{List, [], ◌∷◌, length, take}
use Rattle.refusals.specs.Tables.Told.{answered, refused}
use Rattle.judge.specs.Coverages.{empty_coverage}
use Rattle.judge.specs.declared.coverage.Coverage.{Coverage}
use Rattle.proved_samples.specs.Sample.{sample_words}
use Rattle.borders.specs.Rows.{Row}
use Rattle.borders.specs.Rows.Row.{◌tells◌, ◌gives◌}
use Rattle.judge.specs.Promises.{judge_tells, with_vector_tells, with_vector_gives, count_tells}

-- coverages of the sample circuit: with vector 3, with vector 1, and with the set 0, 3, 5
abbrev pub with3 : Coverage
with3 = with_vector_gives empty_coverage 3 sample_words 3

abbrev pub with1 : Coverage
with1 = with_vector_gives empty_coverage 3 sample_words 1

abbrev pub with035 : Coverage
with035 = with_vector_gives (with_vector_gives (with_vector_gives empty_coverage 3 sample_words 0) 3 sample_words 3) 3 sample_words 5

-- of one gate without controls and with target 2 on 4 lines, with vector 15
abbrev pub on4 : Coverage
on4 = with_vector_gives empty_coverage 4 (0 ∷ 0 ∷ 2 ∷ []) 15

unfoldable pub judge_table : List Row
judge_table =
    -- rule 9: classes 1 to 4; a class alone has place 1
    judge_tells 3 sample_words (0 ∷ 3 ∷ 5 ∷ []) 0 tells refused 9 1 ∷
    judge_tells 3 sample_words (0 ∷ 3 ∷ 5 ∷ []) 1 tells answered (16 ∷ 16 ∷ 1 ∷ 0 ∷ 0 ∷ 0 ∷ 0 ∷ []) ∷
    judge_tells 3 sample_words (0 ∷ 3 ∷ 5 ∷ []) 2 tells answered (2 ∷ 2 ∷ 1 ∷ 0 ∷ 0 ∷ 0 ∷ 0 ∷ []) ∷
    judge_tells 3 sample_words (0 ∷ 3 ∷ 5 ∷ []) 3 tells answered (2 ∷ 3 ∷ 0 ∷ 3 ∷ 1 ∷ 0 ∷ 0 ∷ []) ∷
    judge_tells 3 sample_words (0 ∷ 3 ∷ 5 ∷ []) 4 tells answered (0 ∷ 1 ∷ 0 ∷ 4 ∷ 2 ∷ 2 ∷ 0 ∷ []) ∷
    judge_tells 3 sample_words (0 ∷ 3 ∷ 5 ∷ []) 5 tells refused 9 1 ∷
    judge_tells 3 sample_words (0 ∷ 3 ∷ 5 ∷ []) 4294967295 tells refused 9 1 ∷
    -- the first uncaught fault
    judge_tells 3 sample_words (0 ∷ 7 ∷ []) 1 tells answered (14 ∷ 16 ∷ 0 ∷ 1 ∷ 1 ∷ 2 ∷ 0 ∷ []) ∷
    judge_tells 3 sample_words (0 ∷ 7 ∷ 3 ∷ []) 1 tells answered (15 ∷ 16 ∷ 0 ∷ 1 ∷ 2 ∷ 1 ∷ 0 ∷ []) ∷
    judge_tells 3 sample_words (7 ∷ []) 1 tells answered (8 ∷ 16 ∷ 0 ∷ 1 ∷ 0 ∷ 0 ∷ 1 ∷ []) ∷
    judge_tells 3 sample_words (1 ∷ []) 2 tells answered (1 ∷ 2 ∷ 0 ∷ 2 ∷ 1 ∷ 0 ∷ 0 ∷ []) ∷
    judge_tells 3 sample_words (1 ∷ []) 4 tells answered (1 ∷ 1 ∷ 1 ∷ 0 ∷ 0 ∷ 0 ∷ 0 ∷ []) ∷
    -- class 1 has two faults a site: no gates; one gate with no control, with one, and on all lines; two gates that are alike
    judge_tells 3 [] [] 1 tells answered (0 ∷ 6 ∷ 0 ∷ 1 ∷ 0 ∷ 0 ∷ 0 ∷ []) ∷
    judge_tells 3 [] (0 ∷ 7 ∷ []) 1 tells answered (6 ∷ 6 ∷ 1 ∷ 0 ∷ 0 ∷ 0 ∷ 0 ∷ []) ∷
    judge_tells 4 (0 ∷ 0 ∷ 2 ∷ []) [] 1 tells answered (0 ∷ 10 ∷ 0 ∷ 1 ∷ 0 ∷ 0 ∷ 0 ∷ []) ∷
    judge_tells 4 (0 ∷ 0 ∷ 2 ∷ []) (0 ∷ []) 1 tells answered (5 ∷ 10 ∷ 0 ∷ 1 ∷ 0 ∷ 0 ∷ 0 ∷ []) ∷
    judge_tells 4 (0 ∷ 0 ∷ 2 ∷ []) (0 ∷ 15 ∷ []) 1 tells answered (10 ∷ 10 ∷ 1 ∷ 0 ∷ 0 ∷ 0 ∷ 0 ∷ []) ∷
    judge_tells 4 (1 ∷ 0 ∷ 2 ∷ []) [] 1 tells answered (0 ∷ 12 ∷ 0 ∷ 1 ∷ 0 ∷ 0 ∷ 0 ∷ []) ∷
    judge_tells 4 (11 ∷ 0 ∷ 2 ∷ []) [] 1 tells answered (0 ∷ 16 ∷ 0 ∷ 1 ∷ 0 ∷ 0 ∷ 0 ∷ []) ∷
    judge_tells 4 (1 ∷ 0 ∷ 2 ∷ 1 ∷ 0 ∷ 2 ∷ []) [] 1 tells answered (0 ∷ 16 ∷ 0 ∷ 1 ∷ 0 ∷ 0 ∷ 0 ∷ []) ∷
    judge_tells 32 (0 ∷ 0 ∷ 31 ∷ []) (0 ∷ []) 1 tells answered (33 ∷ 66 ∷ 0 ∷ 1 ∷ 0 ∷ 0 ∷ 0 ∷ []) ∷
    -- the first uncaught at level 1, where line 0 is no site: at line 2, at line 1, and none
    judge_tells 3 (2 ∷ 0 ∷ 2 ∷ []) (0 ∷ 7 ∷ []) 1 tells answered (9 ∷ 10 ∷ 0 ∷ 1 ∷ 1 ∷ 2 ∷ 0 ∷ []) ∷
    judge_tells 3 (4 ∷ 0 ∷ 1 ∷ []) (0 ∷ 7 ∷ []) 1 tells answered (9 ∷ 10 ∷ 0 ∷ 1 ∷ 1 ∷ 1 ∷ 0 ∷ []) ∷
    judge_tells 3 (0 ∷ 0 ∷ 2 ∷ []) (0 ∷ 7 ∷ []) 1 tells answered (8 ∷ 8 ∷ 1 ∷ 0 ∷ 0 ∷ 0 ∷ 0 ∷ []) ∷
    -- a set with no vectors; a class with no faults is complete
    judge_tells 1 [] [] 1 tells answered (0 ∷ 2 ∷ 0 ∷ 1 ∷ 0 ∷ 0 ∷ 0 ∷ []) ∷
    judge_tells 1 [] [] 2 tells answered (0 ∷ 0 ∷ 1 ∷ 0 ∷ 0 ∷ 0 ∷ 0 ∷ []) ∷
    judge_tells 1 [] [] 3 tells answered (0 ∷ 0 ∷ 1 ∷ 0 ∷ 0 ∷ 0 ∷ 0 ∷ []) ∷
    judge_tells 1 [] [] 4 tells answered (0 ∷ 0 ∷ 1 ∷ 0 ∷ 0 ∷ 0 ∷ 0 ∷ []) ∷
    -- rule 8: the first vector of 2^n or more, from 1
    judge_tells 3 sample_words (8 ∷ []) 2 tells refused 8 1 ∷
    judge_tells 3 sample_words (7 ∷ 8 ∷ []) 2 tells refused 8 2 ∷
    judge_tells 3 sample_words (0 ∷ 7 ∷ 9 ∷ 8 ∷ []) 2 tells refused 8 3 ∷
    judge_tells 1 [] (1 ∷ 0 ∷ 2 ∷ []) 2 tells refused 8 3 ∷
    judge_tells 32 [] (4294967295 ∷ []) 1 tells answered (32 ∷ 64 ∷ 0 ∷ 1 ∷ 0 ∷ 0 ∷ 1 ∷ []) ∷
    -- rule 3
    judge_tells 0 [] [] 2 tells refused 3 0 ∷
    judge_tells 32 [] [] 2 tells answered (0 ∷ 0 ∷ 1 ∷ 0 ∷ 0 ∷ 0 ∷ 0 ∷ []) ∷
    judge_tells 33 [] [] 2 tells refused 3 0 ∷
    -- an empty coverage: a word for each of 1,025 levels, twice, and for each of 1,024 gates, three times
    (length empty_coverage.stuck_at.at_0 ∷ length empty_coverage.stuck_at.at_1 ∷ length empty_coverage.missing_gates
    ∷ length empty_coverage.missing_controls ∷ length empty_coverage.extra_controls ∷ [])
    gives (1025 ∷ 1025 ∷ 1024 ∷ 1024 ∷ 1024 ∷ []) ∷
    count_tells empty_coverage 3 sample_words 1 tells answered (0 ∷ 16 ∷ 0 ∷ 1 ∷ 0 ∷ 0 ∷ 0 ∷ []) ∷
    count_tells empty_coverage 3 sample_words 2 tells answered (0 ∷ 2 ∷ 0 ∷ 2 ∷ 1 ∷ 0 ∷ 0 ∷ []) ∷
    count_tells empty_coverage 3 sample_words 3 tells answered (0 ∷ 3 ∷ 0 ∷ 3 ∷ 1 ∷ 0 ∷ 0 ∷ []) ∷
    count_tells empty_coverage 3 sample_words 4 tells answered (0 ∷ 1 ∷ 0 ∷ 4 ∷ 2 ∷ 2 ∷ 0 ∷ []) ∷
    count_tells empty_coverage 4 (0 ∷ 0 ∷ 2 ∷ []) 1 tells answered (0 ∷ 10 ∷ 0 ∷ 1 ∷ 0 ∷ 0 ∷ 0 ∷ []) ∷
    -- a coverage with one vector: the words of the lines at which it catches, at levels 0, 1, 2 or gates 1, 2; line 2 is no site of level 2
    take 4 with3.stuck_at.at_0 gives (3 ∷ 7 ∷ 1 ∷ 0 ∷ []) ∷
    take 4 with3.stuck_at.at_1 gives (4 ∷ 0 ∷ 2 ∷ 0 ∷ []) ∷
    take 3 with1.missing_gates gives (0 ∷ 1 ∷ 0 ∷ []) ∷
    take 3 with1.missing_controls gives (2 ∷ 0 ∷ 0 ∷ []) ∷
    take 3 with1.extra_controls gives (0 ∷ 4 ∷ 0 ∷ []) ∷
    count_tells with3 3 sample_words 1 tells answered (8 ∷ 16 ∷ 0 ∷ 1 ∷ 0 ∷ 0 ∷ 1 ∷ []) ∷
    count_tells with3 3 sample_words 2 tells answered (2 ∷ 2 ∷ 1 ∷ 0 ∷ 0 ∷ 0 ∷ 0 ∷ []) ∷
    count_tells with1 3 sample_words 3 tells answered (1 ∷ 3 ∷ 0 ∷ 3 ∷ 1 ∷ 0 ∷ 0 ∷ []) ∷
    count_tells with1 3 sample_words 4 tells answered (1 ∷ 1 ∷ 1 ∷ 0 ∷ 0 ∷ 0 ∷ 0 ∷ []) ∷
    -- at level 1 of a gate without controls its target alone
    take 3 on4.stuck_at.at_0 gives (15 ∷ 0 ∷ 0 ∷ []) ∷
    take 3 on4.stuck_at.at_1 gives (0 ∷ 4 ∷ 0 ∷ []) ∷
    count_tells on4 4 (0 ∷ 0 ∷ 2 ∷ []) 1 tells answered (5 ∷ 10 ∷ 0 ∷ 1 ∷ 0 ∷ 0 ∷ 1 ∷ []) ∷
    take 3 (with_vector_gives empty_coverage 32 (0 ∷ 0 ∷ 31 ∷ []) 0).stuck_at.at_0 gives (0 ∷ 2147483648 ∷ 0 ∷ []) ∷
    take 3 (with_vector_gives empty_coverage 32 (0 ∷ 0 ∷ 31 ∷ []) 0).stuck_at.at_1 gives (4294967295 ∷ 0 ∷ 0 ∷ []) ∷
    -- with a set's vectors in turn it ends as the judge of that set
    count_tells with035 3 sample_words 1 tells answered (16 ∷ 16 ∷ 1 ∷ 0 ∷ 0 ∷ 0 ∷ 0 ∷ []) ∷
    count_tells with035 3 sample_words 2 tells answered (2 ∷ 2 ∷ 1 ∷ 0 ∷ 0 ∷ 0 ∷ 0 ∷ []) ∷
    count_tells with035 3 sample_words 3 tells answered (2 ∷ 3 ∷ 0 ∷ 3 ∷ 1 ∷ 0 ∷ 0 ∷ []) ∷
    count_tells with035 3 sample_words 4 tells answered (0 ∷ 1 ∷ 0 ∷ 4 ∷ 2 ∷ 2 ∷ 0 ∷ []) ∷
    -- marks of faults that the circuit has not count for nothing, and stay
    count_tells with035 1 [] 1 tells answered (2 ∷ 2 ∷ 1 ∷ 0 ∷ 0 ∷ 0 ∷ 0 ∷ []) ∷
    count_tells with035 1 [] 2 tells answered (0 ∷ 0 ∷ 1 ∷ 0 ∷ 0 ∷ 0 ∷ 0 ∷ []) ∷
    count_tells with3 3 (0 ∷ 0 ∷ 2 ∷ []) 1 tells answered (4 ∷ 8 ∷ 0 ∷ 1 ∷ 0 ∷ 0 ∷ 1 ∷ []) ∷
    count_tells with035 3 (0 ∷ 0 ∷ 2 ∷ []) 1 tells answered (8 ∷ 8 ∷ 1 ∷ 0 ∷ 0 ∷ 0 ∷ 0 ∷ []) ∷
    take 4 (with_vector_gives with3 3 (0 ∷ 0 ∷ 2 ∷ []) 0).stuck_at.at_0 gives (3 ∷ 7 ∷ 1 ∷ 0 ∷ []) ∷
    take 4 (with_vector_gives with3 3 (0 ∷ 0 ∷ 2 ∷ []) 0).stuck_at.at_1 gives (7 ∷ 0 ∷ 2 ∷ 0 ∷ []) ∷
    -- counting, rule 9
    count_tells with3 3 sample_words 0 tells refused 9 1 ∷
    count_tells with3 3 sample_words 5 tells refused 9 1 ∷
    count_tells with3 0 [] 2 tells refused 3 0 ∷
    count_tells with3 32 [] 2 tells answered (0 ∷ 0 ∷ 1 ∷ 0 ∷ 0 ∷ 0 ∷ 0 ∷ []) ∷
    count_tells with3 33 [] 2 tells refused 3 0 ∷
    -- one vector, rules 3, 5, 7 and 8; a refusal gives the same coverage back
    with_vector_tells 3 sample_words 7 tells answered [] ∷
    with_vector_tells 3 sample_words 8 tells refused 8 1 ∷
    with_vector_tells 0 [] 0 tells refused 3 0 ∷
    with_vector_tells 1 [] 0 tells answered [] ∷
    with_vector_tells 32 [] 4294967295 tells answered [] ∷
    with_vector_tells 33 [] 0 tells refused 3 0 ∷
    with_vector_tells 3 (3 ∷ 0 ∷ 2 ∷ 1 ∷ 1 ∷ 1 ∷ []) 0 tells refused 7 2 ∷
    take 4 (with_vector_gives with3 3 sample_words 8).stuck_at.at_0 gives (3 ∷ 7 ∷ 1 ∷ 0 ∷ []) ∷
    take 4 (with_vector_gives with3 3 sample_words 4).stuck_at.at_0 gives (7 ∷ 7 ∷ 1 ∷ 0 ∷ []) ∷ []
