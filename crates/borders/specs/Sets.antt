-- The backward set and the compact set: rules 10 and 11, what is told, and what the room holds after.
use Rattle.std.specs.Prelude.{ℕ, List, [], ◌∷◌, ◌++◌}
use Rattle.refusals.specs.Tables.{first_of}
use Rattle.refusals.specs.Tables.Told.{answered, refused}
use Rattle.testsets.specs.Rules.{compact_rows}
use Rattle.testsets.specs.Log2.{log2}
use Rattle.faults.specs.Sites.{site_count}
use Rattle.testsets.specs.Sets.{bound}
use Rattle.circuit.specs.Gates.{gates_of}
use Rattle.proved_samples.specs.Sample.{sample_words}
use Rattle.borders.specs.Rows.{Row}
use Rattle.borders.specs.Rows.Row.{◌tells◌, ◌gives◌}
use Rattle.testsets.specs.Promises.{backward_set_tells, backward_set_leaves, compact_set_tells, compact_set_leaves}
use Rattle.borders.specs.Faults.{in_turn}

-- the number of sites of a circuit, and the room for its compact set
abbrev pub count_and_bound : ℕ → List ℕ → List ℕ
count_and_bound n words = site_count n (gates_of words) ∷ bound n (gates_of words) ∷ []

unfoldable pub set_table : List Row
set_table =
    -- the backward set, room d + 2; what lies beyond keeps its contents, and a refusal leaves all
    backward_set_tells 3 sample_words (9 ∷ 9 ∷ 9 ∷ []) tells refused 10 0 ∷
    backward_set_tells 3 sample_words (9 ∷ 9 ∷ 9 ∷ 9 ∷ []) tells answered (4 ∷ []) ∷
    backward_set_leaves 3 sample_words (9 ∷ 9 ∷ 9 ∷ []) gives (9 ∷ 9 ∷ 9 ∷ []) ∷
    backward_set_leaves 3 sample_words (9 ∷ 9 ∷ 9 ∷ 9 ∷ []) gives (0 ∷ 7 ∷ 3 ∷ 5 ∷ []) ∷
    backward_set_leaves 3 sample_words (9 ∷ 9 ∷ 9 ∷ 9 ∷ 8 ∷ 6 ∷ []) gives (0 ∷ 7 ∷ 3 ∷ 5 ∷ 8 ∷ 6 ∷ []) ∷
    backward_set_tells 1 [] (9 ∷ []) tells refused 10 0 ∷
    backward_set_tells 1 [] (9 ∷ 9 ∷ []) tells answered (2 ∷ []) ∷
    backward_set_leaves 1 [] (9 ∷ 9 ∷ 9 ∷ []) gives (0 ∷ 1 ∷ 9 ∷ []) ∷
    backward_set_leaves 32 (0 ∷ 0 ∷ 0 ∷ []) (9 ∷ 9 ∷ 9 ∷ []) gives (0 ∷ 4294967295 ∷ 4294967295 ∷ []) ∷
    backward_set_tells 0 [] (9 ∷ 9 ∷ []) tells refused 3 0 ∷
    backward_set_tells 32 [] (9 ∷ 9 ∷ []) tells answered (2 ∷ []) ∷
    backward_set_tells 33 [] (9 ∷ 9 ∷ []) tells refused 3 0 ∷
    backward_set_tells 3 (3 ∷ 0 ∷ 2 ∷ 8 ∷ 0 ∷ 1 ∷ []) (9 ∷ 9 ∷ 9 ∷ 9 ∷ []) tells refused 7 2 ∷
    -- the compact set, room 2 + floor(log2 S), even where fewer are found
    count_and_bound 3 sample_words gives (8 ∷ 5 ∷ []) ∷
    compact_set_tells 3 sample_words (9 ∷ 9 ∷ 9 ∷ 9 ∷ []) tells refused 10 0 ∷
    compact_set_tells 3 sample_words (9 ∷ 9 ∷ 9 ∷ 9 ∷ 9 ∷ []) tells answered (3 ∷ []) ∷
    compact_set_leaves 3 sample_words (9 ∷ 9 ∷ 9 ∷ 9 ∷ []) gives (9 ∷ 9 ∷ 9 ∷ 9 ∷ []) ∷
    compact_set_leaves 3 sample_words (9 ∷ 9 ∷ 9 ∷ 9 ∷ 9 ∷ []) gives (0 ∷ 3 ∷ 5 ∷ 9 ∷ 9 ∷ []) ∷
    compact_set_leaves 3 sample_words (9 ∷ 9 ∷ 9 ∷ 9 ∷ 9 ∷ 8 ∷ []) gives (0 ∷ 3 ∷ 5 ∷ 9 ∷ 9 ∷ 8 ∷ []) ∷
    compact_set_leaves 2 (1 ∷ 0 ∷ 1 ∷ []) (9 ∷ 9 ∷ 9 ∷ 9 ∷ []) gives (0 ∷ 1 ∷ 2 ∷ 9 ∷ []) ∷
    -- S is n and the size of every gate, controls and target
    count_and_bound 1 [] gives (1 ∷ 2 ∷ []) ∷
    count_and_bound 32 [] gives (32 ∷ 7 ∷ []) ∷
    count_and_bound 4 (0 ∷ 0 ∷ 2 ∷ []) gives (5 ∷ 4 ∷ []) ∷
    count_and_bound 4 (1 ∷ 0 ∷ 2 ∷ []) gives (6 ∷ 4 ∷ []) ∷
    count_and_bound 4 (11 ∷ 0 ∷ 2 ∷ []) gives (8 ∷ 5 ∷ []) ∷
    count_and_bound 32 (0 ∷ 0 ∷ 31 ∷ []) gives (33 ∷ 7 ∷ []) ∷
    count_and_bound 32 (2147483646 ∷ 0 ∷ 0 ∷ []) gives (63 ∷ 7 ∷ []) ∷
    count_and_bound 32 (4294967294 ∷ 0 ∷ 0 ∷ []) gives (64 ∷ 8 ∷ []) ∷
    -- 4 lines and 3 gates: S = 7 where none has a control; 8 where one has, or with a line or a gate more
    count_and_bound 4 in_turn gives (7 ∷ 4 ∷ []) ∷
    compact_set_tells 4 in_turn (9 ∷ 9 ∷ 9 ∷ []) tells refused 10 0 ∷
    compact_set_tells 4 in_turn (9 ∷ 9 ∷ 9 ∷ 9 ∷ []) tells answered (2 ∷ []) ∷
    compact_set_leaves 4 in_turn (9 ∷ 9 ∷ 9 ∷ 9 ∷ []) gives (0 ∷ 15 ∷ 9 ∷ 9 ∷ []) ∷
    count_and_bound 4 (0 ∷ 0 ∷ 0 ∷ 0 ∷ 0 ∷ 1 ∷ 8 ∷ 0 ∷ 2 ∷ []) gives (8 ∷ 5 ∷ []) ∷
    first_of (compact_rows 4 (0 ∷ 0 ∷ 0 ∷ 0 ∷ 0 ∷ 1 ∷ 8 ∷ 0 ∷ 2 ∷ []) 4) (answered []) tells refused 10 0 ∷
    first_of (compact_rows 4 (0 ∷ 0 ∷ 0 ∷ 0 ∷ 0 ∷ 1 ∷ 8 ∷ 0 ∷ 2 ∷ []) 5) (answered []) tells answered [] ∷
    count_and_bound 5 in_turn gives (8 ∷ 5 ∷ []) ∷
    first_of (compact_rows 5 in_turn 4) (answered []) tells refused 10 0 ∷
    first_of (compact_rows 5 in_turn 5) (answered []) tells answered [] ∷
    count_and_bound 4 (in_turn ++ (0 ∷ 0 ∷ 3 ∷ [])) gives (8 ∷ 5 ∷ []) ∷
    -- picks go by sites alone: after 0, inputs 1 and 3 catch 4 faults each, and line 1 is no site of level 1
    compact_set_leaves 2 (0 ∷ 0 ∷ 0 ∷ 1 ∷ 0 ∷ 1 ∷ []) (9 ∷ 9 ∷ 9 ∷ 9 ∷ []) gives (0 ∷ 1 ∷ 2 ∷ 9 ∷ []) ∷
    -- S = 1, 2, 3, 4, 7 and 8
    (log2 1 ∷ log2 2 ∷ log2 3 ∷ log2 4 ∷ log2 7 ∷ log2 8 ∷ log2 12300 ∷ log2 0 ∷ []) gives (0 ∷ 1 ∷ 1 ∷ 2 ∷ 2 ∷ 3 ∷ 13 ∷ 0 ∷ []) ∷
    compact_set_tells 1 [] (9 ∷ []) tells refused 10 0 ∷
    compact_set_tells 1 [] (9 ∷ 9 ∷ []) tells answered (2 ∷ []) ∷
    compact_set_leaves 1 [] (9 ∷ 9 ∷ []) gives (0 ∷ 1 ∷ []) ∷
    compact_set_tells 2 [] (9 ∷ 9 ∷ []) tells refused 10 0 ∷
    compact_set_tells 2 [] (9 ∷ 9 ∷ 9 ∷ []) tells answered (2 ∷ []) ∷
    compact_set_tells 3 [] (9 ∷ 9 ∷ []) tells refused 10 0 ∷
    compact_set_tells 3 [] (9 ∷ 9 ∷ 9 ∷ []) tells answered (2 ∷ []) ∷
    compact_set_tells 4 [] (9 ∷ 9 ∷ 9 ∷ []) tells refused 10 0 ∷
    compact_set_tells 4 [] (9 ∷ 9 ∷ 9 ∷ 9 ∷ []) tells answered (2 ∷ []) ∷
    first_of (compact_rows 7 [] 3) (answered []) tells refused 10 0 ∷
    first_of (compact_rows 7 [] 4) (answered []) tells answered [] ∷
    first_of (compact_rows 8 [] 4) (answered []) tells refused 10 0 ∷
    first_of (compact_rows 8 [] 5) (answered []) tells answered [] ∷
    -- rule 11: at most 12 lines, whatever the room
    first_of (compact_rows 12 [] 4) (answered []) tells refused 10 0 ∷
    first_of (compact_rows 12 [] 5) (answered []) tells answered [] ∷
    first_of (compact_rows 13 [] 4) (answered []) tells refused 11 0 ∷
    first_of (compact_rows 13 [] 5) (answered []) tells refused 11 0 ∷
    first_of (compact_rows 32 [] 7) (answered []) tells refused 11 0 ∷
    first_of (compact_rows 0 [] 5) (answered []) tells refused 3 0 ∷
    first_of (compact_rows 33 [] 5) (answered []) tells refused 3 0 ∷
    compact_set_tells 3 (3 ∷ 0 ∷ 2 ∷ 8 ∷ 0 ∷ 1 ∷ []) (9 ∷ 9 ∷ 9 ∷ 9 ∷ 9 ∷ []) tells refused 7 2 ∷ []
