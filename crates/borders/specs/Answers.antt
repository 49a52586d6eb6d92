-- What each case of an answer tells, the fields of a C answer, and words of 32 lines.
use Rattle.std.specs.Prelude.{true, false, Some, None, Ok, Err, List, [], ◌∷◌, length, map}
use Rattle.words.specs.Word.{bit, flip, force, all_ones, lines_on}
use Rattle.words.specs.Inverse.{inverse}
use Rattle.words.specs.WordOf.{lacking, lone_zero}
use Rattle.refusals.specs.Tables.Told.{answered, refused}
use Rattle.refusals.specs.Answers.{told, told_word, told_yes, fine, found, number_of, place_of}
use Rattle.refusals.specs.declared.Refusal.{Refusal}
use Rattle.refusals.specs.declared.Refusal.TheVariants as refusal
use Rattle.marking.specs.Firsts.{told_first}
use Rattle.judge.specs.Answers.{verdict_values}
use Rattle.judge.specs.Added.{told_added}
use Rattle.judge.specs.Coverages.{empty_coverage}
use Rattle.job.specs.Answers.{job_values}
use Rattle.real_import.specs.Answers.{imported_values}
use Rattle.answers.specs.Fields.{fields}
use Rattle.borders.specs.Rows.{Row, fault}
use Rattle.borders.specs.Rows.Row.{◌tells◌, ◌gives◌}

-- rule 7 at place 2
abbrev pub seven : Refusal
seven = refusal.Gate 2

-- the refusal of each rule, those that tell a place at 2 to 6
abbrev pub each_rule : List Refusal
each_rule =
    refusal.ShortJob ∷ refusal.Form ∷ refusal.Lines ∷ refusal.Classes ∷ refusal.Counts ∷ refusal.Sizes ∷ seven ∷ refusal.Vector 3
    ∷ refusal.Fault 4 ∷ refusal.Room ∷ refusal.ManyLines ∷ refusal.Level ∷ refusal.Entries ∷ refusal.Text 5 ∷ refusal.OtherGate 6 ∷ []

unfoldable pub answer_table : List Row
answer_table =
    -- a state, an output, a vector, how many records, vectors or bytes; caught is 1 and not caught 0
    told_word (Ok 5) tells answered (5 ∷ []) ∷
    told_word (Err seven) tells refused 7 2 ∷
    told_yes (Ok true) tells answered (1 ∷ []) ∷
    told_yes (Ok false) tells answered (0 ∷ []) ∷
    told_yes (Err seven) tells refused 7 2 ∷
    -- a verdict: number caught, number in the class, then 1 and four zeros, or 0 and class, place, line, value of a fault
    told verdict_values (Ok (record { caught = 2; total = 3; first = None })) tells answered (2 ∷ 3 ∷ 1 ∷ 0 ∷ 0 ∷ 0 ∷ 0 ∷ []) ∷
    told verdict_values (Ok (record { caught = 2; total = 3; first = Some (fault 4 5 6 7) })) tells answered (2 ∷ 3 ∷ 0 ∷ 4 ∷ 5 ∷ 6 ∷ 7 ∷ []) ∷
    told verdict_values (Err seven) tells refused 7 2 ∷
    told_first None gives (1 ∷ 0 ∷ 0 ∷ 0 ∷ 0 ∷ []) ∷
    told_first (Some (fault 4 5 6 7)) gives (0 ∷ 4 ∷ 5 ∷ 6 ∷ 7 ∷ []) ∷
    -- a vector added to a coverage, or refused beside it
    told_added (Ok empty_coverage) tells answered [] ∷
    told_added (Err (record { refusal = seven; coverage = empty_coverage })) tells refused 7 2 ∷
    told_added (Err (record { refusal = refusal.Lines; coverage = empty_coverage })) tells refused 3 0 ∷
    found {A = Unit {0}} (Ok tt) tells answered [] ∷
    found {A = Unit {0}} (Err seven) tells refused 7 2 ∷
    fine tells answered [] ∷
    -- lines, classes wanted, gates, vectors of a job; lines and gates of a text
    told job_values (Ok (record { lines = 3; classes = 15; gates = 2; vectors = 4 })) tells answered (3 ∷ 15 ∷ 2 ∷ 4 ∷ []) ∷
    told job_values (Err seven) tells refused 7 2 ∷
    told imported_values (Ok (record { lines = 3; gates = 2 })) tells answered (3 ∷ 2 ∷ []) ∷
    told imported_values (Err seven) tells refused 7 2 ∷
    -- the number of each rule, and the place that it tells
    map number_of each_rule gives (1 ∷ 2 ∷ 3 ∷ 4 ∷ 5 ∷ 6 ∷ 7 ∷ 8 ∷ 9 ∷ 10 ∷ 11 ∷ 12 ∷ 13 ∷ 14 ∷ 15 ∷ []) ∷
    map place_of each_rule gives (0 ∷ 0 ∷ 0 ∷ 0 ∷ 0 ∷ 0 ∷ 2 ∷ 3 ∷ 4 ∷ 0 ∷ 0 ∷ 0 ∷ 0 ∷ 5 ∷ 6 ∷ []) ∷
    -- a C answer: number and place, 0 and 0 where the call answers, then the values, or as many zeros
    fields 1 (answered (5 ∷ [])) gives (0 ∷ 0 ∷ 5 ∷ []) ∷
    fields 1 (refused 7 2) gives (7 ∷ 2 ∷ 0 ∷ []) ∷
    fields 2 (answered (3 ∷ 2 ∷ [])) gives (0 ∷ 0 ∷ 3 ∷ 2 ∷ []) ∷
    fields 2 (refused 14 5) gives (14 ∷ 5 ∷ 0 ∷ 0 ∷ []) ∷
    fields 4 (answered (3 ∷ 15 ∷ 2 ∷ 4 ∷ [])) gives (0 ∷ 0 ∷ 3 ∷ 15 ∷ 2 ∷ 4 ∷ []) ∷
    fields 4 (refused 7 2) gives (7 ∷ 2 ∷ 0 ∷ 0 ∷ 0 ∷ 0 ∷ []) ∷
    -- line 0 is bit 0, line 31 bit 31
    (bit 1 0 ∷ bit 1 1 ∷ bit 2147483648 31 ∷ bit 2147483648 30 ∷ []) gives (1 ∷ 0 ∷ 1 ∷ 0 ∷ []) ∷
    (flip 0 0 ∷ flip 0 31 ∷ flip 4294967295 31 ∷ []) gives (1 ∷ 2147483648 ∷ 2147483647 ∷ []) ∷
    (force 5 0 0 ∷ force 5 0 1 ∷ force 5 1 0 ∷ force 5 1 1 ∷ []) gives (4 ∷ 5 ∷ 5 ∷ 7 ∷ []) ∷
    (all_ones 1 ∷ all_ones 31 ∷ all_ones 32 ∷ []) gives (1 ∷ 2147483647 ∷ 4294967295 ∷ []) ∷
    (inverse 3 5 ∷ inverse 32 5 ∷ []) gives (2 ∷ 4294967290 ∷ []) ∷
    lines_on 3 5 gives (0 ∷ 2 ∷ []) ∷
    lines_on 32 2147483649 gives (0 ∷ 31 ∷ []) ∷
    (length (lines_on 32 0) ∷ length (lines_on 32 2147483649) ∷ length (lines_on 32 4294967295) ∷ []) gives (0 ∷ 2 ∷ 32 ∷ []) ∷
    -- what a state lacks of a mask, and the one line that it lacks, also line 31
    (lacking 6 5 ∷ lacking 4294967295 1 ∷ []) gives (2 ∷ 4294967294 ∷ []) ∷
    (lone_zero 6 5 ∷ lone_zero 6 0 ∷ lone_zero 6 6 ∷ lone_zero 4294967295 2147483647 ∷ []) gives (2 ∷ 0 ∷ 0 ∷ 2147483648 ∷ []) ∷ []
