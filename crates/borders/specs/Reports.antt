-- The report's text byte for byte, letter by letter, and its one rule. A blank is 32, LF is 10, the digit 0 is 48.
use Rattle.std.specs.Prelude.{ℕ, List, [], ◌∷◌, ◌++◌, take, replicate}
use Rattle.refusals.specs.Tables.Told.{answered, refused}
use Rattle.text.specs.Decimal.{decimal}
use Rattle.report_text.specs.Report.{report_text, refused_text}
use Rattle.borders.specs.Rows.{Row}
use Rattle.borders.specs.Rows.Row.{◌tells◌, ◌gives◌}
use Rattle.report_text.specs.Promises.{report_tells, report_leaves}
use Rattle.borders.specs.Images.{job, bare_job, ◌but◌is◌}

-- the lines of the report on the sample job

-- J 3 2 3
abbrev pub line_j : List ℕ
line_j = 74 ∷ 32 ∷ 51 ∷ 32 ∷ 50 ∷ 32 ∷ 51 ∷ 10 ∷ []

-- S 16 16 ok
abbrev pub line_s : List ℕ
line_s = 83 ∷ 32 ∷ 49 ∷ 54 ∷ 32 ∷ 49 ∷ 54 ∷ 32 ∷ 111 ∷ 107 ∷ 10 ∷ []

-- M 2 2 ok
abbrev pub line_m : List ℕ
line_m = 77 ∷ 32 ∷ 50 ∷ 32 ∷ 50 ∷ 32 ∷ 111 ∷ 107 ∷ 10 ∷ []

-- C 2 3 1 0
abbrev pub line_c : List ℕ
line_c = 67 ∷ 32 ∷ 50 ∷ 32 ∷ 51 ∷ 32 ∷ 49 ∷ 32 ∷ 48 ∷ 10 ∷ []

-- X 0 1 2 2
abbrev pub line_x : List ℕ
line_x = 88 ∷ 32 ∷ 48 ∷ 32 ∷ 49 ∷ 32 ∷ 50 ∷ 32 ∷ 50 ∷ 10 ∷ []

-- the line of a refused job, by the digits of its number and its place
abbrev pub line_e : ℕ → ℕ → List ℕ
line_e number place = 69 ∷ 32 ∷ number ∷ 32 ∷ place ∷ 10 ∷ []

unfoldable pub report_table : List Row
report_table =
    report_text job gives (line_j ++ (line_s ++ (line_m ++ (line_c ++ line_x)))) ∷
    -- the classes wanted, bit 0 for class 1 up to bit 3 for class 4, in code order
    report_text (job but 4 is 1) gives (line_j ++ line_s) ∷
    report_text (job but 4 is 2) gives (line_j ++ line_m) ∷
    report_text (job but 4 is 4) gives (line_j ++ line_c) ∷
    report_text (job but 4 is 8) gives (line_j ++ line_x) ∷
    report_text (job but 4 is 5) gives (line_j ++ (line_s ++ line_c)) ∷
    report_text (job but 4 is 10) gives (line_j ++ (line_m ++ line_x)) ∷
    -- vectors 7, 1 and 1, and the first uncaught fault by level, line and value: S 12 16 0 0 1
    report_text (job but 52 is 7 but 56 is 1 but 60 is 1 but 4 is 1)
    gives (line_j ++ (83 ∷ 32 ∷ 49 ∷ 50 ∷ 32 ∷ 49 ∷ 54 ∷ 32 ∷ 48 ∷ 32 ∷ 48 ∷ 32 ∷ 49 ∷ 10 ∷ [])) ∷
    -- vectors 0, 7 and 7: S 14 16 1 2 0; vectors 0, 7 and 3: S 15 16 2 1 0
    report_text (job but 56 is 7 but 60 is 7 but 4 is 1)
    gives (line_j ++ (83 ∷ 32 ∷ 49 ∷ 52 ∷ 32 ∷ 49 ∷ 54 ∷ 32 ∷ 49 ∷ 32 ∷ 50 ∷ 32 ∷ 48 ∷ 10 ∷ [])) ∷
    report_text (job but 56 is 7 but 60 is 3 but 4 is 1)
    gives (line_j ++ (83 ∷ 32 ∷ 49 ∷ 53 ∷ 32 ∷ 49 ∷ 54 ∷ 32 ∷ 50 ∷ 32 ∷ 49 ∷ 32 ∷ 48 ∷ 10 ∷ [])) ∷
    -- gate 2 without its control: S 14 14 ok; both gates without controls: S 10 10 ok
    report_text (job but 40 is 0 but 4 is 1) gives (line_j ++ (83 ∷ 32 ∷ 49 ∷ 52 ∷ 32 ∷ 49 ∷ 52 ∷ 32 ∷ 111 ∷ 107 ∷ 10 ∷ [])) ∷
    report_text (job but 28 is 0 but 40 is 0 but 4 is 1)
    gives (line_j ++ (83 ∷ 32 ∷ 49 ∷ 48 ∷ 32 ∷ 49 ∷ 48 ∷ 32 ∷ 111 ∷ 107 ∷ 10 ∷ [])) ∷
    -- vectors 1, 1 and 1, and the first uncaught by gate: M 1 2 1, then X 1 1 ok
    report_text (job but 52 is 1 but 56 is 1 but 60 is 1 but 4 is 10)
    gives (line_j ++ (77 ∷ 32 ∷ 49 ∷ 32 ∷ 50 ∷ 32 ∷ 49 ∷ 10 ∷ 88 ∷ 32 ∷ 49 ∷ 32 ∷ 49 ∷ 32 ∷ 111 ∷ 107 ∷ 10 ∷ [])) ∷
    -- no gates, no vectors: J 3 0 0, S 0 6 0 0 0, M 0 0 ok, C 0 0 ok, X 0 0 ok
    report_text bare_job gives (
    74 ∷ 32 ∷ 51 ∷ 32 ∷ 48 ∷ 32 ∷ 48 ∷ 10 ∷ 83 ∷ 32 ∷ 48 ∷ 32 ∷ 54 ∷ 32 ∷ 48 ∷ 32 ∷ 48 ∷ 32 ∷ 48 ∷ 10 ∷
    77 ∷ 32 ∷ 48 ∷ 32 ∷ 48 ∷ 32 ∷ 111 ∷ 107 ∷ 10 ∷ 67 ∷ 32 ∷ 48 ∷ 32 ∷ 48 ∷ 32 ∷ 111 ∷ 107 ∷ 10 ∷
    88 ∷ 32 ∷ 48 ∷ 32 ∷ 48 ∷ 32 ∷ 111 ∷ 107 ∷ 10 ∷ []) ∷
    -- a number of two digits: J 32 0 0, M 0 0 ok
    report_text (bare_job but 2 is 32 but 4 is 2) gives (
    74 ∷ 32 ∷ 51 ∷ 50 ∷ 32 ∷ 48 ∷ 32 ∷ 48 ∷ 10 ∷ 77 ∷ 32 ∷ 48 ∷ 32 ∷ 48 ∷ 32 ∷ 111 ∷ 107 ∷ 10 ∷ []) ∷
    -- a refused job: E, the number and the place, for each rule
    report_text [] gives line_e 49 48 ∷
    report_text (take 27 job) gives line_e 49 48 ∷
    report_text (job but 0 is 2) gives line_e 50 48 ∷
    report_text (job but 2 is 33) gives line_e 51 48 ∷
    report_text (job but 4 is 16) gives line_e 52 48 ∷
    report_text (job but 10 is 1) gives line_e 53 48 ∷
    report_text (job ++ (0 ∷ [])) gives line_e 54 48 ∷
    report_text (job but 44 is 1) gives line_e 55 50 ∷
    report_text (job but 60 is 8) gives line_e 56 51 ∷
    -- E 10 12, E 9 1024
    refused_text 10 12 gives (69 ∷ 32 ∷ 49 ∷ 48 ∷ 32 ∷ 49 ∷ 50 ∷ 10 ∷ []) ∷
    refused_text 9 1024 gives (69 ∷ 32 ∷ 57 ∷ 32 ∷ 49 ∷ 48 ∷ 50 ∷ 52 ∷ 10 ∷ []) ∷
    -- numbers in decimal, with no zero in front
    decimal 0 gives (48 ∷ []) ∷
    decimal 9 gives (57 ∷ []) ∷
    decimal 10 gives (49 ∷ 48 ∷ []) ∷
    decimal 99 gives (57 ∷ 57 ∷ []) ∷
    decimal 100 gives (49 ∷ 48 ∷ 48 ∷ []) ∷
    decimal 65600 gives (54 ∷ 53 ∷ 54 ∷ 48 ∷ 48 ∷ []) ∷
    -- rule 10: room for the text; what lies beyond keeps its contents, and a refusal leaves all
    report_tells job (replicate 47 9) tells refused 10 0 ∷
    report_tells job (replicate 48 9) tells answered (48 ∷ []) ∷
    report_tells [] (replicate 5 9) tells refused 10 0 ∷
    report_tells [] (replicate 6 9) tells answered (6 ∷ []) ∷
    report_leaves job (replicate 47 9) gives replicate 47 9 ∷
    report_leaves job (replicate 50 9) gives (line_j ++ (line_s ++ (line_m ++ (line_c ++ (line_x ++ (9 ∷ 9 ∷ [])))))) ∷
    report_leaves [] (replicate 8 9) gives (69 ∷ 32 ∷ 49 ∷ 32 ∷ 48 ∷ 10 ∷ 9 ∷ 9 ∷ []) ∷ []
