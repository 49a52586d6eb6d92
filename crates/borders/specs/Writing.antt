-- Writing a job: the image byte for byte, rules 3, 4, 7, 8 and 10 at their borders, and what the lent bytes hold after.
use Rattle.std.specs.Prelude.{ℕ, List, [], ◌∷◌, ◌++◌, replicate}
use Rattle.refusals.specs.Tables.Told.{answered, refused}
use Rattle.job.specs.Image.{HeaderRow, header}
use Rattle.job.specs.Image.HeaderRow.{byte◌wide◌holds◌}
use Rattle.proved_samples.specs.Sample.{sample_words}
use Rattle.borders.specs.Rows.{Row}
use Rattle.borders.specs.Rows.Row.{◌tells◌, ◌gives◌}
use Rattle.job.specs.Promises.{write_tells, write_leaves}
use Rattle.borders.specs.Images.{job, bare_job}

-- a header's fields: where each stands, how wide it is and what it holds
abbrev pub fields_of : List HeaderRow → List ℕ
fields_of [] = []
fields_of (byte at wide width holds value ∷ rest) = at ∷ width ∷ value ∷ fields_of rest

unfoldable pub write_table : List Row
write_table =
    -- the image, then the old contents; rule 10: room for the image; a refusal leaves all
    write_tells 3 15 sample_words (0 ∷ 3 ∷ 5 ∷ []) (replicate 63 9) tells refused 10 0 ∷
    write_tells 3 15 sample_words (0 ∷ 3 ∷ 5 ∷ []) (replicate 64 9) tells answered (64 ∷ []) ∷
    write_leaves 3 15 sample_words (0 ∷ 3 ∷ 5 ∷ []) (replicate 64 9) gives job ∷
    write_leaves 3 15 sample_words (0 ∷ 3 ∷ 5 ∷ []) (replicate 66 9) gives (job ++ (9 ∷ 9 ∷ [])) ∷
    write_leaves 3 15 sample_words (0 ∷ 3 ∷ 5 ∷ []) (replicate 63 9) gives replicate 63 9 ∷
    write_tells 3 15 [] [] (replicate 27 9) tells refused 10 0 ∷
    write_tells 3 15 [] [] (replicate 28 9) tells answered (28 ∷ []) ∷
    write_leaves 3 15 [] [] (replicate 28 9) gives bare_job ∷
    -- form, lines, classes, nothing, gates, vectors, offset of gates, offset of vectors, length of all
    fields_of (header 3 15 2 4) gives (
    0 ∷ 2 ∷ 1 ∷ 2 ∷ 2 ∷ 3 ∷ 4 ∷ 2 ∷ 15 ∷ 6 ∷ 2 ∷ 0 ∷ 8 ∷ 4 ∷ 2 ∷ 12 ∷ 4 ∷ 4 ∷ 16 ∷ 4 ∷ 28 ∷ 20 ∷ 4 ∷ 52 ∷ 24 ∷ 4 ∷ 68 ∷ []) ∷
    -- a word is four bytes, the lowest first
    write_leaves 32 1 (67305985 ∷ 0 ∷ 2 ∷ []) (4244504319 ∷ []) (replicate 44 9) gives (
    1 ∷ 0 ∷ 32 ∷ 0 ∷ 1 ∷ 0 ∷ 0 ∷ 0 ∷ 1 ∷ 0 ∷ 0 ∷ 0 ∷ 1 ∷ 0 ∷ 0 ∷ 0 ∷ 28 ∷ 0 ∷ 0 ∷ 0 ∷ 40 ∷ 0 ∷ 0 ∷ 0 ∷ 44 ∷ 0 ∷ 0 ∷ 0 ∷
    1 ∷ 2 ∷ 3 ∷ 4 ∷ 0 ∷ 0 ∷ 0 ∷ 0 ∷ 2 ∷ 0 ∷ 0 ∷ 0 ∷ 255 ∷ 254 ∷ 253 ∷ 252 ∷ []) ∷
    -- rule 3: lines 1 to 32
    write_tells 0 15 [] [] (replicate 28 9) tells refused 3 0 ∷
    write_tells 1 15 [] [] (replicate 28 9) tells answered (28 ∷ []) ∷
    write_tells 32 15 [] [] (replicate 28 9) tells answered (28 ∷ []) ∷
    write_tells 33 15 [] [] (replicate 28 9) tells refused 3 0 ∷
    -- rule 4: classes 1 to 15
    write_tells 3 0 [] [] (replicate 28 9) tells refused 4 0 ∷
    write_tells 3 1 [] [] (replicate 28 9) tells answered (28 ∷ []) ∷
    write_tells 3 16 [] [] (replicate 28 9) tells refused 4 0 ∷
    -- rule 7: the first bad gate, from 1; words left over are one more
    write_tells 3 15 (3 ∷ 0 ∷ 2 ∷ 1 ∷ 1 ∷ 1 ∷ 8 ∷ 0 ∷ 0 ∷ []) [] (replicate 64 9) tells refused 7 2 ∷
    write_tells 3 15 (3 ∷ 0 ∷ 2 ∷ 1 ∷ []) [] (replicate 64 9) tells refused 7 2 ∷
    write_tells 3 15 (3 ∷ 0 ∷ 2 ∷ 1 ∷ 0 ∷ []) [] (replicate 64 9) tells refused 7 2 ∷
    -- rule 8: the first vector of 2^n or more, from 1
    write_tells 3 15 sample_words (0 ∷ 7 ∷ []) (replicate 64 9) tells answered (60 ∷ []) ∷
    write_tells 3 15 sample_words (0 ∷ 8 ∷ 9 ∷ []) (replicate 64 9) tells refused 8 2 ∷ []
