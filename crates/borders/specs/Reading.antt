-- Reading a job: rules 1 to 8 and 10 at their borders, and what the lent lists hold after.
use Rattle.std.specs.Prelude.{ℕ, List, [], ◌∷◌, ◌++◌, replicate, take}
use Rattle.refusals.specs.Tables.{Told}
use Rattle.refusals.specs.Tables.Told.{answered, refused}
use Rattle.proved_samples.specs.Sample.{sample_job}
use Rattle.borders.specs.Rows.{Row}
use Rattle.borders.specs.Rows.Row.{◌tells◌, ◌gives◌}
use Rattle.job.specs.Promises.{read_tells, read_leaves_gates, read_leaves_vectors}
use Rattle.borders.specs.Images.{job, bare_job, ◌but◌is◌}

-- read into room for 6 words of gates and 3 vectors
abbrev pub read : List ℕ → Told
read bytes = read_tells bytes (replicate 6 9) (replicate 3 9)

unfoldable pub read_table : List Row
read_table =
    sample_job gives job ∷
    read job tells answered (3 ∷ 15 ∷ 2 ∷ 3 ∷ []) ∷
    -- rule 1: 28 bytes or more
    read [] tells refused 1 0 ∷
    read (take 27 bare_job) tells refused 1 0 ∷
    read bare_job tells answered (3 ∷ 15 ∷ 0 ∷ 0 ∷ []) ∷
    read (take 27 job) tells refused 1 0 ∷
    read (take 28 job) tells refused 6 0 ∷
    -- rule 2: form 1, in bytes 0 and 1
    read (job but 0 is 0) tells refused 2 0 ∷
    read (job but 0 is 2) tells refused 2 0 ∷
    read (job but 1 is 1) tells refused 2 0 ∷
    -- rule 3: lines 1 to 32, in bytes 2 and 3
    read (bare_job but 2 is 0) tells refused 3 0 ∷
    read (bare_job but 2 is 1) tells answered (1 ∷ 15 ∷ 0 ∷ 0 ∷ []) ∷
    read (job but 2 is 32) tells answered (32 ∷ 15 ∷ 2 ∷ 3 ∷ []) ∷
    read (job but 2 is 33) tells refused 3 0 ∷
    read (job but 3 is 1) tells refused 3 0 ∷
    -- rule 4: classes 1 to 15, in bytes 4 and 5, and bytes 6 and 7 zero
    read (job but 4 is 0) tells refused 4 0 ∷
    read (job but 4 is 1) tells answered (3 ∷ 1 ∷ 2 ∷ 3 ∷ []) ∷
    read (job but 4 is 15) tells answered (3 ∷ 15 ∷ 2 ∷ 3 ∷ []) ∷
    read (job but 4 is 16) tells refused 4 0 ∷
    read (job but 5 is 1) tells refused 4 0 ∷
    read (job but 6 is 1) tells refused 4 0 ∷
    read (job but 7 is 1) tells refused 4 0 ∷
    -- rule 5: gates 0 to 1,024, in bytes 8 to 11, and vectors 0 to 2,048, in bytes 12 to 15
    read (job but 8 is 0 but 9 is 4) tells refused 6 0 ∷
    read (job but 8 is 1 but 9 is 4) tells refused 5 0 ∷
    read (job but 10 is 1) tells refused 5 0 ∷
    read (job but 11 is 1) tells refused 5 0 ∷
    read (job but 12 is 0 but 13 is 8) tells refused 6 0 ∷
    read (job but 12 is 1 but 13 is 8) tells refused 5 0 ∷
    read (job but 14 is 1) tells refused 5 0 ∷
    read (job but 15 is 1) tells refused 5 0 ∷
    -- rule 6: the offset of gates 28, of vectors 28 + 12d = 52, the length 28 + 12d + 4m = 64, and as many bytes lent
    read (job but 16 is 27) tells refused 6 0 ∷
    read (job but 16 is 29) tells refused 6 0 ∷
    read (job but 17 is 1) tells refused 6 0 ∷
    read (job but 18 is 1) tells refused 6 0 ∷
    read (job but 19 is 1) tells refused 6 0 ∷
    read (job but 20 is 51) tells refused 6 0 ∷
    read (job but 20 is 53) tells refused 6 0 ∷
    read (job but 21 is 1) tells refused 6 0 ∷
    read (job but 22 is 1) tells refused 6 0 ∷
    read (job but 23 is 1) tells refused 6 0 ∷
    read (job but 24 is 63) tells refused 6 0 ∷
    read (job but 24 is 65) tells refused 6 0 ∷
    read (job but 25 is 1) tells refused 6 0 ∷
    read (job but 26 is 1) tells refused 6 0 ∷
    read (job but 27 is 1) tells refused 6 0 ∷
    read (take 63 job) tells refused 6 0 ∷
    read (job ++ (0 ∷ [])) tells refused 6 0 ∷
    read (take 63 (job but 24 is 63)) tells refused 6 0 ∷
    read ((job but 24 is 65) ++ (0 ∷ [])) tells refused 6 0 ∷
    -- rule 7: the first bad gate, from 1; 12 bytes a gate, the controls from 28, the spare from 32, the target from 36
    read (job but 28 is 8) tells refused 7 1 ∷
    read (job but 31 is 1) tells refused 7 1 ∷
    read (job but 32 is 1) tells refused 7 1 ∷
    read (job but 35 is 1) tells refused 7 1 ∷
    read (job but 36 is 3) tells refused 7 1 ∷
    read (job but 36 is 0) tells refused 7 1 ∷
    read (job but 39 is 1) tells refused 7 1 ∷
    read (job but 40 is 8) tells refused 7 2 ∷
    read (job but 44 is 1) tells refused 7 2 ∷
    read (job but 48 is 3) tells refused 7 2 ∷
    read (job but 48 is 2) tells answered (3 ∷ 15 ∷ 2 ∷ 3 ∷ []) ∷
    read (job but 32 is 1 but 44 is 1) tells refused 7 1 ∷
    -- rule 8: the first vector of 2^n or more, from 1; 4 bytes a vector
    read (job but 52 is 7) tells answered (3 ∷ 15 ∷ 2 ∷ 3 ∷ []) ∷
    read (job but 52 is 8) tells refused 8 1 ∷
    read (job but 55 is 1) tells refused 8 1 ∷
    read (job but 56 is 8) tells refused 8 2 ∷
    read (job but 60 is 8) tells refused 8 3 ∷
    read (job but 63 is 1) tells refused 8 3 ∷
    read (job but 56 is 8 but 60 is 8) tells refused 8 2 ∷
    -- rule 10: room for d gates and m vectors
    read_tells job (replicate 5 9) (replicate 3 9) tells refused 10 0 ∷
    read_tells job (replicate 6 9) (replicate 2 9) tells refused 10 0 ∷
    read_tells bare_job [] [] tells answered (3 ∷ 15 ∷ 0 ∷ 0 ∷ []) ∷
    -- the lists after: what was read, then the old contents; a refusal leaves all
    read_leaves_gates job (replicate 6 9) (replicate 3 9) gives (3 ∷ 0 ∷ 2 ∷ 1 ∷ 0 ∷ 1 ∷ []) ∷
    read_leaves_gates job (replicate 7 9) (replicate 3 9) gives (3 ∷ 0 ∷ 2 ∷ 1 ∷ 0 ∷ 1 ∷ 9 ∷ []) ∷
    read_leaves_vectors job (replicate 6 9) (replicate 3 9) gives (0 ∷ 3 ∷ 5 ∷ []) ∷
    read_leaves_vectors job (replicate 6 9) (replicate 5 9) gives (0 ∷ 3 ∷ 5 ∷ 9 ∷ 9 ∷ []) ∷
    read_leaves_gates job (replicate 6 9) (replicate 2 9) gives (9 ∷ 9 ∷ 9 ∷ 9 ∷ 9 ∷ 9 ∷ []) ∷
    read_leaves_vectors job (replicate 5 9) (replicate 3 9) gives (9 ∷ 9 ∷ 9 ∷ []) ∷
    read_leaves_gates (job but 60 is 8) (replicate 6 9) (replicate 3 9) gives (9 ∷ 9 ∷ 9 ∷ 9 ∷ 9 ∷ 9 ∷ []) ∷
    read_leaves_vectors (job but 60 is 8) (replicate 6 9) (replicate 3 9) gives (9 ∷ 9 ∷ 9 ∷ []) ∷
    -- a word is four bytes, the lowest first
    read_leaves_gates (job but 2 is 32 but 28 is 1 but 29 is 2 but 30 is 3 but 31 is 4 but 36 is 2) (replicate 6 9) (replicate 3 9)
    gives (67305985 ∷ 0 ∷ 2 ∷ 1 ∷ 0 ∷ 1 ∷ []) ∷
    read_leaves_vectors (job but 2 is 32 but 52 is 255 but 53 is 254 but 54 is 253 but 55 is 252) (replicate 6 9) (replicate 3 9)
    gives (4244504319 ∷ 3 ∷ 5 ∷ []) ∷ []
