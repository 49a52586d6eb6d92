-- Where two rules are broken by one job, the earlier is told: by number, but 10 last of all. Every pair that a job can have.
use Rattle.std.specs.Prelude.{List, [], ◌∷◌, ◌++◌, replicate, take}
use Rattle.refusals.specs.Tables.Told.{refused}
use Rattle.borders.specs.Rows.{Row}
use Rattle.borders.specs.Rows.Row.{◌tells◌}
use Rattle.job.specs.Promises.{read_tells, write_tells}
use Rattle.borders.specs.Images.{job, ◌but◌is◌, header_of}
use Rattle.borders.specs.Reading.{read}
use Rattle.borders.specs.Orders.{many, bad, many_bad}

-- rule 1 is broken by 27 bytes, 2 by form 2, 3 by 33 lines or none, 4 by classes 16, 5 by a high byte of the gates, 6 by offset 27,
-- 7 by a spare of 1, 8 by vector 8 of 3 lines, and 10 by no room
unfoldable pub job_order_table : List Row
job_order_table =
    read (take 27 (job but 0 is 2)) tells refused 1 0 ∷
    read (take 27 (job but 2 is 33)) tells refused 1 0 ∷
    read (take 27 (job but 4 is 16)) tells refused 1 0 ∷
    read (take 27 (job but 10 is 1)) tells refused 1 0 ∷
    read (take 27 (job but 16 is 27)) tells refused 1 0 ∷
    read (take 27 (job but 2 is 0)) tells refused 1 0 ∷
    read_tells (take 27 job) [] [] tells refused 1 0 ∷
    read (job but 0 is 2 but 2 is 33) tells refused 2 0 ∷
    read (job but 0 is 2 but 4 is 16) tells refused 2 0 ∷
    read (job but 0 is 2 but 10 is 1) tells refused 2 0 ∷
    read (job but 0 is 2 but 16 is 27) tells refused 2 0 ∷
    read (job but 0 is 2 but 32 is 1) tells refused 2 0 ∷
    read (job but 0 is 2 but 60 is 8) tells refused 2 0 ∷
    read_tells (job but 0 is 2) [] [] tells refused 2 0 ∷
    read (job but 2 is 33 but 4 is 16) tells refused 3 0 ∷
    read (job but 2 is 33 but 10 is 1) tells refused 3 0 ∷
    read (job but 2 is 33 but 16 is 27) tells refused 3 0 ∷
    read (job but 2 is 33 but 32 is 1) tells refused 3 0 ∷
    read (job but 2 is 0) tells refused 3 0 ∷
    read_tells (job but 2 is 33) [] [] tells refused 3 0 ∷
    read (job but 4 is 16 but 10 is 1) tells refused 4 0 ∷
    read (job but 6 is 1 but 10 is 1) tells refused 4 0 ∷
    read (job but 4 is 16 but 16 is 27) tells refused 4 0 ∷
    read (job but 4 is 16 but 32 is 1) tells refused 4 0 ∷
    read (job but 4 is 16 but 60 is 8) tells refused 4 0 ∷
    read_tells (job but 4 is 16) [] [] tells refused 4 0 ∷
    read (job but 10 is 1 but 16 is 27) tells refused 5 0 ∷
    read (header_of 1 4 0 0 40 48 40 48 ++ replicate 12300 1) tells refused 5 0 ∷
    read (header_of 0 0 1 8 28 0 32 32 ++ replicate 8196 1) tells refused 5 0 ∷
    read_tells (job but 10 is 1) [] [] tells refused 5 0 ∷
    read (job but 16 is 27 but 32 is 1) tells refused 6 0 ∷
    read (job but 16 is 27 but 60 is 8) tells refused 6 0 ∷
    read_tells (job but 16 is 27) [] [] tells refused 6 0 ∷
    read (job but 32 is 1 but 60 is 8) tells refused 7 1 ∷
    read_tells (job but 32 is 1) [] [] tells refused 7 1 ∷
    read_tells (job but 60 is 8) [] [] tells refused 8 3 ∷
    -- a job written: 3 4 5 7 8 10
    write_tells 33 16 [] [] (replicate 28 9) tells refused 3 0 ∷
    write_tells 33 15 many [] (replicate 12328 9) tells refused 3 0 ∷
    write_tells 33 15 bad [] (replicate 40 9) tells refused 3 0 ∷
    write_tells 0 15 [] (1 ∷ []) (replicate 32 9) tells refused 3 0 ∷
    write_tells 33 15 [] [] [] tells refused 3 0 ∷
    write_tells 3 16 many [] (replicate 12328 9) tells refused 4 0 ∷
    write_tells 3 16 bad [] (replicate 40 9) tells refused 4 0 ∷
    write_tells 3 16 [] (8 ∷ []) (replicate 32 9) tells refused 4 0 ∷
    write_tells 3 16 [] [] [] tells refused 4 0 ∷
    write_tells 3 15 many_bad [] (replicate 12328 9) tells refused 5 0 ∷
    write_tells 3 15 [] (replicate 2049 8) (replicate 8224 9) tells refused 5 0 ∷
    write_tells 3 15 many [] [] tells refused 5 0 ∷
    write_tells 3 15 bad (8 ∷ []) (replicate 44 9) tells refused 7 1 ∷
    write_tells 3 15 bad [] [] tells refused 7 1 ∷
    write_tells 3 15 [] (8 ∷ []) [] tells refused 8 1 ∷ []
