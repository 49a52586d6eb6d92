-- A circuit as a text of the .real form, byte for byte, and the export's rules.
use Rattle.std.specs.Prelude.{ℕ, List, [], ◌∷◌, ◌++◌, replicate}
use Rattle.refusals.specs.Tables.{Told}
use Rattle.refusals.specs.Tables.Told.{answered, refused}
use Rattle.text.specs.Texts.{ascii}
use Rattle.proved_samples.specs.Sample.{sample_words}
use Rattle.borders.specs.Rows.{Row}
use Rattle.borders.specs.Rows.Row.{◌tells◌, ◌gives◌}
use Rattle.real.specs.Export.{real_text}
use Rattle.real_export.specs.Promises.{export_tells, export_leaves}
use Rattle.real_import.specs.Promises.{import_tells, import_leaves}

-- a circuit written into room for any text of so few gates
abbrev pub exported : ℕ → List ℕ → Told
exported n words = export_tells n words (replicate 300 9)

-- the text of the sample circuit
abbrev pub sample_text : List ℕ
sample_text = ascii ".version 1.0\n.numvars 3\n.variables x0 x1 x2\n.begin\nt3 x0 x1 x2\nt2 x0 x1\n.end\n"

unfoldable pub export_table : List Row
export_table =
    -- the text, then the old contents; rule 10: room for the text; a refusal leaves all
    export_tells 3 sample_words (replicate 76 9) tells refused 10 0 ∷
    export_tells 3 sample_words (replicate 77 9) tells answered (77 ∷ []) ∷
    export_leaves 3 sample_words (replicate 77 9) gives sample_text ∷
    export_leaves 3 sample_words (replicate 79 9) gives (sample_text ++ (9 ∷ 9 ∷ [])) ∷
    export_leaves 3 sample_words (replicate 76 9) gives replicate 76 9 ∷
    export_tells 1 [] (replicate 49 9) tells refused 10 0 ∷
    export_tells 1 [] (replicate 50 9) tells answered (50 ∷ []) ∷
    -- no gates, no controls, controls rising, numbers of two digits
    real_text 1 [] gives ascii ".version 1.0\n.numvars 1\n.variables x0\n.begin\n.end\n" ∷
    real_text 2 (0 ∷ 0 ∷ 1 ∷ []) gives ascii ".version 1.0\n.numvars 2\n.variables x0 x1\n.begin\nt1 x1\n.end\n" ∷
    real_text 4 (13 ∷ 0 ∷ 1 ∷ []) gives ascii ".version 1.0\n.numvars 4\n.variables x0 x1 x2 x3\n.begin\nt4 x0 x2 x3 x1\n.end\n" ∷
    real_text 11 (2046 ∷ 0 ∷ 0 ∷ [])
    gives ascii ".version 1.0\n.numvars 11\n.variables x0 x1 x2 x3 x4 x5 x6 x7 x8 x9 x10\n.begin\nt11 x1 x2 x3 x4 x5 x6 x7 x8 x9 x10 x0\n.end\n" ∷
    -- what is written is read again
    import_tells sample_text (replicate 6 9) tells answered (3 ∷ 2 ∷ []) ∷
    import_leaves sample_text (replicate 6 9) gives sample_words ∷
    import_leaves (real_text 32 (2147483648 ∷ 0 ∷ 0 ∷ 1 ∷ 0 ∷ 31 ∷ [])) (replicate 6 9) gives (2147483648 ∷ 0 ∷ 0 ∷ 1 ∷ 0 ∷ 31 ∷ []) ∷
    -- rule 3: 1 to 32 lines
    exported 0 [] tells refused 3 0 ∷
    exported 1 [] tells answered (50 ∷ []) ∷
    exported 32 [] tells answered (166 ∷ []) ∷
    exported 33 [] tells refused 3 0 ∷
    -- rule 7: the first bad gate, from 1; words left over are one more
    exported 3 (4 ∷ 0 ∷ 0 ∷ []) tells answered (65 ∷ []) ∷
    exported 3 (8 ∷ 0 ∷ 0 ∷ []) tells refused 7 1 ∷
    exported 3 (0 ∷ 1 ∷ 0 ∷ []) tells refused 7 1 ∷
    exported 3 (0 ∷ 0 ∷ 3 ∷ []) tells refused 7 1 ∷
    exported 3 (3 ∷ 0 ∷ 2 ∷ 2 ∷ 0 ∷ 1 ∷ 8 ∷ 0 ∷ 0 ∷ []) tells refused 7 2 ∷
    exported 3 (3 ∷ 0 ∷ 2 ∷ 1 ∷ []) tells refused 7 2 ∷
    exported 3 (3 ∷ 0 ∷ 2 ∷ 1 ∷ 0 ∷ []) tells refused 7 2 ∷
    -- 3 before 7 and 10, 7 before 10
    exported 33 (0 ∷ 1 ∷ 0 ∷ []) tells refused 3 0 ∷
    export_tells 33 [] [] tells refused 3 0 ∷
    export_tells 3 (0 ∷ 1 ∷ 0 ∷ []) [] tells refused 7 1 ∷ []
