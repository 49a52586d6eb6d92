-- The .real form: each sentence of it kept and broken, with the line that is told, and what is stored; then the import's other rules.
use Rattle.std.specs.Prelude.{ℕ, List, [], ◌∷◌, ◌++◌, replicate}
use Prim.Native.String.{String}
use Rattle.refusals.specs.Tables.{Told}
use Rattle.refusals.specs.Tables.Told.{answered, refused}
use Rattle.text.specs.Texts.{ascii}
use Rattle.proved_samples.specs.Sample.{sample_words}
use Rattle.borders.specs.Rows.{Row}
use Rattle.borders.specs.Rows.Row.{◌tells◌, ◌gives◌}
use Rattle.real_import.specs.Promises.{import_tells, import_leaves}

-- a text read into room for two gates: what is told, and what the room holds after
abbrev pub imported : List ℕ → Told
imported text = import_tells text (replicate 6 9)

abbrev pub stored : List ℕ → List ℕ
stored text = import_leaves text (replicate 6 9)

-- the lines before .begin
abbrev pub headed : String → List ℕ
headed lines = ascii lines ++ ascii "\n.begin\n.end\n"

-- the lines between .variables and .begin, from line 4 on; the names are a and b
abbrev pub parts : String → List ℕ
parts lines = ascii ".version 1.0\n.numvars 2\n.variables a b\n" ++ (ascii lines ++ ascii "\n.begin\n.end\n")

-- the lines after .begin, from line 5 on
abbrev pub block : String → List ℕ
block lines = ascii ".version 1.0\n.numvars 2\n.variables a b\n.begin\n" ++ ascii lines

-- one of them, before .end
abbrev pub gate : String → List ℕ
gate line = block line ++ ascii "\n.end\n"

-- as many names as a circuit may have lines, less one, and a blank
abbrev pub names31 : List ℕ
names31 = ascii "a b c d e f g h i j k l m n o p q r s t u v w x y z A B C D E "

-- the names of line 3, by their number
abbrev pub naming : String → List ℕ → List ℕ
naming number names = ascii ".version\n.numvars " ++ (ascii number ++ (ascii "\n.variables " ++ (names ++ ascii "\n.begin\nt2 b a\n")))

unfoldable pub form_table : List Row
form_table =
    -- the sample circuit
    imported (ascii ".version 1.0\n.numvars 3\n.variables x0 x1 x2\n.begin\nt3 x0 x1 x2\nt2 x0 x1\n.end\n") tells answered (3 ∷ 2 ∷ []) ∷
    stored (ascii ".version 1.0\n.numvars 3\n.variables x0 x1 x2\n.begin\nt3 x0 x1 x2\nt2 x0 x1\n.end\n") gives sample_words ∷
    -- lines end with LF or CR LF; the last may lack its end; a CR elsewhere is a fault
    imported (ascii ".version 1.0\r\n.numvars 2\r\n.variables a b\r\n.begin\r\nt2 a b\r\n.end\r\n") tells answered (2 ∷ 1 ∷ []) ∷
    stored (ascii ".version 1.0\r\n.numvars 2\r\n.variables a b\r\n.begin\r\nt2 a b\r\n.end\r\n") gives (1 ∷ 0 ∷ 1 ∷ 9 ∷ 9 ∷ 9 ∷ []) ∷
    imported (block "t2 a b\n.end") tells answered (2 ∷ 1 ∷ []) ∷
    imported (block "t2 a b\n.end\r") tells refused 14 6 ∷
    imported (gate "t2 a b\r\r") tells refused 14 5 ∷
    imported (gate "t2 a\r b") tells refused 14 5 ∷
    imported (headed ".version\r.numvars 2\r.variables a b") tells refused 14 1 ∷
    -- words are parted by spaces and tabs, any number, also at the ends
    imported (block " \t t2\ta  b\t \r\n\t.end ") tells answered (2 ∷ 1 ∷ []) ∷
    imported (gate "t2 a\u{b}b") tells refused 14 5 ∷
    imported (gate "t2a b") tells refused 14 5 ∷
    -- blank lines and those that start with # are skipped, whatever bytes they have, and count
    imported (headed "\n \t\r\n#\0ÿ\r#\n\t#\n.version\n#\n.numvars 2\n.variables a b") tells answered (2 ∷ 0 ∷ []) ∷
    imported (block "#f2\n\nt2 a b\n \n # \u{80}\n.end\n\n\t\n#.end") tells answered (2 ∷ 1 ∷ []) ∷
    imported (block "#f2\n\nt2 a c\n.end\n") tells refused 14 7 ∷
    imported (gate "t2 a b #") tells refused 14 5 ∷
    -- in any other line all bytes are tabs, or 32 to 126
    imported (headed ".version\t !~\n.numvars 2\n.variables a b") tells answered (2 ∷ 0 ∷ []) ∷
    imported (headed ".version \u{8}\n.numvars 2\n.variables a b") tells refused 14 1 ∷
    imported (headed ".version \u{1f}\n.numvars 2\n.variables a b") tells refused 14 1 ∷
    imported (headed ".version \u{7f}\n.numvars 2\n.variables a b") tells refused 14 1 ∷
    imported (headed ".version ÿ\n.numvars 2\n.variables a b") tells refused 14 1 ∷
    -- .version, .numvars and .variables, each once and in this order
    imported (headed ".version\n.numvars 2\n.variables a b") tells answered (2 ∷ 0 ∷ []) ∷
    imported (headed ".numvars 2\n.variables a b") tells refused 14 1 ∷
    imported (headed ".version\n.variables a b") tells refused 14 2 ∷
    imported (headed ".version\n.numvars 2") tells refused 14 3 ∷
    imported (headed ".numvars 2\n.version\n.variables a b") tells refused 14 1 ∷
    imported (headed ".version\n.variables a b\n.numvars 2") tells refused 14 2 ∷
    imported (headed ".version\n.version\n.numvars 2\n.variables a b") tells refused 14 2 ∷
    imported (headed ".version\n.numvars 2\n.numvars 2\n.variables a b") tells refused 14 3 ∷
    imported (headed ".version\n.numvars 2\n.variables a b\n.variables a b") tells refused 14 4 ∷
    imported (headed ".Version\n.numvars 2\n.variables a b") tells refused 14 1 ∷
    imported (headed "version\n.numvars 2\n.variables a b") tells refused 14 1 ∷
    -- any words after .version, one number after .numvars
    imported (headed ".version 2.0 of today\n.numvars 2\n.variables a b") tells answered (2 ∷ 0 ∷ []) ∷
    imported (headed ".version\n.numvars\n.variables a b") tells refused 14 2 ∷
    imported (headed ".version\n.numvars 2 2\n.variables a b") tells refused 14 2 ∷
    imported (headed ".version\n.numvars b\n.variables a b") tells refused 14 2 ∷
    imported (headed ".version\n.numvars 2.\n.variables a b") tells refused 14 2 ∷
    imported (headed ".version\n.numvars 1/\n.variables a b") tells refused 14 2 ∷
    imported (headed ".version\n.numvars 1:\n.variables a b") tells refused 14 2 ∷
    -- with no zero in front, and of any length: it is told at the names where it is not their number
    imported (headed ".version\n.numvars 02\n.variables a b") tells refused 14 2 ∷
    imported (headed ".version\n.numvars 00\n.variables") tells refused 14 2 ∷
    imported (headed ".version\n.numvars 1\n.variables a b") tells refused 14 3 ∷
    imported (headed ".version\n.numvars 3\n.variables a b") tells refused 14 3 ∷
    imported (headed ".version\n.numvars 4294967298\n.variables a b") tells refused 14 3 ∷
    imported (headed ".version\n.numvars 18446744073709551618\n.variables a b") tells refused 14 3 ∷
    -- names are 1 to 8 letters, digits or underscores, all different; small and capital letters differ
    imported (headed ".version\n.numvars 5\n.variables aA_zZ 09 a A abcdefgh") tells answered (5 ∷ 0 ∷ []) ∷
    imported (headed ".version\n.numvars 2\n.variables a abcdefghi") tells refused 14 3 ∷
    imported (headed ".version\n.numvars 2\n.variables a a") tells refused 14 3 ∷
    imported (headed ".version\n.numvars 2\n.variables a b/") tells refused 14 3 ∷
    imported (headed ".version\n.numvars 2\n.variables a b:") tells refused 14 3 ∷
    imported (headed ".version\n.numvars 2\n.variables a b@") tells refused 14 3 ∷
    imported (headed ".version\n.numvars 2\n.variables a b[") tells refused 14 3 ∷
    imported (headed ".version\n.numvars 2\n.variables a b^") tells refused 14 3 ∷
    imported (headed ".version\n.numvars 2\n.variables a b`") tells refused 14 3 ∷
    imported (headed ".version\n.numvars 2\n.variables a b{") tells refused 14 3 ∷
    -- the optional parts, each at most once and in any order; any words after three of them
    imported (parts ".inputs 0 1\n.outputs ?\n.garbage -\n.constants --") tells answered (2 ∷ 0 ∷ []) ∷
    imported (parts ".constants --\n.garbage\n.outputs\n.inputs") tells answered (2 ∷ 0 ∷ []) ∷
    imported (parts ".garbage") tells answered (2 ∷ 0 ∷ []) ∷
    imported (parts ".inputs\n.inputs") tells refused 14 5 ∷
    imported (parts ".outputs\n.inputs\n.outputs") tells refused 14 6 ∷
    imported (parts ".garbage\n#\n.garbage") tells refused 14 6 ∷
    imported (parts ".constants --\n.constants --") tells refused 14 5 ∷
    imported (parts ".define") tells refused 14 4 ∷
    imported (parts "inputs") tells refused 14 4 ∷
    imported (headed ".version\n.numvars 2\n.inputs\n.variables a b") tells refused 14 3 ∷
    imported (gate ".inputs") tells refused 14 5 ∷
    -- one word of a hyphen for each line of the circuit
    imported (parts ".constants --") tells answered (2 ∷ 0 ∷ []) ∷
    imported (parts ".constants -") tells refused 14 4 ∷
    imported (parts ".constants ---") tells refused 14 4 ∷
    imported (parts ".constants - -") tells refused 14 4 ∷
    imported (parts ".constants -- --") tells refused 14 4 ∷
    imported (parts ".constants") tells refused 14 4 ∷
    imported (headed ".version\n.numvars 0\n.variables\n.constants") tells refused 14 4 ∷
    imported (parts ".constants -0") tells refused 14 4 ∷
    imported (parts ".constants 1-") tells refused 14 4 ∷
    -- .begin and .end stand alone and once; nothing follows
    imported (block ".end") tells answered (2 ∷ 0 ∷ []) ∷
    imported (parts ".begin now") tells refused 14 4 ∷
    imported (parts "t2 a b") tells refused 14 4 ∷
    imported (gate ".begin") tells refused 14 5 ∷
    imported (block "t2 a b\n.end now\n") tells refused 14 6 ∷
    imported (block "t2 a b\n.end\n.end\n") tells refused 14 7 ∷
    imported (block ".end\nt2 a b\n") tells refused 14 6 ∷
    -- where .end is missing, the line after the last; of an empty text line 1
    imported (block "t2 a b\n") tells refused 14 6 ∷
    imported (block "t2 a b") tells refused 14 6 ∷
    imported (block "") tells refused 14 5 ∷
    imported (block "\n\n") tells refused 14 7 ∷
    imported (ascii ".version\n.numvars 2\n") tells refused 14 3 ∷
    imported [] tells refused 14 1 ∷
    imported (ascii "\n") tells refused 14 2 ∷ []

unfoldable pub gate_table : List Row
gate_table =
    -- the first name is line 0; the target is named last, the controls in any order
    stored (gate "t1 a") gives (0 ∷ 0 ∷ 0 ∷ 9 ∷ 9 ∷ 9 ∷ []) ∷
    stored (gate "t1 b") gives (0 ∷ 0 ∷ 1 ∷ 9 ∷ 9 ∷ 9 ∷ []) ∷
    stored (gate "t2 a b") gives (1 ∷ 0 ∷ 1 ∷ 9 ∷ 9 ∷ 9 ∷ []) ∷
    stored (gate "t2 b a\nt1 b") gives (2 ∷ 0 ∷ 0 ∷ 0 ∷ 0 ∷ 1 ∷ []) ∷
    stored (naming "4" (ascii "c b a d") ++ ascii "t4 c d a b\n.end") gives (2 ∷ 0 ∷ 2 ∷ 13 ∷ 0 ∷ 1 ∷ []) ∷
    -- t, the number of names, 1 or more, with no zero in front
    imported (gate "t1 b") tells answered (2 ∷ 1 ∷ []) ∷
    imported (gate "t a") tells refused 14 5 ∷
    imported (gate "t") tells refused 14 5 ∷
    imported (gate "t0") tells refused 14 5 ∷
    imported (gate "t0 a") tells refused 14 5 ∷
    imported (gate "t1") tells refused 14 5 ∷
    imported (gate "t1 a b") tells refused 14 5 ∷
    imported (gate "t3 a b") tells refused 14 5 ∷
    imported (gate "t02 a b") tells refused 14 5 ∷
    imported (gate "t2t a b") tells refused 14 5 ∷
    imported (gate "2t a b") tells refused 14 5 ∷
    imported (gate "2 a b") tells refused 14 5 ∷
    imported (gate "t18446744073709551618 a b") tells refused 14 5 ∷
    imported (naming "10" (ascii "a b c d e f g h i j") ++ ascii "t10 a b c d e f g h i j\n.end") tells answered (10 ∷ 2 ∷ []) ∷
    -- names that are declared, no control twice
    imported (gate "t2 a c") tells refused 14 5 ∷
    imported (gate "t2 c a") tells refused 14 5 ∷
    imported (gate "t1 B") tells refused 14 5 ∷
    imported (gate "t1 bb") tells refused 14 5 ∷
    imported (gate "t3 a a b") tells refused 14 5 ∷
    imported (gate "t2 a b\nt3 b b a") tells refused 14 6 ∷
    -- 15: another letter than t where a gate is due, whatever else is in the line
    imported (gate "f2 a b") tells refused 15 5 ∷
    imported (gate "T2 a b") tells refused 15 5 ∷
    imported (gate "s2 a b") tells refused 15 5 ∷
    imported (gate "u2 a b") tells refused 15 5 ∷
    imported (gate "A") tells refused 15 5 ∷
    imported (gate "Z") tells refused 15 5 ∷
    imported (gate " a") tells refused 15 5 ∷
    imported (gate "z c\rÿ") tells refused 15 5 ∷
    imported (gate "@") tells refused 14 5 ∷
    imported (gate "[") tells refused 14 5 ∷
    imported (gate "`") tells refused 14 5 ∷
    imported (gate "{") tells refused 14 5 ∷
    imported (gate "_") tells refused 14 5 ∷
    imported (gate "t2 a b\n\nv a b") tells refused 15 7 ∷
    imported (parts "f2 a b") tells refused 14 4 ∷
    imported (block ".end\nf2 a b") tells refused 14 6 ∷
    -- the first faulty line decides
    imported (gate "t2 a c\nf2 a b") tells refused 14 5 ∷
    imported (gate "f2 a b\nt2 a c") tells refused 15 5 ∷
    imported (gate "t2 a c\nt2 a c") tells refused 14 5 ∷
    imported (block "f2 a b") tells refused 15 5 ∷
    imported (headed ".version 1.0\n.numvars b\n.variables a a") tells refused 14 2 ∷
    -- rule 3: 1 to 32 lines
    imported (ascii ".version\n.numvars 0\n.variables\n.begin\n.end") tells refused 3 0 ∷
    imported (ascii ".version\n.numvars 1\n.variables a\n.begin\nt1 a\n.end") tells answered (1 ∷ 1 ∷ []) ∷
    imported (naming "32" (names31 ++ ascii "F") ++ ascii "t2 F a\n.end") tells answered (32 ∷ 2 ∷ []) ∷
    stored (naming "32" (names31 ++ ascii "F") ++ ascii "t2 F a\n.end") gives (2 ∷ 0 ∷ 0 ∷ 2147483648 ∷ 0 ∷ 0 ∷ []) ∷
    imported (naming "33" (names31 ++ ascii "F G") ++ ascii "t2 G a\n.end") tells refused 3 0 ∷
    -- rule 7: a target among its controls, by the gate's number
    imported (gate "t2 b b") tells refused 7 1 ∷
    imported (gate "t3 a b a") tells refused 7 1 ∷
    imported (gate "#\nt2 a b\n\nt2 b b") tells refused 7 2 ∷
    -- rule 10: room for the gates; a refusal leaves all
    import_tells (gate "t2 a b\nt1 b") (replicate 6 9) tells answered (2 ∷ 2 ∷ []) ∷
    import_tells (gate "t2 a b\nt1 b") (replicate 5 9) tells refused 10 0 ∷
    import_tells (gate "t2 a b") (replicate 2 9) tells refused 10 0 ∷
    import_tells (block ".end") [] tells answered (2 ∷ 0 ∷ []) ∷
    import_leaves (gate "t2 a b\nt1 b") (replicate 5 9) gives replicate 5 9 ∷
    stored (gate "t2 a b\nt2 b b") gives replicate 6 9 ∷
    stored (gate "t2 a b\nt2 b c") gives replicate 6 9 ∷
    stored (gate "t2 a b\nf2 a b") gives replicate 6 9 ∷
    -- 15 and 14 before 3, 7 and 10
    imported (ascii ".version\n.numvars 0\n.variables\n.begin\nf1\n.end") tells refused 15 5 ∷
    imported (ascii ".version\n.numvars 0\n.variables\n.begin\n") tells refused 14 5 ∷
    imported (naming "33" (names31 ++ ascii "F G")) tells refused 14 6 ∷
    imported (gate "t2 b b\nf2 a b") tells refused 15 6 ∷
    imported (block "t2 b b\n") tells refused 14 6 ∷
    import_tells (gate "t2 a b\nf2 a b") [] tells refused 15 6 ∷
    import_tells (block "t2 a b\n") [] tells refused 14 6 ∷
    -- 3 before 7 and 10, 7 before 10
    imported (naming "33" (names31 ++ ascii "F G") ++ ascii "t2 G G\n.end") tells refused 3 0 ∷
    import_tells (naming "33" (names31 ++ ascii "F G") ++ ascii ".end") [] tells refused 3 0 ∷
    import_tells (gate "t2 b b") [] tells refused 7 1 ∷ []
