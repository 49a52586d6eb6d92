-- The text that a circuit is written as: its words, line by line.
use Rattle.std.specs.Prelude.{ℕ, suc, List, [], ◌∷◌, ◌++◌, map, length}
use Rattle.basics.specs.Lists.{up_from, each}
use Rattle.words.specs.Word.{lines_on}
use Rattle.circuit.specs.Gates.{gates_of}
use Rattle.circuit.specs.declared.Gate.{Gate}
use Rattle.text.specs.Texts.{ascii}
use Rattle.text.specs.Decimal.{decimal}
use Rattle.real.specs.Form.{Word}

-- lines x0, x1 and on
unfoldable pub name_of : ℕ → Word
name_of j = ascii "x" ++ decimal j

-- t with the number of lines, the controls rising, the target
unfoldable pub gate_line : ℕ → Gate → List Word
gate_line n g = (ascii "t" ++ decimal (suc (length (lines_on n g.controls)))) ∷ map name_of (lines_on n g.controls ++ (g.target ∷ []))

unfoldable pub head_lines : ℕ → List (List Word)
head_lines n =
    (ascii ".version" ∷ ascii "1.0" ∷ []) ∷
    (ascii ".numvars" ∷ decimal n ∷ []) ∷
    (ascii ".variables" ∷ map name_of (up_from 0 n)) ∷
    (ascii ".begin" ∷ []) ∷ []

-- single blanks, and LF
unfoldable pub joined : List Word → List ℕ
joined [] = []
joined (word ∷ more) = word ++ each (λ w. ascii " " ++ w) more

unfoldable pub line_text : List Word → List ℕ
line_text words = joined words ++ ascii "\n"

unfoldable pub real_text : ℕ → List ℕ → List ℕ
real_text n words = each line_text (head_lines n ++ (map (gate_line n) (gates_of words) ++ ((ascii ".end" ∷ []) ∷ [])))
