-- The parts of a text as they are put.
use Rattle.std.specs.Prelude.{ℕ, suc, ◌+◌, ◌≤◌, ◌≡◌, List, [], ◌++◌, length, eqb}
use Rattle.std.proofs.lemmas.List.Edits.{sets}
use Rattle.basics.specs.Choice.{choice}
use Rattle.basics.specs.Lists.{up_from, each}
use Rattle.words.specs.Word.{bit, all_ones, lines_on}
use Rattle.text.specs.Texts.{ascii}
use Rattle.text.specs.Decimal.{decimal}
use Rattle.circuit.specs.declared.Gate.{Gate}
use Rattle.real.specs.Export.{name_of}

-- one blank, then the name of a line
unfoldable pub spaced_name : ℕ → List ℕ
spaced_name j = ascii " " ++ name_of j

-- the same of a line that is 1 in a word, and else nothing
unfoldable pub name_if : ℕ → ℕ → List ℕ
name_if w j = choice (eqb (bit w j) 1) (spaced_name j) []

-- the names of the lines that are 1 in a word, rising
abbrev pub names_on : ℕ → ℕ → List ℕ
names_on n w = each (name_if w) (up_from 0 n)

-- the line of a gate
unfoldable pub gate_text : ℕ → Gate → List ℕ
gate_text n g =
    ascii "t" ++ (decimal (suc (length (lines_on n g.controls))) ++ (names_on n g.controls ++ (spaced_name g.target ++ ascii "\n")))

-- the lines before the gates
unfoldable pub head_text : ℕ → List ℕ
head_text n =
    ascii ".version 1.0\n.numvars " ++ (decimal n ++ (ascii "\n.variables" ++ (names_on n (all_ones n) ++ ascii "\n.begin\n")))

-- a text is put into bytes from a place on: where it ends is told, and it is stored if there is room for it
pub record Put (old : List ℕ) (at : ℕ) (text : List ℕ) (new : List ℕ) (end : ℕ) : Type 0 where
  pub told : end ≡ at + length text
  pub kept : length new ≡ length old
  pub stored : at + length text ≤ length old → new ≡ sets old at text
