-- The report's text, from any bytes at all.
use Rattle.std.specs.Prelude.{ℕ, suc, ◌*◌, List, [], ◌∷◌, ◌++◌, length, eqb}
use Rattle.basics.specs.Choice.{choice}
use Rattle.basics.specs.Lists.{each}
use Rattle.refusals.specs.Tables.{Row, Told, first_of}
use Rattle.refusals.specs.Tables.Told.{answered, refused}
use Rattle.refusals.specs.Answers.{fine}
use Rattle.circuit.specs.Limits.{most_gates, most_vectors}
use Rattle.circuit.specs.Gates.{gates_of}
use Rattle.circuit.specs.declared.Gate.{Gate}
use Rattle.faults.specs.declared.Fault.{Fault}
use Rattle.faults.specs.Classes.{class_faults}
use Rattle.judge.specs.Judging.{caught_of, uncaught_of}
use Rattle.job.specs.Image.{longest_job, lines_in, classes_in, gate_words, vector_words}
use Rattle.job.specs.Rules.{read_rows}
use Rattle.job.specs.Wanted.{wanted}
use Rattle.report_text.specs.Lines.{spaced, line}

-- the letters of the classes: S, M, C, X; a question mark for a class that there is not
unfoldable pub letter_of : ℕ → ℕ
letter_of class = choice (eqb class 1) 83 (choice (eqb class 2) 77 (choice (eqb class 3) 67 (choice (eqb class 4) 88 63)))

-- what is shown of a fault, S: level, line, value; M: gate; C: gate, line; X: gate, line; nothing of a class that there is not
unfoldable pub shown : ℕ → Fault → List ℕ
shown class f =
    choice (eqb class 1) (f.place ∷ f.line ∷ f.value ∷ [])
    (choice (eqb class 2) (f.place ∷ [])
    (choice (eqb class 3) (f.place ∷ f.line ∷ [])
    (choice (eqb class 4) (f.place ∷ f.line ∷ []) [])))

-- a blank and ok where no fault is left uncaught, and else the first that is
unfoldable pub first_text : ℕ → List Fault → List ℕ
first_text class [] = 32 ∷ 111 ∷ 107 ∷ []
first_text class (f ∷ rest) = each spaced (shown class f)

-- the line of a class: its letter, number caught, number in class, and ok or the first uncaught fault
unfoldable pub class_text : ℕ → List Gate → List ℕ → ℕ → List ℕ
class_text n gs xs class = line (letter_of class)
    (each spaced (length (caught_of gs xs (class_faults n gs class)) ∷ length (class_faults n gs class) ∷ [])
    ++ first_text class (uncaught_of gs xs (class_faults n gs class)))

-- J with lines, gates and vectors
abbrev pub job_line : ℕ → List ℕ → List ℕ → List ℕ
job_line n words xs = line 74 (each spaced (n ∷ length (gates_of words) ∷ length xs ∷ []))

-- a line for each class wanted
abbrev pub class_lines : ℕ → ℕ → List ℕ → List ℕ → List ℕ
class_lines n classes words xs = each (class_text n (gates_of words) xs) (wanted classes)

-- the text of a job is both
unfoldable pub job_text : ℕ → ℕ → List ℕ → List ℕ → List ℕ
job_text n classes words xs = job_line n words xs ++ class_lines n classes words xs

-- E with the number and the place of a refusal
unfoldable pub refused_text : ℕ → ℕ → List ℕ
refused_text number place = line 69 (each spaced (number ∷ place ∷ []))

-- a job is read with room for the longest, so rule 10 is never broken
abbrev pub job_rows : List ℕ → List Row
job_rows bytes = read_rows bytes (3 * most_gates) most_vectors

-- what a reading tells has its refusal's text, or that of the job
abbrev pub text_of : Told → List ℕ → List ℕ
text_of (answered values) text = text
text_of (refused number place) text = refused_text number place

-- the text of any bytes
unfoldable pub report_text : List ℕ → List ℕ
report_text bytes = text_of (first_of (job_rows bytes) fine) (job_text (lines_in bytes) (classes_in bytes) (gate_words bytes) (vector_words bytes))

-- how many bytes the longest report has
abbrev pub longest_report : ℕ
longest_report = 100

-- as many bytes of an input as tell its report: one more than the longest job has, which tells any longer input
abbrev pub input_room : ℕ
input_room = suc longest_job
