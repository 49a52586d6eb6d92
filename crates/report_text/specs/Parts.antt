-- The parts of the report's text as they are put: a line with or without ok, a verdict, a class wanted or not.
use Rattle.std.specs.Prelude.{ℕ, Bool, true, false, Option, Some, None, List, [], ◌∷◌, ◌++◌, eqb}
use Rattle.basics.specs.Choice.{choice}
use Rattle.basics.specs.Lists.{each}
use Rattle.circuit.specs.declared.Gate.{Gate}
use Rattle.faults.specs.declared.Fault.{Fault}
use Rattle.judge.specs.declared.Verdict.{Verdict}
use Rattle.job.specs.Wanted.{is_wanted}
use Rattle.report_text.specs.Lines.{spaced, line}
use Rattle.report_text.specs.Report.{letter_of, shown, class_text}

unfoldable pub ok_text : Bool → List ℕ
ok_text ok = choice ok (32 ∷ 111 ∷ 107 ∷ []) []

-- the end of a line
unfoldable pub end_text : Bool → List ℕ
end_text ok = ok_text ok ++ (10 ∷ [])

unfoldable pub numbers_line : ℕ → List ℕ → Bool → List ℕ
numbers_line letter numbers ok = line letter (each spaced numbers ++ ok_text ok)

-- how many numbers: that caught, that in the class, and what is shown of a fault
unfoldable pub numbers_shown : ℕ → ℕ
numbers_shown class = choice (eqb class 1) 5 (choice (eqb class 2) 3 (choice (eqb class 3) 4 (choice (eqb class 4) 4 2)))

-- ok where no fault is left uncaught, and else the first that is
abbrev pub counts_text : ℕ → ℕ → ℕ → Option Fault → List ℕ
counts_text class caught total None = numbers_line (letter_of class) (caught ∷ total ∷ []) true
counts_text class caught total (Some f) = numbers_line (letter_of class) (caught ∷ total ∷ shown class f) false

abbrev pub verdict_text : ℕ → Verdict → List ℕ
verdict_text class verdict = counts_text class verdict.caught verdict.total verdict.first

unfoldable pub wanted_text : ℕ → List Gate → List ℕ → ℕ → ℕ → List ℕ
wanted_text n gs xs classes class = choice (is_wanted classes class) (class_text n gs xs class) []
