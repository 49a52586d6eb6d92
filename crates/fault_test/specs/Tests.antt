-- The test for one fault.
use Rattle.std.specs.Prelude.{ℕ, ◌-◌, Bool, ◌||◌, List, eqb}
use Rattle.basics.specs.Choice.{choice}
use Rattle.words.specs.Word.{force, all_ones}
use Rattle.circuit.specs.Runs.{backward}
use Rattle.circuit.specs.declared.Gate.{Gate}
use Rattle.faults.specs.declared.Fault.{Fault}

-- its level; for a gate fault the level that the gate reads
unfoldable pub test_level : Fault → ℕ
test_level f = choice (eqb f.class 1) f.place (f.place - 1)

-- whether one line is to be 0: the line itself for stuck-at-1, the named line for classes 3 and 4
unfoldable pub line_at_zero : Fault → Bool
line_at_zero f = choice (eqb f.class 1) (eqb f.value 1) (eqb f.class 3 || eqb f.class 4)

-- the state there: all lines 1, save that one
unfoldable pub test_state : ℕ → Fault → ℕ
test_state n f = choice (line_at_zero f) (force (all_ones n) f.line 0) (all_ones n)

-- run backward
unfoldable pub test_for : ℕ → List Gate → Fault → ℕ
test_for n gs f = backward gs (test_level f) (test_state n f)
