-- The rules of a fault and of a list of fault records.
use Rattle.std.specs.Prelude.{ℕ, Bool, false, not, ◌&&◌, List, [], ◌∷◌, length, eqb, ltb, leb}
use Rattle.basics.specs.Choice.{choice}
use Rattle.words.specs.Word.{bit}
use Rattle.refusals.specs.Tables.{Row}
use Rattle.refusals.specs.Tables.Row.{refuse◌at◌when◌}
use Rattle.circuit.specs.Gates.{gates_of, gate_at}
use Rattle.circuit.specs.Controls.{is_control, is_other}
use Rattle.circuit.specs.declared.Gate.{Gate}
use Rattle.faults.specs.Sites.{sites}
use Rattle.faults.specs.declared.Fault.{Fault}

-- ---- which faults a circuit has; fields that a class has no use for are 0

-- class 1: a site, and a value 0 or 1
unfoldable pub is_stuck_at : ℕ → List Gate → Fault → Bool
is_stuck_at n gs f = leb f.place (length gs) && (eqb (bit (sites n gs f.place) f.line) 1 && leb f.value 1)

-- gates are numbered from 1
unfoldable pub is_gate : List Gate → ℕ → Bool
is_gate gs i = leb 1 i && leb i (length gs)

-- class 2: a gate
unfoldable pub is_missing_gate : List Gate → Fault → Bool
is_missing_gate gs f = is_gate gs f.place && (eqb f.line 0 && eqb f.value 0)

-- class 3: a gate, and one of its controls
unfoldable pub is_missing_control : List Gate → Fault → Bool
is_missing_control gs f = is_gate gs f.place && (is_control (gate_at gs f.place) f.line && eqb f.value 0)

-- class 4: a gate, and a line that is neither a control of it nor its target
unfoldable pub is_extra_control : ℕ → List Gate → Fault → Bool
is_extra_control n gs f =
    is_gate gs f.place
    && (ltb f.line n && (is_other (gate_at gs f.place) f.line && eqb f.value 0))

-- there is no other class
unfoldable pub is_fault : ℕ → List Gate → Fault → Bool
is_fault n gs f =
    choice (eqb f.class 1) (is_stuck_at n gs f)
    (choice (eqb f.class 2) (is_missing_gate gs f)
    (choice (eqb f.class 3) (is_missing_control gs f)
    (choice (eqb f.class 4) (is_extra_control n gs f) false)))

-- a fault that is asked alone
unfoldable pub fault_rows : ℕ → List ℕ → Fault → List Row
fault_rows n words f = refuse 9 at 1 when not (is_fault n (gates_of words) f) ∷ []
