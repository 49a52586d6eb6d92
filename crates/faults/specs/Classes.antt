-- The faults of each class in their order: by level or gate, then line, then value 0 before 1.
use Rattle.std.specs.Prelude.{ℕ, suc, Bool, ◌&&◌, List, [], ◌∷◌, length, eqb, leb}
use Rattle.basics.specs.Choice.{choice}
use Rattle.basics.specs.Lists.{up_from, keep, each}
use Rattle.words.specs.Word.{lines_on}
use Rattle.circuit.specs.Gates.{gate_at}
use Rattle.circuit.specs.Controls.{is_control, is_other}
use Rattle.circuit.specs.declared.Gate.{Gate}
use Rattle.faults.specs.Sites.{sites}
use Rattle.faults.specs.declared.Fault.{Fault}

unfoldable pub fault_of : ℕ → ℕ → ℕ → ℕ → Fault
fault_of class place line value = record { class = class; place = place; line = line; value = value }

-- class 1: each site, stuck at 0 and at 1
unfoldable pub stuck_faults : ℕ → List Gate → List Fault
stuck_faults n gs = each (λ i. each (λ j. fault_of 1 i j 0 ∷ fault_of 1 i j 1 ∷ []) (lines_on n (sites n gs i))) (up_from 0 (suc (length gs)))

-- class 2: each gate
unfoldable pub missing_gates : List Gate → List Fault
missing_gates gs = each (λ i. fault_of 2 i 0 0 ∷ []) (up_from 1 (length gs))

-- class 3: each control of each gate
unfoldable pub missing_controls : ℕ → List Gate → List Fault
missing_controls n gs = each (λ i. each (λ c. fault_of 3 i c 0 ∷ []) (keep (is_control (gate_at gs i)) (up_from 0 n))) (up_from 1 (length gs))

-- class 4: each line of each gate that is neither a control nor the target
unfoldable pub extra_controls : ℕ → List Gate → List Fault
extra_controls n gs = each (λ i. each (λ a. fault_of 4 i a 0 ∷ []) (keep (is_other (gate_at gs i)) (up_from 0 n))) (up_from 1 (length gs))

-- the faults of a class by its code; a class that there is not has none
unfoldable pub class_faults : ℕ → List Gate → ℕ → List Fault
class_faults n gs class =
    choice (eqb class 1) (stuck_faults n gs)
    (choice (eqb class 2) (missing_gates gs)
    (choice (eqb class 3) (missing_controls n gs)
    (choice (eqb class 4) (extra_controls n gs) [])))

-- there are four classes
unfoldable pub is_class : ℕ → Bool
is_class class = leb 1 class && leb class 4
