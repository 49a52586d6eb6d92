-- The numbers of the classes: 1 stuck-at, 2 missing gate, 3 missing control, 4 extra control.
use Rattle.std.specs.Prelude.{ℕ, Result, Ok, Err, eqb}
use Rattle.basics.specs.Choice.{choice}
use Rattle.refusals.specs.declared.Refusal.{Refusal}
use Rattle.refusals.specs.declared.Refusal.TheVariants as refusal
use Rattle.faults.specs.declared.classes.GateClass.{GateClass}
use Rattle.faults.specs.declared.classes.GateClass.TheVariants.{MissingGate, MissingControl, ExtraControl}
use Rattle.faults.specs.declared.classes.Class.{Class}
use Rattle.faults.specs.declared.classes.Class.TheVariants.{StuckAt, AtGate}

abbrev pub gate_class_number : GateClass → ℕ
gate_class_number MissingGate = 2
gate_class_number MissingControl = 3
gate_class_number ExtraControl = 4

abbrev pub class_number : Class → ℕ
class_number StuckAt = 1
class_number (AtGate class) = gate_class_number class

-- the class of a number; any other number is refused by rule 9, at place 1
abbrev pub class_of : ℕ → Result Class Refusal
class_of number =
    choice (eqb number 1) (Ok StuckAt)
    (choice (eqb number 2) (Ok (AtGate MissingGate))
    (choice (eqb number 3) (Ok (AtGate MissingControl))
    (choice (eqb number 4) (Ok (AtGate ExtraControl)) (Err (refusal.Fault 1)))))
