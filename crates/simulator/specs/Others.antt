-- What stands in the place of the gate of a fault, and what it does.
use Rattle.std.specs.Prelude.{ℕ, ◌<◌, Option, Some, None}
use Rattle.std.specs.Option.{ForSome}
use Rattle.circuit.specs.Limits.{most_lines}
use Rattle.circuit.specs.Controls.{less_control, more_control}
use Rattle.circuit.specs.Runs.{step}
use Rattle.circuit.specs.declared.Gate.{Gate}
use Rattle.faults.specs.declared.classes.GateClass.{GateClass}
use Rattle.faults.specs.declared.classes.GateClass.TheVariants.{MissingGate, MissingControl, ExtraControl}

-- nothing in the place of a missing gate, and the gate with the line as a control less or more in the other classes
abbrev pub other_gate : GateClass → ℕ → Gate → Option Gate
other_gate MissingGate line g = None
other_gate MissingControl line g = Some (less_control line g)
other_gate ExtraControl line g = Some (more_control line g)

-- its target, where it is a gate, is a bit of the word
abbrev pub Fits : Option Gate → Type 0
Fits other = ForSome other (λ g. g.target < most_lines)

-- what it makes of a state: nothing leaves it as it is
abbrev pub step_of : Option Gate → ℕ → ℕ
step_of None s = s
step_of (Some g) s = step g s
