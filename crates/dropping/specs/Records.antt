-- What the records of a list that breaks no rule are.
use Rattle.std.specs.Prelude.{ℕ, ◌≡◌, true, List}
use Rattle.basics.specs.Lists.{All}
use Rattle.circuit.specs.declared.Gate.{Gate}
use Rattle.faults.specs.Rules.{is_fault}
use Rattle.faults.specs.declared.Fault.{Fault}

-- every record is a fault of the circuit
abbrev pub AllFaults : ℕ → List Gate → List Fault → Type 0
AllFaults n gs fs = All (λ f. is_fault n gs f ≡ true) fs
