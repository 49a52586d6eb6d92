-- What a check that finds no broken rule hands on: the fault that it was given, which is known to be one of the circuit.
use Rattle.std.specs.Prelude.{ℕ, ◌≡◌, List}
use Rattle.circuit.specs.Checked.{Has}
use Rattle.circuit.specs.declared.checked.Circuit.{Circuit}
use Rattle.faults.specs.declared.Fault.{Fault}
use Rattle.faults.specs.declared.checked.KnownFault.{KnownFault}

-- this fault, of this circuit
abbrev pub IsKnown : Circuit → Fault → KnownFault → Type 0
IsKnown circuit fault known = (known.circuit ≡ circuit) × (known.fault ≡ fault)

-- this fault, of the circuit of n lines whose gates are these words
abbrev pub IsFaultOf : ℕ → List ℕ → Fault → KnownFault → Type 0
IsFaultOf n words fault known = Has n words known.circuit × (known.fault ≡ fault)
