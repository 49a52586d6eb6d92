-- What a check that finds no broken rule hands on: the circuit that it was given, which is known to be sound.
use Rattle.std.specs.Prelude.{ℕ, ◌≡◌, List}
use Rattle.circuit.specs.Gates.{gates_of}
use Rattle.circuit.specs.declared.Gate.{Gate}
use Rattle.circuit.specs.declared.checked.Circuit.{Circuit}

-- its gates
abbrev pub gates_in : Circuit → List Gate
gates_in circuit = gates_of circuit.gates.now

-- it has n lines, and its gates are these words
abbrev pub Has : ℕ → List ℕ → Circuit → Type 0
Has n words circuit = (circuit.lines ≡ n) × (circuit.gates.now ≡ words)
