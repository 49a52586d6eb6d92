-- What a check that finds no broken rule hands on: the circuit and the entries that it was given, which are known to be good.
use Rattle.std.specs.Prelude.{ℕ, ◌≡◌, List}
use Rattle.circuit.specs.Checked.{Has}
use Rattle.multiple_faults.specs.declared.checked.Multiple.{Multiple}

-- it has n lines, its gates are these words, and its entries this list
abbrev pub HasEntries : ℕ → List ℕ → List ℕ → Multiple → Type 0
HasEntries n words list multiple = Has n words multiple.circuit × (multiple.entries.now ≡ list)
