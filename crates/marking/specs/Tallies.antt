-- The faults of a class at one gate, as a word of lines.
use Rattle.std.specs.Prelude.{ℕ, List}
use Rattle.words.specs.WordOf.{word_of}
use Rattle.circuit.specs.declared.Gate.{Gate}
use Rattle.faults.specs.Classes.{fault_of}
use Rattle.faults.specs.Rules.{is_fault}

-- the lines at which gate i has a fault of a class
unfoldable pub gate_lines : ℕ → List Gate → ℕ → ℕ → ℕ
gate_lines n gs class i = word_of n (λ line. is_fault n gs (fault_of class i line 0))
