-- `real_export::writing::put_gates` meets its contract: each turn puts the line of one gate. Assumes nothing.
use Rattle.std.proofs.Common.{take}
use Rattle.basics.specs.Lists.{each}
use Rattle.circuit.specs.Checked.{gates_in}
use Rattle.real_export.specs.Parts.{Put, gate_text}
use Rattle.real_export.proofs.writing.put_gates.Given as goal

abbrev pub invariant-loop-i : goal.invariant-loop-i
invariant-loop-i l = Put l.initial.out l.at (each (gate_text l.circuit.lines) (take l.i (gates_in l.circuit))) l.out l.end
