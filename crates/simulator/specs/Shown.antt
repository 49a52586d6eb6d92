-- Where a fault shows: the state that reaches it, and the output that a state after it leads to.
use Rattle.std.specs.Prelude.{ℕ, ◌-◌, List, drop}
use Rattle.circuit.specs.Runs.{run, forward}
use Rattle.circuit.specs.declared.Gate.{Gate}
use Rattle.faults.specs.declared.Fault.{Fault}

-- the state that the gate of a fault reads
abbrev pub state_read : List Gate → Fault → ℕ → ℕ
state_read gs f x = forward gs (f.place - 1) x

-- the output that a state at the fault's level, or made in the place of its gate, leads to
abbrev pub output_from : List Gate → Fault → ℕ → ℕ
output_from gs f s = run (drop f.place gs) s
