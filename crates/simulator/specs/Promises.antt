-- What each public call of this crate tells: the first rule of its table that is broken, or else the answer.
use Rattle.std.specs.Prelude.{ℕ, List, [], ◌∷◌}
use Rattle.basics.specs.Choice.{count}
use Rattle.refusals.specs.Tables.{Told, first_of}
use Rattle.refusals.specs.Tables.Told.{answered}
use Rattle.circuit.specs.Gates.{gates_of}
use Rattle.faults.specs.declared.Fault.{Fault}
use Rattle.simulator.specs.Faulty.{faulty, caught}
use Rattle.simulator.specs.Rules.{catch_rows}

-- `faulty_run`: the output of the circuit with the fault in it
abbrev pub output_tells : ℕ → List ℕ → ℕ → Fault → Told
output_tells n words x f = first_of (catch_rows n words x f) (answered (faulty (gates_of words) f x ∷ []))

-- `catches`: 1 where the vector catches the fault, and 0 elsewhere
abbrev pub catches_tells : ℕ → List ℕ → ℕ → Fault → Told
catches_tells n words x f = first_of (catch_rows n words x f) (answered (count (caught (gates_of words) f x) ∷ []))
