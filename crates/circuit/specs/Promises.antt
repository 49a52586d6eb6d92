-- What each public call of this crate tells: the first rule of its table that is broken, or else the answer.
use Rattle.std.specs.Prelude.{ℕ, List, [], ◌∷◌}
use Rattle.refusals.specs.Tables.{Told, first_of}
use Rattle.refusals.specs.Tables.Told.{answered}
use Rattle.circuit.specs.Gates.{gates_of}
use Rattle.circuit.specs.Runs.{forward, backward}
use Rattle.circuit.specs.Rules.{run_rows}

-- `forward`: the state at a level, from the input
abbrev pub forward_tells : ℕ → List ℕ → ℕ → ℕ → Told
forward_tells n words level state = first_of (run_rows n words level state) (answered (forward (gates_of words) level state ∷ []))

-- `backward`: the input that leads to the state at a level
abbrev pub backward_tells : ℕ → List ℕ → ℕ → ℕ → Told
backward_tells n words level state = first_of (run_rows n words level state) (answered (backward (gates_of words) level state ∷ []))
