-- What the call tells: the first rule of its table that is broken, or else the answer.
use Rattle.std.specs.Prelude.{ℕ, List, [], ◌∷◌}
use Rattle.basics.specs.Choice.{count}
use Rattle.refusals.specs.Tables.{Told, first_of}
use Rattle.refusals.specs.Tables.Told.{answered}
use Rattle.circuit.specs.Gates.{gates_of}
use Rattle.faults.specs.Records.{faults_of}
use Rattle.multiple_faults.specs.Multiple.{caught_together}
use Rattle.multiple_faults.specs.Rules.{multiple_rows}

-- `catches_multiple`: 1 where the vector catches all entries together, and 0 elsewhere
abbrev pub catches_multiple_tells : ℕ → List ℕ → ℕ → List ℕ → Told
catches_multiple_tells n words x list =
    first_of (multiple_rows n words x list) (answered (count (caught_together (gates_of words) (faults_of list) x) ∷ []))
