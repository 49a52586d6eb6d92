-- A circuit as it is lent: a flat list of words, three a gate.
use Rattle.std.specs.Prelude.{ℕ, ◌-◌, List, [], ◌∷◌, get_or}
use Rattle.circuit.specs.declared.Gate.{Gate}

-- the whole gates, read three by three: controls, spare, target
unfoldable pub gates_of : List ℕ → List Gate
gates_of [] = []
gates_of (c ∷ []) = []
gates_of (c ∷ s ∷ []) = []
gates_of (c ∷ s ∷ t ∷ rest) = record { controls = c; spare = s; target = t } ∷ gates_of rest

-- gate i, from 1; there is no gate 0, and none past the last
unfoldable pub no_gate : Gate
no_gate = record { controls = 0; spare = 0; target = 0 }

unfoldable pub gate_at : List Gate → ℕ → Gate
gate_at gs i = get_or gs (i - 1) no_gate
