-- The controls of a gate, and its lines.
use Rattle.std.specs.Prelude.{ℕ, Bool, not, ◌&&◌, ◌||◌, eqb}
use Rattle.words.specs.Word.{bit, force}
use Rattle.words.specs.WordOf.{word_of}
use Rattle.circuit.specs.Runs.{fires}
use Rattle.circuit.specs.declared.Gate.{Gate}

-- line c is a control
unfoldable pub is_control : Gate → ℕ → Bool
is_control g c = eqb (bit g.controls c) 1

-- the gate whose line c is a control where v is 1, and none where it is 0
unfoldable pub with_control : ℕ → ℕ → Gate → Gate
with_control c v g = record { controls = force g.controls c v; spare = g.spare; target = g.target }

-- the gate without control c
unfoldable pub less_control : ℕ → Gate → Gate
less_control c g = record { controls = force g.controls c 0; spare = g.spare; target = g.target }

-- the gate with line a as a control too
unfoldable pub more_control : ℕ → Gate → Gate
more_control a g = record { controls = force g.controls a 1; spare = g.spare; target = g.target }

-- line j is a line of the gate: a control or the target
unfoldable pub touches : Gate → ℕ → Bool
touches g j = is_control g j || eqb j g.target

-- line a is neither a control nor the target
unfoldable pub is_other : Gate → ℕ → Bool
is_other g a = not (touches g a)

-- line c alone stops the gate: it does not fire, and without c as a control it would
unfoldable pub stops : Gate → ℕ → ℕ → Bool
stops g s c = not (fires g s) && fires (less_control c g) s

-- the lines that do, as a word; each of them is a control
unfoldable pub stopping : ℕ → Gate → ℕ → ℕ
stopping n g s = word_of n (stops g s)
