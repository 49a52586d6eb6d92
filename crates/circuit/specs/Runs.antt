-- What a gate does, and runs of gates in both directions.
use Rattle.std.specs.Prelude.{ℕ, Bool, List, [], ◌∷◌, reverse, take, drop}
use Rattle.basics.specs.Choice.{choice}
use Rattle.words.specs.Word.{flip, all_on}
use Rattle.circuit.specs.declared.Gate.{Gate}

-- a gate fires when all its controls are 1
unfoldable pub fires : Gate → ℕ → Bool
fires g s = all_on g.controls s

-- it then inverts its target, and changes nothing else
unfoldable pub step : Gate → ℕ → ℕ
step g s = choice (fires g s) (flip s g.target) s

-- the gates in order
unfoldable pub run : List Gate → ℕ → ℕ
run [] s = s
run (g ∷ gs) s = run gs (step g s)

-- from the input to level i
unfoldable pub forward : List Gate → ℕ → ℕ → ℕ
forward gs i x = run (take i gs) x

-- from level i up to level k
unfoldable pub onward : List Gate → ℕ → ℕ → ℕ → ℕ
onward gs i k s = run (drop i (take k gs)) s

-- from level i to the input: the same gates, last first
unfoldable pub backward : List Gate → ℕ → ℕ → ℕ
backward gs i s = run (reverse (take i gs)) s
