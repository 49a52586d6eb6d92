-- What a circuit that breaks no rule is: the one thing that the functions below the public calls ask for.
use Rattle.std.specs.Prelude.{ℕ, ◌*◌, ◌^◌, ◌≤◌, ◌<◌, ◌≡◌, List, [], ◌∷◌, length, false}
use Rattle.std.specs.Coded.{Coded-set, coded_ℕ, coded_bool, ×_prop, Unit-prop, le_prop}
use Rattle.basics.specs.Lists.{All}
use Rattle.circuit.specs.Limits.{most_lines, most_gates}
use Rattle.circuit.specs.Gates.{gates_of}
use Rattle.circuit.specs.Controls.{is_control}
use Rattle.circuit.specs.declared.Gate.{Gate}

-- a gate on n lines, whose target is none of its controls
pub record GateOk (n : ℕ) (g : Gate) : Type 0 where
  pub controls_in : g.controls < 2 ^ n
  pub target_in : g.target < n
  pub apart : is_control g g.target ≡ false

abbrev pub AllOk : ℕ → List Gate → Type 0
AllOk n gs = All (GateOk n) gs

-- at least one line, no more lines and gates than there may be, no word left over, and every gate on these lines
pub record Sound (n : ℕ) (words : List ℕ) : Type 0 where
  pub some_lines : 1 ≤ n
  pub lines_fit : n ≤ most_lines
  pub gates_fit : length (gates_of words) ≤ most_gates
  pub whole : length words ≡ 3 * length (gates_of words)
  pub gates_ok : AllOk n (gates_of words)

-- ---- there is one proof of each of these at most, as a type that keeps one asks

pub GateOk-prop : (n : ℕ) (g : Gate) → IsProp (GateOk n g)
GateOk-prop n g a b = λ i. record {
  controls_in = le_prop a.controls_in b.controls_in i;
  target_in = le_prop a.target_in b.target_in i;
  apart = Coded-set coded_bool (is_control g g.target) false a.apart b.apart i;
}

AllOk-prop : (n : ℕ) (gs : List Gate) → IsProp (AllOk n gs)
AllOk-prop n [] = Unit-prop
AllOk-prop n (g ∷ gs) = ×_prop (GateOk-prop n g) (AllOk-prop n gs)

pub Sound-prop : (n : ℕ) (words : List ℕ) → IsProp (Sound n words)
Sound-prop n words a b = λ i. record {
  some_lines = le_prop a.some_lines b.some_lines i;
  lines_fit = le_prop a.lines_fit b.lines_fit i;
  gates_fit = le_prop a.gates_fit b.gates_fit i;
  whole = Coded-set coded_ℕ (length words) (3 * length (gates_of words)) a.whole b.whole i;
  gates_ok = AllOk-prop n (gates_of words) a.gates_ok b.gates_ok i;
}
