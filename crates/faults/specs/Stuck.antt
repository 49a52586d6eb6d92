-- A stuck line that can be forced, at a site or not; a fault of the circuit is one at a site.
use Rattle.std.specs.Prelude.{ℕ, ◌≤◌, ◌<◌, ◌≡◌}
use Rattle.faults.specs.declared.Fault.{Fault}

-- a line stuck at a level of a circuit of n lines and d gates
pub record StuckOk (n d : ℕ) (f : Fault) : Type 0 where
  pub class_is : f.class ≡ 1
  pub place_in : f.place ≤ d
  pub line_in : f.line < n
  pub value_in : f.value ≤ 1
