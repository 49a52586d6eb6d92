-- A multiple fault: 1 to 256 entries of class 1, no site named twice, all forced in one run.
use Rattle.std.specs.Prelude.{ℕ, Bool, false, not, ◌&&◌, ◌||◌, List, [], ◌∷◌, eqb}
use Rattle.basics.specs.Lists.{some}
use Rattle.circuit.specs.Runs.{run}
use Rattle.circuit.specs.declared.Gate.{Gate}
use Rattle.faults.specs.Rules.{is_stuck_at}
use Rattle.faults.specs.declared.Fault.{Fault}
use Rattle.simulator.specs.Faulty.{stuck_run}

-- no stuck line of the circuit
unfoldable pub bad_entry : ℕ → List Gate → Fault → Bool
bad_entry n gs f = not (eqb f.class 1 && is_stuck_at n gs f)

-- one site: the same level and line
unfoldable pub same_site : Fault → Fault → Bool
same_site f h = eqb f.place h.place && eqb f.line h.line

unfoldable pub site_twice : List Fault → Bool
site_twice [] = false
site_twice (f ∷ fs) = some (same_site f) fs || site_twice fs

-- several stuck-at faults together are caught as one: only the whole faulty run decides
unfoldable pub caught_together : List Gate → List Fault → ℕ → Bool
caught_together gs fs x = not (eqb (stuck_run fs 0 gs x) (run gs x))
