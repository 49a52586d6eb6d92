-- The fault classes, the circuit with a fault in it, and what it means that a vector catches a fault.
use Rattle.std.specs.Prelude.{ℕ, zero, suc, ◌-◌, Bool, not, List, [], ◌∷◌, ◌++◌, take, drop, eqb}
use Rattle.basics.specs.Choice.{choice}
use Rattle.words.specs.Word.{force}
use Rattle.circuit.specs.Controls.{less_control, more_control}
use Rattle.circuit.specs.Runs.{step, run}
use Rattle.circuit.specs.declared.Gate.{Gate}
use Rattle.faults.specs.declared.Fault.{Fault}

-- ---- class 1, stuck-at: when the state reaches a level, the lines stuck there are forced, and the run goes on

-- the lines stuck at level i
unfoldable pub force_at : List Fault → ℕ → ℕ → ℕ
force_at [] i s = s
force_at (f ∷ fs) i s = force_at fs i (choice (eqb f.place i) (force s f.line f.value) s)

-- the run from level i on, with the gates that are left and the state that reaches the level
unfoldable pub stuck_run : List Fault → ℕ → List Gate → ℕ → ℕ
stuck_run fs i [] s = force_at fs i s
stuck_run fs i (g ∷ gs) s = stuck_run fs (suc i) gs (step g (force_at fs i s))

-- ---- class 2, missing gate: gate i does nothing

unfoldable pub without : ℕ → List Gate → List Gate
without i gs = take (i - 1) gs ++ drop i gs

-- ---- class 3, missing control: the gate works without line c; class 4, extra control: line a is a control too

-- gate i, from 1, changed
unfoldable pub changed : (Gate → Gate) → ℕ → List Gate → List Gate
changed h zero gs = gs
changed h (suc i) [] = []
changed h (suc zero) (g ∷ gs) = h g ∷ gs
changed h (suc (suc i)) (g ∷ gs) = g ∷ changed h (suc i) gs

-- ---- all classes

-- the output of the circuit with the fault in it; a class that there is not changes nothing
unfoldable pub faulty : List Gate → Fault → ℕ → ℕ
faulty gs f x =
    choice (eqb f.class 1) (stuck_run (f ∷ []) 0 gs x)
    (choice (eqb f.class 2) (run (without f.place gs) x)
    (choice (eqb f.class 3) (run (changed (less_control f.line) f.place gs) x)
    (choice (eqb f.class 4) (run (changed (more_control f.line) f.place gs) x)
    (run gs x))))

-- caught: the final output differs from the good one
unfoldable pub caught : List Gate → Fault → ℕ → Bool
caught gs f x = not (eqb (faulty gs f x) (run gs x))
