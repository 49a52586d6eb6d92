-- Laws of one step: what a gate does where it fires, and where it does not.
use Prim.Native.Nat.{ℕ}
use mathlib.Core.Path.{◌≡◌}
use mathlib.Core.Bool.{true, false}
use Rattle.basics.proofs.Tests.{choice-true, choice-false}
use Rattle.words.specs.Word.{flip}
use Rattle.circuit.specs.Runs.{fires, step}
use Rattle.circuit.specs.declared.Gate.{Gate}

-- a gate that fires inverts its target
pub step_on : (g : Gate) (s : ℕ) → fires g s ≡ true → step g s ≡ flip s g.target
unfolding step
step_on g s e = choice-true e (flip s g.target) s

-- one that does not fire changes nothing
pub step_off : (g : Gate) (s : ℕ) → fires g s ≡ false → step g s ≡ s
unfolding step
step_off g s e = choice-false e (flip s g.target) s
