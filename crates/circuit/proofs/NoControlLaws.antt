-- Laws of a control that is not there to lose or is there already, and of the one control that keeps a gate from firing.
use Prim.Native.Nat.{ℕ, zero-le}
use mathlib.Core.Path.{◌≡◌, ap, ◌∙◌}
use mathlib.Core.Bool.{true, false, ◌&&◌, and-false}
use native.Mathlib.Nat.{le_refl}
use native.Mathlib.Omega.{arith}
use lib.Dec.{eqb}
use borrow.Author.Tests.{eqb-true, ne_eqb}
use Rattle.basics.proofs.Tests.{by_test}
use Rattle.words.specs.Word.{bit}
use Rattle.words.specs.WordOf.{word_of, lone_zero}
use Rattle.words.proofs.Lines.{force_same_iff}
use Rattle.words.proofs.LoneLaws.{lone_lines}
use Rattle.circuit.specs.Controls.{is_control, less_control, more_control}
use Rattle.circuit.specs.Runs.{fires}
use Rattle.circuit.specs.declared.Gate.{Gate}
use Rattle.circuit.proofs.ControlLaws.{fires_iff, no_control}

-- without a line that is no control the gate is what it was
pub less_same : (g : Gate) (c : ℕ) → is_control g c ≡ false → less_control c g ≡ g
unfolding less_control
less_same g c e = rw ((force_same_iff g.controls c 0 zero-le).1 (no_control g c e))

-- and with a line that is a control already
pub more_same : (g : Gate) (a : ℕ) → is_control g a ≡ true → more_control a g ≡ g
unfolding more_control is_control
more_same g a e = rw ((force_same_iff g.controls a 1 (le_refl 1)).1 (eqb-true (bit g.controls a) 1 e))

-- a gate does not fire where a control is 0
pub control_off : (g : Gate) (c s : ℕ) → is_control g c ≡ true → (eqb (bit s c) 0 && fires g s) ≡ false
control_off g c s e = by_test (fires g s)
    (λ t. ap (λ b. b && fires g s) (ne_eqb (bit s c) 0 (λ z. omega (arith, (fires_iff g s).0 t c e))))
    (λ t. ap (λ b. eqb (bit s c) 0 && b) t ∙ and-false (eqb (bit s c) 0))

-- the one control that is 0 where all the others are 1
pub lone_control : (g : Gate) (s : ℕ) → lone_zero g.controls s ≡ word_of 32 (λ c. is_control g c && (eqb (bit s c) 0 && fires (less_control c g) s))
unfolding fires is_control less_control
lone_control g s = lone_lines g.controls s
