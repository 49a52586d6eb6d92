-- Laws of the controls that alone stop a gate.
use Prim.Native.Nat.{ℕ, ◌≤◌}
use mathlib.Core.Path.{◌≡◌, sym, ap, ◌∙◌}
use mathlib.Core.Bool.{Bool, not, ◌&&◌, not-and_self}
use lib.Dec.{eqb}
use borrow.Author.Tests.{eq-eqb}
use Rattle.basics.proofs.Tests.{by_test}
use Rattle.basics.proofs.Bools.{fails_more}
use Rattle.words.specs.Word.{bit}
use Rattle.words.specs.WordOf.{lone_zero}
use Rattle.words.proofs.Inverse.{not_on}
use Rattle.words.proofs.WordOfLaws.{word_of-cong, word_of-wide}
use Rattle.circuit.specs.Limits.{most_lines}
use Rattle.circuit.specs.Controls.{is_control, less_control, more_control, stops, stopping}
use Rattle.circuit.specs.Runs.{fires, step}
use Rattle.circuit.specs.Sound.{GateOk}
use Rattle.circuit.specs.declared.Gate.{Gate}
use Rattle.circuit.proofs.ControlLaws.{fires_less, control_above, less_control_differs, more_control_differs}
use Rattle.circuit.proofs.NoControlLaws.{less_same, more_same, control_off, lone_control}

-- a line that alone stops a gate is a control that is 0 where all the others are 1
pub stops-zero : (g : Gate) (s c : ℕ) → stops g s c ≡ (is_control g c && (eqb (bit s c) 0 && fires (less_control c g) s))
unfolding stops
stops-zero g s c =
    let less : Gate = less_control c g in
    by_test (is_control g c)
    (λ e. ap (λ b. not b && fires less s) (fires_less g c s e) ∙ fails_more (eqb (bit s c) 1) (fires less s)
    ∙ ap (λ b. b && fires less s) (not_on s c)
    ∙ ap (λ b. b && (eqb (bit s c) 0 && fires less s)) (sym e))
    (λ e. ap (λ h. not (fires g s) && fires h s) (less_same g c e) ∙ not-and_self (fires g s)
    ∙ ap (λ b. b && (eqb (bit s c) 0 && fires less s)) (sym e))

-- without a line as a control the gate does something else where the line alone stops it
pub less_differs : (g : Gate) (c s : ℕ) → not (eqb (step (less_control c g) s) (step g s)) ≡ stops g s c
less_differs g c s =
    let less : Gate = less_control c g in
    by_test (is_control g c)
    (λ e. less_control_differs g c s e ∙ sym (stops-zero g s c ∙ ap (λ b. b && (eqb (bit s c) 0 && fires less s)) e))
    (λ e. ap not (eq-eqb (step less s) (step g s) (ap (λ h. step h s) (less_same g c e)))
    ∙ sym (stops-zero g s c ∙ ap (λ b. b && (eqb (bit s c) 0 && fires less s)) e))

-- with a line as a control too, where the line is 0 and the gate fires
pub more_differs : (g : Gate) (a s : ℕ) → not (eqb (step (more_control a g) s) (step g s)) ≡ (eqb (bit s a) 0 && fires g s)
more_differs g a s = by_test (is_control g a)
    (λ e. ap not (eq-eqb (step (more_control a g) s) (step g s) (ap (λ h. step h s) (more_same g a e))) ∙ sym (control_off g a s e))
    (λ e. more_control_differs g a s e)

-- as code finds them: the one zero of the mask
pub stopping_code : (n : ℕ) (g : Gate) (s : ℕ) → n ≤ most_lines → GateOk n g → lone_zero g.controls s ≡ stopping n g s
unfolding stopping
stopping_code n g s wide ok =
    let zero-alone : ℕ → Bool = λ c. is_control g c && (eqb (bit s c) 0 && fires (less_control c g) s) in
    lone_control g s
    ∙ word_of-wide n 32 zero-alone wide (λ c above. ap (λ b. b && (eqb (bit s c) 0 && fires (less_control c g) s)) (control_above n g c ok above))
    ∙ word_of-cong n zero-alone (stops g s) (λ c l. sym (stops-zero g s c))
