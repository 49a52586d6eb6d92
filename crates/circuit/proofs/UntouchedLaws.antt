-- Laws of a line that a gate does not touch: the gate leaves its value as it is, and does the same whatever that value is.
use Prim.Native.Nat.{ℕ}
use mathlib.Core.Path.{◌≡◌, sym, ◌∙◌}
use mathlib.Core.Bool.{true, false, true≢false}
use Rattle.basics.proofs.Tests.{bool_ext, by_test}
use Rattle.words.specs.Word.{bit, force}
use Rattle.words.proofs.Lines.{bit_flip_other, bit_force_other, force-flip}
use Rattle.circuit.specs.Controls.{is_control, touches}
use Rattle.circuit.specs.Runs.{fires, step}
use Rattle.circuit.specs.declared.Gate.{Gate}
use Rattle.circuit.proofs.ControlLaws.{fires_iff}
use Rattle.circuit.proofs.LineLaws.{untouched}

module _ (g : Gate) (j : ℕ) (off : touches g j ≡ false) where
  pub step_keeps : (s : ℕ) → bit (step g s) j ≡ bit s j
  unfolding step
  step_keeps s = by_test (fires g s) (λ t. rw t (bit_flip_other s g.target j (λ e. (untouched g j off).1 (sym e)))) (λ t. rw t)

  -- a control is another line
  fires-force : (s v : ℕ) → fires g (force s j v) ≡ fires g s
  fires-force s v =
      let other : (c : ℕ) → is_control g c ≡ true → bit (force s j v) c ≡ bit s c =
      λ c on. bit_force_other s j v c (λ e. true≢false (sym on ∙ rw (← e) (untouched g j off).0)) in
      bool_ext
      (λ t. (fires_iff g s).1 (λ c on. sym (other c on) ∙ (fires_iff g (force s j v)).0 t c on))
      (λ t. (fires_iff g (force s j v)).1 (λ c on. other c on ∙ (fires_iff g s).0 t c on))

  pub step-force : (s v : ℕ) → step g (force s j v) ≡ force (step g s) j v
  unfolding step
  step-force s v = rw (fires-force s v)
      (by_test (fires g s) (λ t. rw t (force-flip s j v g.target (λ e. (untouched g j off).1 (sym e)))) (λ t. rw t))
