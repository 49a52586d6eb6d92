-- What is known of a fault that a sound circuit has, by its class.
use Prim.Native.Nat.{ℕ, ◌≤◌, ◌<◌}
use mathlib.Core.Path.{◌≡◌, sym, ◌∙◌}
use mathlib.Core.Logic.{◌≢◌}
use mathlib.Core.Bool.{true, false}
use mathlib.Core.List.{List}
use native.Mathlib.Omega.{arith}
use lib.ListN.{length}
use Rattle.basics.proofs.Tests.{by_equal}
use Rattle.circuit.specs.Limits.{most_lines}
use Rattle.circuit.specs.Gates.{gates_of, gate_at}
use Rattle.circuit.specs.Controls.{is_control, less_control, more_control}
use Rattle.circuit.specs.Sound.{Sound}
use Rattle.circuit.proofs.ControlLaws.{control_in}
use Rattle.circuit.proofs.RuleLaws.{gate_ok}
use Rattle.faults.specs.Rules.{is_fault}
use Rattle.faults.specs.Stuck.{StuckOk}
use Rattle.faults.specs.declared.Fault.{Fault}
use Rattle.faults.proofs.RuleLaws.{class_one, class_two, class_three, class_four, class_last, stuck_at_ok, missing_gate_ok}
use Rattle.faults.proofs.RuleLaws.{missing_control_ok, extra_control_ok, missing_gate_value, missing_control_value, extra_control_value}

module _ (n : ℕ) (words : List ℕ) (f : Fault) (ok : Sound n words) (is : is_fault n (gates_of words) f ≡ true) where
  pub stuck_fault : f.class ≡ 1 → StuckOk n (length (gates_of words)) f
  stuck_fault e = stuck_at_ok n (gates_of words) f e (sym (class_one n (gates_of words) f e) ∙ is)

  -- a fault of any other class names a gate
  pub names-gate : f.class ≢ 1 → (1 ≤ f.place) × (f.place ≤ length (gates_of words))
  names-gate d = by_equal f.class 2
      (λ e. let w = missing_gate_ok n (gates_of words) f (sym (class_two n (gates_of words) f e) ∙ is) in (w.0, w.1))
      (λ d2. by_equal f.class 3
      (λ e. let w = missing_control_ok n (gates_of words) f (sym (class_three n (gates_of words) f e) ∙ is) in (w.0, w.1))
      (λ d3.
      let e = class_last n (gates_of words) f is d d2 d3 in
      let w = extra_control_ok n (gates_of words) f (sym (class_four n (gates_of words) f e) ∙ is) in
      (w.0, w.1)))

  -- and no value
  pub no_value : f.class ≢ 1 → f.value ≡ 0
  no_value d = by_equal f.class 2
      (λ e. missing_gate_value n (gates_of words) f (sym (class_two n (gates_of words) f e) ∙ is))
      (λ d2. by_equal f.class 3
      (λ e. missing_control_value n (gates_of words) f (sym (class_three n (gates_of words) f e) ∙ is))
      (λ d3. extra_control_value n (gates_of words) f (sym (class_four n (gates_of words) f (class_last n (gates_of words) f is d d2 d3)) ∙ is)))

  -- a missing control is a control, and an extra one is not
  pub is_missing : f.class ≡ 3 → is_control (gate_at (gates_of words) f.place) f.line ≡ true
  is_missing e = (missing_control_ok n (gates_of words) f (sym (class_three n (gates_of words) f e) ∙ is)).2

  pub is_extra : f.class ≡ 4 → is_control (gate_at (gates_of words) f.place) f.line ≡ false
  is_extra e = (extra_control_ok n (gates_of words) f (sym (class_four n (gates_of words) f e) ∙ is)).3

  -- the line of a fault is one of the circuit's
  pub names-line : f.line < n
  names-line = by_equal f.class 1
      (λ e. (stuck_fault e).line_in)
      (λ d1. by_equal f.class 2
      (λ e. omega (arith, (missing_gate_ok n (gates_of words) f (sym (class_two n (gates_of words) f e) ∙ is)).2, ok.some_lines))
      (λ d2. by_equal f.class 3
      (λ e.
      let w = names-gate d1 in
      control_in n (gate_at (gates_of words) f.place) f.line (gate_ok n words f.place ok w.0 w.1) (is_missing e))
      (λ d3.
      let e = class_last n (gates_of words) f is d1 d2 d3 in
      (extra_control_ok n (gates_of words) f (sym (class_four n (gates_of words) f e) ∙ is)).2)))

  -- the gate and the line that a fault of a gate names
  pub names_both : f.class ≢ 1 → (1 ≤ f.place) × (f.place ≤ length (gates_of words)) × (f.line < most_lines)
  names_both d = let w = names-gate d in (w.0, w.1, omega (arith, names-line, ok.lines_fit))

  -- the gate that a fault names has a target in the word, also with a control less or more
  pub less_target : f.class ≢ 1 → (less_control f.line (gate_at (gates_of words) f.place)).target < most_lines
  unfolding less_control
  less_target d = let w = names-gate d in let g = gate_ok n words f.place ok w.0 w.1 in omega arith

  pub more_target : f.class ≢ 1 → (more_control f.line (gate_at (gates_of words) f.place)).target < most_lines
  unfolding more_control
  more_target d = let w = names-gate d in let g = gate_ok n words f.place ok w.0 w.1 in omega arith
