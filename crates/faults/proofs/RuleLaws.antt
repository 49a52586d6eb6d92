-- Laws of the rules of faults: what a fault that breaks none is, class by class.
use Prim.Native.Nat.{ℕ, ◌≤◌, ◌<◌}
use mathlib.Core.Path.{◌≡◌, refl, sym, ◌∙◌}
use Rattle.std.specs.Prelude.{Result, Ok, Err}
use mathlib.Core.Logic.{◌≢◌}
use mathlib.Core.Bool.{true, false, not, true≢false}
use mathlib.Core.List.{List}
use native.Mathlib.Omega.{arith}
use lib.ListN.{length}
use lib.Dec.{eqb, ltb, leb}
use borrow.Author.Tests.{ltb-true, leb-true, eqb-true, eq-eqb, ne_eqb, le-leb, not-true, not-false}
use Rattle.basics.proofs.Tests.{by_test, and_both, and-true, choice-true, choice-false}
use Rattle.words.specs.Word.{bit}
use Rattle.refusals.specs.Tables.{first_of}
use Rattle.refusals.specs.Tables.Told.{refused}
use Rattle.refusals.specs.Answers.{fine, number_of, place_of}
use Rattle.refusals.specs.declared.Refusal.{Refusal}
use Rattle.refusals.specs.declared.Refusal.TheVariants as refusal
use Rattle.refusals.proofs.Clashes.{refused-answered}
use Rattle.refusals.proofs.Tables.{fine_row}
use Rattle.circuit.specs.Gates.{gates_of, gate_at}
use Rattle.circuit.specs.Controls.{is_control, is_other}
use Rattle.circuit.specs.declared.Gate.{Gate}
use Rattle.faults.specs.Sites.{sites}
use Rattle.faults.specs.Rules.{is_stuck_at, is_gate, is_missing_gate, is_missing_control, is_extra_control, is_fault, fault_rows}
use Rattle.faults.specs.Stuck.{StuckOk}
use Rattle.faults.specs.Kinds.{class_number, class_of}
use Rattle.faults.specs.declared.classes.Class.{Class}
use Rattle.faults.specs.declared.classes.Class.TheVariants.{StuckAt}
use Rattle.circuit.specs.Sound.{Sound}
use Rattle.circuit.proofs.ControlLaws.{control_above}
use Rattle.circuit.proofs.RuleLaws.{gate_ok}
use Rattle.faults.specs.declared.Fault.{Fault}
use Rattle.circuit.proofs.LineLaws.{untouched}
use Rattle.faults.proofs.SiteLaws.{site_line}

-- gates are numbered from 1 to the last
pub gate_there : (gs : List Gate) (i : ℕ) → 1 ≤ i → i ≤ length gs → is_gate gs i ≡ true
unfolding is_gate
gate_there gs i lo hi = and-true (le-leb 1 i lo) (le-leb i (length gs) hi)

pub gate_in : (gs : List Gate) (i : ℕ) → is_gate gs i ≡ true → (1 ≤ i) × (i ≤ length gs)
unfolding is_gate
gate_in gs i t = let w = and_both (leb 1 i) (leb i (length gs)) t in (leb-true _ _ w.0, leb-true _ _ w.1)

module _ (n : ℕ) (gs : List Gate) (f : Fault) where
  -- ---- the class decides which fields are asked

  pub class_one : f.class ≡ 1 → is_fault n gs f ≡ is_stuck_at n gs f
  unfolding is_fault
  class_one e = choice-true (eq-eqb f.class 1 e) _ _

  pub class_two : f.class ≡ 2 → is_fault n gs f ≡ is_missing_gate gs f
  unfolding is_fault
  class_two e = choice-false (ne_eqb f.class 1 (λ q. omega arith)) _ _ ∙ choice-true (eq-eqb f.class 2 e) _ _

  pub class_three : f.class ≡ 3 → is_fault n gs f ≡ is_missing_control gs f
  unfolding is_fault
  class_three e =
      choice-false (ne_eqb f.class 1 (λ q. omega arith)) _ _ ∙ choice-false (ne_eqb f.class 2 (λ q. omega arith)) _ _
      ∙ choice-true (eq-eqb f.class 3 e) _ _

  pub class_four : f.class ≡ 4 → is_fault n gs f ≡ is_extra_control n gs f
  unfolding is_fault
  class_four e =
      choice-false (ne_eqb f.class 1 (λ q. omega arith)) _ _ ∙ choice-false (ne_eqb f.class 2 (λ q. omega arith)) _ _
      ∙ choice-false (ne_eqb f.class 3 (λ q. omega arith)) _ _ ∙ choice-true (eq-eqb f.class 4 e) _ _

  pub class_none : f.class ≢ 1 → f.class ≢ 2 → f.class ≢ 3 → f.class ≢ 4 → is_fault n gs f ≡ false
  unfolding is_fault
  class_none a b c d =
      choice-false (ne_eqb f.class 1 a) _ _ ∙ choice-false (ne_eqb f.class 2 b) _ _
      ∙ choice-false (ne_eqb f.class 3 c) _ _ ∙ choice-false (ne_eqb f.class 4 d) _ _

  -- a fault that is of none of the first three is of the fourth
  pub class_last : is_fault n gs f ≡ true → f.class ≢ 1 → f.class ≢ 2 → f.class ≢ 3 → f.class ≡ 4
  class_last t a b c = by_test (eqb f.class 4) (eqb-true f.class 4)
      (λ e. absurd (true≢false (sym t ∙ class_none a b c (λ q. true≢false (sym (eq-eqb f.class 4 q) ∙ e)))))

  -- ---- what the fields of a fault are

  pub stuck_at_ok : f.class ≡ 1 → is_stuck_at n gs f ≡ true → StuckOk n (length gs) f
  unfolding is_stuck_at
  stuck_at_ok e t =
      let w = and_both (leb f.place (length gs)) _ t in
      let v = and_both (eqb (bit (sites n gs f.place) f.line) 1) (leb f.value 1) w.1 in
      record { class_is = e; place_in = leb-true _ _ w.0; line_in = site_line n gs f.place f.line v.0; value_in = leb-true _ _ v.1 }

  pub missing_gate_ok : is_missing_gate gs f ≡ true → (1 ≤ f.place) × (f.place ≤ length gs) × (f.line ≡ 0)
  unfolding is_missing_gate
  missing_gate_ok t =
      let w = and_both (is_gate gs f.place) _ t in
      let p = gate_in gs f.place w.0 in
      (p.0, p.1, eqb-true f.line 0 (and_both (eqb f.line 0) (eqb f.value 0) w.1).0)

  pub missing_control_ok : is_missing_control gs f ≡ true
      → (1 ≤ f.place) × (f.place ≤ length gs) × (is_control (gate_at gs f.place) f.line ≡ true)
  unfolding is_missing_control
  missing_control_ok t =
      let w = and_both (is_gate gs f.place) _ t in
      let p = gate_in gs f.place w.0 in
      (p.0, p.1, (and_both (is_control (gate_at gs f.place) f.line) (eqb f.value 0) w.1).0)

  pub extra_control_ok : is_extra_control n gs f ≡ true
      → (1 ≤ f.place) × (f.place ≤ length gs) × (f.line < n) × (is_control (gate_at gs f.place) f.line ≡ false)
  unfolding is_extra_control is_other
  extra_control_ok t =
      let w = and_both (is_gate gs f.place) _ t in
      let p = gate_in gs f.place w.0 in
      let v = and_both (ltb f.line n) _ w.1 in
      let o = and_both (is_other (gate_at gs f.place) f.line) (eqb f.value 0) v.1 in
      (p.0, p.1, ltb-true _ _ v.0, (untouched (gate_at gs f.place) f.line (not-true _ o.0)).0)

  -- the value of a gate fault is 0
  pub missing_gate_value : is_missing_gate gs f ≡ true → f.value ≡ 0
  unfolding is_missing_gate
  missing_gate_value t = eqb-true f.value 0 (and_both (eqb f.line 0) _ (and_both (is_gate gs f.place) _ t).1).1

  pub missing_control_value : is_missing_control gs f ≡ true → f.value ≡ 0
  unfolding is_missing_control
  missing_control_value t =
      eqb-true f.value 0 (and_both (is_control (gate_at gs f.place) f.line) _ (and_both (is_gate gs f.place) _ t).1).1

  pub extra_control_value : is_extra_control n gs f ≡ true → f.value ≡ 0
  unfolding is_extra_control
  extra_control_value t =
      let w = and_both (ltb f.line n) _ (and_both (is_gate gs f.place) _ t).1 in
      eqb-true f.value 0 (and_both (is_other (gate_at gs f.place) f.line) _ w.1).1

-- a line that is none of the circuit's is no control of a gate
pub control_beyond : (n : ℕ) (words : List ℕ) (i j : ℕ) → Sound n words → is_gate (gates_of words) i ≡ true → n ≤ j
    → is_control (gate_at (gates_of words) i) j ≡ false
control_beyond n words i j s g h =
    let place = gate_in (gates_of words) i g in
    control_above n (gate_at (gates_of words) i) j (gate_ok n words i s place.0 place.1) h

-- ---- the class of a number

ok_err {ℓ} : {P : Type ℓ} {class : Class} {r : Refusal} → Ok class ≡ Err r → P
ok_err e = let z : ◌≡◌ {A = ℕ} 0 1 = cc in absurd (omega arith)

ok_one : {a b : Class} → ◌≡◌ {A = Result Class Refusal} (Ok a) (Ok b) → a ≡ b
ok_one e = cc

err_one : {p q : Refusal} → ◌≡◌ {A = Result Class Refusal} (Err p) (Err q) → p ≡ q
err_one e = cc

pub class_known : (k : ℕ) (class : Class) → Ok class ≡ class_of k → k ≡ class_number class
class_known k class e =
    by_test (eqb k 1) (λ t. let is : class ≡ StuckAt = ok_one (e ∙ choice-true t _ _) in rw is (eqb-true k 1 t)) (λ a.
    by_test (eqb k 2) (λ t. let is = ok_one (e ∙ choice-false a _ _ ∙ choice-true t _ _) in rw is (eqb-true k 2 t)) (λ b.
    by_test (eqb k 3) (λ t. let is = ok_one (e ∙ choice-false a _ _ ∙ choice-false b _ _ ∙ choice-true t _ _) in rw is (eqb-true k 3 t)) (λ c.
    by_test (eqb k 4) (λ t. let is = ok_one (e ∙ choice-false a _ _ ∙ choice-false b _ _ ∙ choice-false c _ _ ∙ choice-true t _ _) in
    rw is (eqb-true k 4 t)) (λ d.
    ok_err (e ∙ choice-false a _ _ ∙ choice-false b _ _ ∙ choice-false c _ _ ∙ choice-false d _ _)))))

-- a number that is no class's: no fault has it, and its refusal is the rule's
pub class_refused : (n : ℕ) (words : List ℕ) (f : Fault) (r : Refusal) → Err r ≡ class_of f.class
    → refused (number_of r) (place_of r) ≡ first_of (fault_rows n words f) fine
unfolding fault_rows
class_refused n words f r e =
    by_test (eqb f.class 1) (λ t. ok_err (sym (e ∙ choice-true t _ _))) (λ a.
    by_test (eqb f.class 2) (λ t. ok_err (sym (e ∙ choice-false a _ _ ∙ choice-true t _ _))) (λ b.
    by_test (eqb f.class 3) (λ t. ok_err (sym (e ∙ choice-false a _ _ ∙ choice-false b _ _ ∙ choice-true t _ _))) (λ c.
    by_test (eqb f.class 4) (λ t. ok_err (sym (e ∙ choice-false a _ _ ∙ choice-false b _ _ ∙ choice-false c _ _ ∙ choice-true t _ _))) (λ d.
    let is : r ≡ refusal.Fault 1 = err_one (e ∙ choice-false a _ _ ∙ choice-false b _ _ ∙ choice-false c _ _ ∙ choice-false d _ _) in
    let none = class_none n (gates_of words) f (λ q. true≢false (sym (eq-eqb f.class 1 q) ∙ a)) (λ q. true≢false (sym (eq-eqb f.class 2 q) ∙ b))
    (λ q. true≢false (sym (eq-eqb f.class 3 q) ∙ c)) (λ q. true≢false (sym (eq-eqb f.class 4 q) ∙ d)) in
    rw (is, none) refl))))

-- so the number of a fault of the circuit is one
pub class_there : (n : ℕ) (words : List ℕ) (f : Fault) (r : Refusal) → is_fault n (gates_of words) f ≡ true → Err r ≡ class_of f.class → ⊥
unfolding fault_rows
class_there n words f r is e =
    let passed : refused (number_of r) (place_of r) ≡ fine = class_refused n words f r e ∙ rw is refl in
    refused-answered passed

-- ---- calls whose rules none is broken

pub fault_ok : (n : ℕ) (words : List ℕ) (f : Fault) → fine ≡ first_of (fault_rows n words f) fine → is_fault n (gates_of words) f ≡ true
unfolding fault_rows
fault_ok n words f e = not-false _ (fine_row (not (is_fault n (gates_of words) f)) 9 1 fine e).0
