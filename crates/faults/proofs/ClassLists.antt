-- The list of a class has the faults of that class, and has them all.
use Prim.Native.Nat.{ℕ, ◌-◌, ◌<◌}
use mathlib.Core.Path.{◌≡◌, refl, sym, ◌∙◌, subst}
use mathlib.Core.Logic.{◌≢◌}
use mathlib.Core.Bool.{true}
use mathlib.Core.List.Memᴰ
use mathlib.Core.List.{List, [], Memᴰ}
use native.Mathlib.Omega.{arith}
use lib.ListN.{length}
use lib.Dec.{eqb, ltb, leb}
use borrow.Author.Tests.{eq-eqb, ne_eqb, eqb-true, ltb-true, leb-true, le-leb, lt-ltb}
use Rattle.basics.specs.Lists.{All}
use Rattle.basics.proofs.Tests.{by_equal, and-true, and_both, choice-true, choice-false}
use Rattle.basics.proofs.All.{all_at}
use Rattle.basics.proofs.ListMore.{all_members}
use Rattle.words.specs.Word.{bit}
use Rattle.circuit.specs.Gates.{gate_at, no_gate}
use Rattle.circuit.specs.Controls.{is_control, is_other}
use Rattle.circuit.specs.Sound.{GateOk, AllOk}
use Rattle.circuit.specs.declared.Gate.{Gate}
use Rattle.circuit.proofs.ControlLaws.{control_in}
use Rattle.faults.specs.Sites.{sites}
use Rattle.faults.specs.Rules.{is_stuck_at, is_gate, is_missing_gate, is_missing_control, is_extra_control, is_fault}
use Rattle.faults.specs.declared.Fault.{Fault}
use Rattle.faults.proofs.RuleLaws.{gate_there, gate_in, class_one, class_two, class_three, class_four, class_last}
use Rattle.faults.specs.Classes.{fault_of, stuck_faults, missing_gates, missing_controls, extra_controls, class_faults}
use Rattle.faults.proofs.ClassParts.{all_stuck, stuck_all, all-missing_gates, missing_gates-all, all-missing_controls, missing_controls-all}
use Rattle.faults.proofs.ClassParts.{all-extra_controls, extra_controls-all}

-- ---- the list of a class by its code

module _ (n : ℕ) (gs : List Gate) (k : ℕ) where
  pub list_one : k ≡ 1 → class_faults n gs k ≡ stuck_faults n gs
  unfolding class_faults
  list_one e = choice-true (eq-eqb k 1 e) _ _

  pub list_two : k ≡ 2 → class_faults n gs k ≡ missing_gates gs
  unfolding class_faults
  list_two e = choice-false (ne_eqb k 1 (λ q. omega arith)) _ _ ∙ choice-true (eq-eqb k 2 e) _ _

  pub list_three : k ≡ 3 → class_faults n gs k ≡ missing_controls n gs
  unfolding class_faults
  list_three e = choice-false (ne_eqb k 1 (λ q. omega arith)) _ _ ∙ choice-false (ne_eqb k 2 (λ q. omega arith)) _ _ ∙ choice-true (eq-eqb k 3 e) _ _

  pub list_four : k ≡ 4 → class_faults n gs k ≡ extra_controls n gs
  unfolding class_faults
  list_four e =
      choice-false (ne_eqb k 1 (λ q. omega arith)) _ _ ∙ choice-false (ne_eqb k 2 (λ q. omega arith)) _ _
      ∙ choice-false (ne_eqb k 3 (λ q. omega arith)) _ _ ∙ choice-true (eq-eqb k 4 e) _ _

  pub list_none : k ≢ 1 → k ≢ 2 → k ≢ 3 → k ≢ 4 → class_faults n gs k ≡ []
  unfolding class_faults
  list_none a b c d =
      choice-false (ne_eqb k 1 a) _ _ ∙ choice-false (ne_eqb k 2 b) _ _ ∙ choice-false (ne_eqb k 3 c) _ _ ∙ choice-false (ne_eqb k 4 d) _ _

-- ---- every fault of a list is one, of that class

abbrev pub OfClass : ℕ → List Gate → ℕ → Fault → Type 0
OfClass n gs k f = (f.class ≡ k) × (is_fault n gs f ≡ true)

module _ (n : ℕ) (gs : List Gate) where
  stuck_ones : All (OfClass n gs 1) (stuck_faults n gs)
  unfolding fault_of is_fault is_stuck_at
  stuck_ones = all_stuck (OfClass n gs 1) n gs (λ i j v hi o hv.
      (refl, and-true (le-leb i (length gs) hi) (and-true (eq-eqb (bit (sites n gs i) j) 1 o) (le-leb v 1 hv))))

  missing_gate_ones : All (OfClass n gs 2) (missing_gates gs)
  unfolding fault_of is_fault is_missing_gate
  missing_gate_ones = all-missing_gates (OfClass n gs 2) gs (λ i lo hi. (refl, and-true (gate_there gs i lo hi) refl))

  missing_control_ones : All (OfClass n gs 3) (missing_controls n gs)
  unfolding fault_of is_fault is_missing_control
  missing_control_ones = all-missing_controls (OfClass n gs 3) n gs (λ i c lo hi h e. (refl, and-true (gate_there gs i lo hi) (and-true e refl)))

  extra_control_ones : All (OfClass n gs 4) (extra_controls n gs)
  unfolding fault_of is_fault is_extra_control
  extra_control_ones = all-extra_controls (OfClass n gs 4) n gs (λ i a lo hi h e.
      (refl, and-true (gate_there gs i lo hi) (and-true (lt-ltb a n h) (and-true e refl))))

  -- the list `zs` is the class's, so all of the class's list are of the class
  of_class : (k c : ℕ) (zs : List Fault) → k ≡ c → class_faults n gs k ≡ zs → All (OfClass n gs c) zs → All (OfClass n gs k) (class_faults n gs k)
  of_class k c zs e q w = subst (All (OfClass n gs k)) (sym q) (subst (λ m. All (OfClass n gs m) zs) (sym e) w)

  pub class_faults-are : (k : ℕ) → All (OfClass n gs k) (class_faults n gs k)
  class_faults-are k = by_equal k 1
      (λ e. of_class k 1 (stuck_faults n gs) e (list_one n gs k e) stuck_ones)
      (λ a. by_equal k 2
      (λ e. of_class k 2 (missing_gates gs) e (list_two n gs k e) missing_gate_ones)
      (λ b. by_equal k 3
      (λ e. of_class k 3 (missing_controls n gs) e (list_three n gs k e) missing_control_ones)
      (λ c. by_equal k 4
      (λ e. of_class k 4 (extra_controls n gs) e (list_four n gs k e) extra_control_ones)
      (λ d. subst (All (OfClass n gs k)) (sym (list_none n gs k a b c d)) tt))))

-- ---- every fault of the circuit is in the list of its class

-- a fault is known by its fields
pub same-fault : (f : Fault) {c l v : ℕ} → f.class ≡ c → f.line ≡ l → f.value ≡ v → f ≡ fault_of c f.place l v
unfolding fault_of
same-fault f a b d = λ i. record { class = a i; place = f.place; line = b i; value = d i }

module _ (n : ℕ) (gs : List Gate) (f : Fault) where
  in_stuck : f.class ≡ 1 → is_stuck_at n gs f ≡ true → Memᴰ f (stuck_faults n gs)
  unfolding is_stuck_at
  in_stuck e t =
      let w = and_both (leb f.place (length gs)) _ t in
      let v = and_both (eqb (bit (sites n gs f.place) f.line) 1) (leb f.value 1) w.1 in
      Memᴰ.cast (same-fault f e refl refl)
      (stuck_all (λ h. Memᴰ h (stuck_faults n gs)) n gs (all_members (stuck_faults n gs)) f.place f.line f.value (leb-true _ _ w.0)
      (eqb-true _ _ v.0) (leb-true _ _ v.1))

  in_missing_gates : f.class ≡ 2 → is_missing_gate gs f ≡ true → Memᴰ f (missing_gates gs)
  unfolding is_missing_gate
  in_missing_gates e t =
      let w = and_both (is_gate gs f.place) _ t in
      let p = gate_in gs f.place w.0 in
      let z = and_both (eqb f.line 0) (eqb f.value 0) w.1 in
      Memᴰ.cast (same-fault f e (eqb-true _ _ z.0) (eqb-true _ _ z.1))
      (missing_gates-all (λ h. Memᴰ h (missing_gates gs)) gs (all_members (missing_gates gs)) f.place p.0 p.1)

  in_missing_controls : AllOk n gs → f.class ≡ 3 → is_missing_control gs f ≡ true → Memᴰ f (missing_controls n gs)
  unfolding is_missing_control gate_at
  in_missing_controls ok e t =
      let g : Gate = gate_at gs f.place in
      let w = and_both (is_gate gs f.place) _ t in
      let p = gate_in gs f.place w.0 in
      let z = and_both (is_control g f.line) (eqb f.value 0) w.1 in
      let line : f.line < n = control_in n g f.line (all_at (GateOk n) gs (f.place - 1) no_gate (omega arith) ok) z.0 in
      Memᴰ.cast (same-fault f e refl (eqb-true _ _ z.1))
      (missing_controls-all (λ h. Memᴰ h (missing_controls n gs)) n gs (all_members (missing_controls n gs)) f.place f.line p.0
      p.1 line z.0)

  in_extra_controls : f.class ≡ 4 → is_extra_control n gs f ≡ true → Memᴰ f (extra_controls n gs)
  unfolding is_extra_control
  in_extra_controls e t =
      let g : Gate = gate_at gs f.place in
      let w = and_both (is_gate gs f.place) _ t in
      let p = gate_in gs f.place w.0 in
      let l = and_both (ltb f.line n) _ w.1 in
      let z = and_both (is_other g f.line) (eqb f.value 0) l.1 in
      Memᴰ.cast (same-fault f e refl (eqb-true _ _ z.1))
      (extra_controls-all (λ h. Memᴰ h (extra_controls n gs)) n gs (all_members (extra_controls n gs)) f.place f.line p.0 p.1
      (ltb-true _ _ l.0) z.0)

  pub in_class_list : AllOk n gs → is_fault n gs f ≡ true → Memᴰ f (class_faults n gs f.class)
  in_class_list ok is = by_equal f.class 1
      (λ e. subst (Memᴰ f) (sym (list_one n gs f.class e)) (in_stuck e (sym (class_one n gs f e) ∙ is)))
      (λ a. by_equal f.class 2
      (λ e. subst (Memᴰ f) (sym (list_two n gs f.class e)) (in_missing_gates e (sym (class_two n gs f e) ∙ is)))
      (λ b. by_equal f.class 3
      (λ e. subst (Memᴰ f) (sym (list_three n gs f.class e)) (in_missing_controls ok e (sym (class_three n gs f e) ∙ is)))
      (λ c.
      let e = class_last n gs f is a b c in
      subst (Memᴰ f) (sym (list_four n gs f.class e)) (in_extra_controls e (sym (class_four n gs f e) ∙ is)))))
