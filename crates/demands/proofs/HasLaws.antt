-- The faults that the contracts cite are those of `Machine` and `FaultLists`: which faults a circuit has, alone, in a list of records, and together.
use Prim.Native.Nat.{ℕ, zero, suc, ◌*◌, ◌≤◌, ◌<◌, zero-le, suc-le-suc}
use mathlib.Core.Path.{◌≡◌, refl, sym, ap, ◌∙◌}
use mathlib.Core.Logic.{◌≢◌, ◌↔◌}
use mathlib.Core.Logic.◌⊎◌.{inl, inr}
use mathlib.Core.Bool.{true, false, true≢false, not, ◌||◌, or-true}
use mathlib.Core.List.{List, [], ◌∷◌}
use native.Mathlib.Omega.{arith}
use lib.ListN.{length}
use lib.Dec.{eqb, ltb, leb}
use borrow.Author.Tests.{eq-eqb, eqb-true, leb-true, le-leb, ltb-true, lt-ltb, not-true}
use Rattle.basics.proofs.Tests.{by_test, by_equal, and-true, and_both}
use Rattle.words.specs.Word.{bit}
use Rattle.circuit.specs.Gates.{gate_at, no_gate}
use Rattle.circuit.specs.Controls.{is_control, touches, is_other}
use Rattle.circuit.specs.declared.Gate.{Gate}
use Rattle.faults.specs.Rules.{is_stuck_at, is_gate, is_missing_gate, is_missing_control, is_extra_control, is_fault}
use Rattle.faults.specs.Records.{faults_of}
use Rattle.faults.specs.Sites.{sites}
use Rattle.faults.specs.Stuck.{StuckOk}
use Rattle.faults.specs.declared.Fault.{Fault}
use Rattle.circuit.proofs.LineLaws.{untouched}
use Rattle.faults.proofs.RuleLaws.{class_one, class_two, class_three, class_four, class_last, stuck_at_ok}
use Rattle.faults.proofs.SiteLaws.{input_site, gate_site}
use Rattle.demands.proofs.Machine.{Touches, Site, Has, records}
use Rattle.demands.proofs.Machine.Site.{input, touched}
use Rattle.demands.proofs.Machine.Has.{stuck_at, missing_gate, missing_control, extra_control}
use Rattle.demands.proofs.MachineLaws.{control_iff}

-- ---- sites

touches_iff : (g : Gate) (j : ℕ) → (touches g j ≡ true) ↔ Touches g j
unfolding touches
touches_iff g j = (
  λ t. by_test (is_control g j)
      (λ on. inl ((control_iff g j).0 on))
      (λ off. inr (eqb-true j g.target (sym (ap (λ b. b || eqb j g.target) off) ∙ t))),
  by_either,
)
  where
    by_either : Touches g j → (is_control g j || eqb j g.target) ≡ true
    by_either (inl on) = ap (λ b. b || eqb j g.target) ((control_iff g j).1 on)
    by_either (inr at) = ap (λ b. is_control g j || b) (eq-eqb j g.target at) ∙ or-true (is_control g j)

module _ (n : ℕ) (gs : List Gate) where
  pub site_of : (i j : ℕ) → i ≤ length gs → j < n → eqb (bit (sites n gs i) j) 1 ≡ true → Site n gs i j
  unfolding gate_at no_gate
  site_of zero j hi h on = input refl h
  site_of (suc i) j hi h on =
      touched (suc-le-suc zero-le) hi h
      ((touches_iff (gate_at gs (suc i)) j).0 (sym (gate_site n gs (suc i) j (suc-le-suc zero-le) h) ∙ on))

  of_site : (i j : ℕ) → Site n gs i j → eqb (bit (sites n gs i) j) 1 ≡ true
  unfolding gate_at no_gate
  of_site i j (input e h) = eq-eqb (bit (sites n gs i) j) 1 (ap (λ k. bit (sites n gs k) j) e ∙ input_site n gs j h)
  of_site i j (touched lo hi h t) = gate_site n gs i j lo h ∙ (touches_iff (gate_at gs i) j).1 t

  -- a level and a line of the circuit
  site_in : (i j : ℕ) → Site n gs i j → (i ≤ length gs) × (j < n)
  site_in i j (input e h) = (omega arith, h)
  site_in i j (touched lo hi h t) = (hi, h)

-- ---- which faults a circuit has

module _ (n : ℕ) (gs : List Gate) (f : Fault) where
  gate_in : is_gate gs f.place ≡ true → (1 ≤ f.place) × (f.place ≤ length gs)
  unfolding is_gate
  gate_in t = let w = and_both (leb 1 f.place) (leb f.place (length gs)) t in (leb-true _ _ w.0, leb-true _ _ w.1)

  in_gate : 1 ≤ f.place → f.place ≤ length gs → is_gate gs f.place ≡ true
  unfolding is_gate
  in_gate lo hi = and-true (le-leb 1 f.place lo) (le-leb f.place (length gs) hi)

  has_stuck : f.class ≡ 1 → is_stuck_at n gs f ≡ true → Has n gs f
  unfolding is_stuck_at
  has_stuck e t =
      let k = stuck_at_ok n gs f e t in
      let w = (and_both (leb f.place (length gs)) _ t).1 in
      stuck_at e (site_of n gs f.place f.line k.place_in k.line_in (and_both _ (leb f.value 1) w).0) k.value_in

  has_missing_gate : f.class ≡ 2 → is_missing_gate gs f ≡ true → Has n gs f
  unfolding is_missing_gate
  has_missing_gate e t =
      let w = and_both (is_gate gs f.place) _ t in
      let p = gate_in w.0 in
      let z = and_both (eqb f.line 0) (eqb f.value 0) w.1 in
      missing_gate e p.0 p.1 (eqb-true _ _ z.0) (eqb-true _ _ z.1)

  has_missing_control : f.class ≡ 3 → is_missing_control gs f ≡ true → Has n gs f
  unfolding is_missing_control gate_at no_gate
  has_missing_control e t =
      let w = and_both (is_gate gs f.place) _ t in
      let p = gate_in w.0 in
      let z = and_both (is_control (gate_at gs f.place) f.line) (eqb f.value 0) w.1 in
      missing_control e p.0 p.1 ((control_iff (gate_at gs f.place) f.line).0 z.0) (eqb-true _ _ z.1)

  has_extra_control : f.class ≡ 4 → is_extra_control n gs f ≡ true → Has n gs f
  unfolding is_extra_control is_other gate_at no_gate
  has_extra_control e t =
      let g : Gate = gate_at gs f.place in
      let w = and_both (is_gate gs f.place) _ t in
      let p = gate_in w.0 in
      let l = and_both (ltb f.line n) _ w.1 in
      let o = and_both (is_other g f.line) (eqb f.value 0) l.1 in
      let c = untouched g f.line (not-true (touches g f.line) o.0) in
      extra_control e p.0 p.1 (ltb-true _ _ l.0) (λ on. true≢false (sym ((control_iff g f.line).1 on) ∙ c.0)) c.1 (eqb-true _ _ o.1)

  pub has_of : is_fault n gs f ≡ true → Has n gs f
  has_of is = by_equal f.class 1
      (λ e. has_stuck e (sym (class_one n gs f e) ∙ is))
      (λ a. by_equal f.class 2
      (λ e. has_missing_gate e (sym (class_two n gs f e) ∙ is))
      (λ b. by_equal f.class 3
      (λ e. has_missing_control e (sym (class_three n gs f e) ∙ is))
      (λ c. let e = class_last n gs f is a b c in has_extra_control e (sym (class_four n gs f e) ∙ is))))

  pub of_has : Has n gs f → is_fault n gs f ≡ true
  unfolding is_stuck_at is_missing_gate is_missing_control is_extra_control is_other gate_at no_gate
  of_has (stuck_at e s v) =
      let k = site_in n gs f.place f.line s in
      class_one n gs f e ∙ and-true (le-leb f.place (length gs) k.0) (and-true (of_site n gs f.place f.line s) (le-leb f.value 1 v))
  of_has (missing_gate e lo hi l v) =
      class_two n gs f e ∙ and-true (in_gate lo hi) (and-true (eq-eqb f.line 0 l) (eq-eqb f.value 0 v))
  of_has (missing_control e lo hi c v) =
      class_three n gs f e ∙ and-true (in_gate lo hi) (and-true ((control_iff (gate_at gs f.place) f.line).1 c) (eq-eqb f.value 0 v))
  of_has (extra_control e lo hi l c t v) =
      let g : Gate = gate_at gs f.place in
      class_four n gs f e ∙ and-true (in_gate lo hi) (and-true (lt-ltb f.line n l)
      (and-true (ap not (by_test (touches g f.line) (λ o. absurd (neither ((touches_iff g f.line).0 o))) (λ o. o))) (eq-eqb f.value 0 v)))
    where
      neither : Touches (gate_at gs f.place) f.line → ⊥
      neither (inl on) = c on
      neither (inr at) = t at

-- what is known of it by its class
module _ (n : ℕ) (gs : List Gate) (f : Fault) where
  pub has_line : Has n gs f → f.class ≡ 1 → StuckOk n (length gs) f
  has_line (stuck_at e s v) c =
      let k = site_in n gs f.place f.line s in record { class_is = e; place_in = k.0; line_in = k.1; value_in = v }
  has_line (missing_gate e lo hi l v) c = absurd (omega arith)
  has_line (missing_control e lo hi o v) c = absurd (omega arith)
  has_line (extra_control e lo hi l o t v) c = absurd (omega arith)

  pub has_value : Has n gs f → f.class ≡ 1 → f.value ≤ 1
  has_value h e = (has_line h e).value_in

  pub has_gate : Has n gs f → f.class ≢ 1 → (1 ≤ f.place) × (f.place ≤ length gs)
  has_gate (stuck_at e s v) d = absurd (d e)
  has_gate (missing_gate e lo hi l v) d = (lo, hi)
  has_gate (missing_control e lo hi o v) d = (lo, hi)
  has_gate (extra_control e lo hi l o t v) d = (lo, hi)

  pub has_control : Has n gs f → f.class ≡ 3 → is_control (gate_at gs f.place) f.line ≡ true
  unfolding gate_at no_gate
  has_control (stuck_at e s v) c = absurd (omega arith)
  has_control (missing_gate e lo hi l v) c = absurd (omega arith)
  has_control (missing_control e lo hi o v) c = (control_iff (gate_at gs f.place) f.line).1 o
  has_control (extra_control e lo hi l o t v) c = absurd (omega arith)

  pub has_no_control : Has n gs f → f.class ≡ 4 → is_control (gate_at gs f.place) f.line ≡ false
  unfolding gate_at no_gate
  has_no_control (stuck_at e s v) c = absurd (omega arith)
  has_no_control (missing_gate e lo hi l v) c = absurd (omega arith)
  has_no_control (missing_control e lo hi o v) c = absurd (omega arith)
  has_no_control (extra_control e lo hi l o t v) c =
      let g : Gate = gate_at gs f.place in
      by_test (is_control g f.line) (λ y. absurd (o ((control_iff g f.line).0 y))) (λ y. y)

-- ---- lists of records

pub records_faults : (list : List ℕ) → length list ≡ 4 * length (faults_of list) → list ≡ records (faults_of list)
unfolding faults_of
records_faults [] e = refl
records_faults (c ∷ []) e = absurd (omega arith)
records_faults (c ∷ p ∷ []) e = absurd (omega arith)
records_faults (c ∷ p ∷ l ∷ []) e = absurd (omega arith)
records_faults (c ∷ p ∷ l ∷ v ∷ rest) e = ap (λ more. c ∷ p ∷ l ∷ v ∷ more) (records_faults rest (omega arith))

pub faults_records : (fs : List Fault) → faults_of (records fs) ≡ fs
unfolding faults_of
faults_records [] = refl
faults_records (f ∷ fs) = ap (λ more. f ∷ more) (faults_records fs)
