-- The lists of faults that the contracts cite are those of `Machine` and `FaultLists`: the faults of a class, those that are caught, and the
-- verdict on them.
use Prim.Native.Nat.{ℕ, suc, ◌<◌}
use mathlib.Core.Path.{◌≡◌, refl, sym, ◌∙◌, subst}
use mathlib.Core.Bool.{Bool}
use mathlib.Core.List.{List, [], ◌∷◌, ◌++◌, Memᴰ}
use native.Mathlib.Nat.{le_refl}
use native.Mathlib.Omega.{arith}
use lib.ListN.{length}
use Rattle.basics.specs.Lists.{up_from, keep, each, All}
use Rattle.basics.proofs.Rising.{Rising, rising_up, rising_keep}
use Rattle.basics.proofs.Tests.{by_equal}
use Rattle.basics.proofs.All.{all_map, all_of, all_append}
use Rattle.basics.proofs.Lists.{all-each}
use Rattle.words.specs.Word.{lines_on}
use Rattle.circuit.specs.Gates.{gate_at}
use Rattle.circuit.specs.Controls.{is_control, is_other}
use Rattle.circuit.specs.Sound.{AllOk}
use Rattle.circuit.specs.declared.Gate.{Gate}
use Rattle.faults.specs.Sites.{sites}
use Rattle.faults.specs.declared.Fault.{Fault}
use Rattle.faults.specs.Classes.{fault_of, stuck_faults, missing_gates, missing_controls, extra_controls, class_faults}
use Rattle.faults.proofs.ClassLists.{list_one, list_two, list_three, list_four, list_none, class_faults-are, in_class_list}
use Rattle.demands.proofs.HasLaws.{has_of, of_has}
use Rattle.demands.proofs.FaultLists.{Before, Ordered, Class}
use Rattle.demands.proofs.FaultLists.Before.{by_place, by_line, by_value}

-- ---- order

ordered_append : (fs hs : List Fault) → Ordered fs → Ordered hs → All (λ f. All (Before f) hs) fs → Ordered (fs ++ hs)
ordered_append [] hs o p w = p
ordered_append (f ∷ fs) hs o p w = (all_append (Before f) fs hs o.0 w.0, ordered_append fs hs o.1 p w.1)

-- what is made of rising numbers is in order, where each part is and the parts of two numbers are
module _ (F : ℕ → List Fault) (Part : ℕ → Fault → Type 0) (parts : (y : ℕ) → All (Part y) (F y))
    (rise : (y z : ℕ) (f h : Fault) → y < z → Part y f → Part z h → Before f h) (each-ordered : (y : ℕ) → Ordered (F y)) where
  later : (y : ℕ) (f : Fault) → Part y f → (ys : List ℕ) → All (λ z. y < z) ys → All (Before f) (each F ys)
  later y f p ys w = all-each F (Before f) ys (all_map (λ z l. all_map (λ h q. rise y z f h l p q) (F z) (parts z)) ys w)

  ordered_each : (ys : List ℕ) → Rising ys → Ordered (each F ys)
  unfolding each
  ordered_each [] r = tt
  ordered_each (y ∷ ys) r =
      ordered_append (F y) (each F ys) (each-ordered y) (ordered_each ys r.1)
      (all_map (λ f p. later y f p ys r.0) (F y) (parts y))

-- a level's or a gate's faults, line by line
abbrev At : ℕ → ℕ → Fault → Type 0
At i j f = (f.place ≡ i) × (f.line ≡ j)

line_rise : (i y z : ℕ) (f h : Fault) → y < z → At i y f → At i z h → Before f h
line_rise i y z f h l p q = let a = p.0 in let b = p.1 in let c = q.0 in let d = q.1 in by_line (a ∙ sym c) (omega arith)

place_rise : (y z : ℕ) (f h : Fault) → y < z → f.place ≡ y → h.place ≡ z → Before f h
place_rise y z f h l p q = by_place (omega arith)

module _ (n : ℕ) (gs : List Gate) where
  stuck_ordered : Ordered (stuck_faults n gs)
  unfolding stuck_faults fault_of lines_on
  stuck_ordered =
      let line : ℕ → ℕ → List Fault = λ i j. fault_of 1 i j 0 ∷ fault_of 1 i j 1 ∷ [] in
      let level : ℕ → List Fault = λ i. each (line i) (lines_on n (sites n gs i)) in
      ordered_each level (λ i f. f.place ≡ i)
      (λ i. all-each (line i) (λ f. f.place ≡ i) (lines_on n (sites n gs i)) (all_of _ (λ j. (refl, (refl, tt))) (lines_on n (sites n gs i))))
      place_rise
      (λ i. ordered_each (line i) (At i) (λ j. ((refl, refl), ((refl, refl), tt))) (line_rise i)
      (λ j. ((by_value refl refl (le_refl 1), tt), (tt, tt)))
      (lines_on n (sites n gs i)) (rising_keep _ (up_from 0 n) (rising_up 0 n)))
      (up_from 0 (suc (length gs))) (rising_up 0 (suc (length gs)))

  missing_gates_ordered : Ordered (missing_gates gs)
  unfolding missing_gates fault_of
  missing_gates_ordered =
      ordered_each (λ i. fault_of 2 i 0 0 ∷ []) (λ i f. f.place ≡ i) (λ i. (refl, tt)) place_rise (λ i. (tt, tt))
      (up_from 1 (length gs)) (rising_up 1 (length gs))

  -- a fault of class k for each line of each gate that passes a test
  by_gate_ordered : (k : ℕ) (test : ℕ → ℕ → Bool)
      → Ordered (each (λ i. each (λ c. fault_of k i c 0 ∷ []) (keep (test i) (up_from 0 n))) (up_from 1 (length gs)))
  unfolding fault_of
  by_gate_ordered k test =
      let line : ℕ → ℕ → List Fault = λ i c. fault_of k i c 0 ∷ [] in
      let lines : ℕ → List ℕ = λ i. keep (test i) (up_from 0 n) in
      ordered_each (λ i. each (line i) (lines i)) (λ i f. f.place ≡ i)
      (λ i. all-each (line i) (λ f. f.place ≡ i) (lines i) (all_of _ (λ c. (refl, tt)) (lines i)))
      place_rise
      (λ i. ordered_each (line i) (At i) (λ c. ((refl, refl), tt)) (line_rise i) (λ c. (tt, tt))
      (lines i) (rising_keep (test i) (up_from 0 n) (rising_up 0 n)))
      (up_from 1 (length gs)) (rising_up 1 (length gs))

  missing_controls_ordered : Ordered (missing_controls n gs)
  unfolding missing_controls
  missing_controls_ordered = by_gate_ordered 3 (λ i. is_control (gate_at gs i))

  extra_controls_ordered : Ordered (extra_controls n gs)
  unfolding extra_controls
  extra_controls_ordered = by_gate_ordered 4 (λ i. is_other (gate_at gs i))

  class_ordered : (k : ℕ) → Ordered (class_faults n gs k)
  class_ordered k = by_equal k 1
      (λ e. subst Ordered (sym (list_one n gs k e)) stuck_ordered)
      (λ a. by_equal k 2
      (λ e. subst Ordered (sym (list_two n gs k e)) missing_gates_ordered)
      (λ b. by_equal k 3
      (λ e. subst Ordered (sym (list_three n gs k e)) missing_controls_ordered)
      (λ c. by_equal k 4
      (λ e. subst Ordered (sym (list_four n gs k e)) extra_controls_ordered)
      (λ d. subst Ordered (sym (list_none n gs k a b c d)) tt))))

  pub class_is : AllOk n gs → (k : ℕ) → Class n gs k (class_faults n gs k)
  class_is ok k = record {
    each-is = all_map (λ f of. (of.0, has_of n gs f of.1)) (class_faults n gs k) (class_faults-are n gs k);
    has_all = λ f e h. subst (λ c. Memᴰ f (class_faults n gs c)) e (in_class_list n gs f ok (of_has n gs f h));
    ordered = class_ordered k;
  }
