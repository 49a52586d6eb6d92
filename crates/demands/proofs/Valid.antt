-- What breaks no rule of a table is exactly what is valid in the words of docs/SCOPE.md: a circuit, with or without a set of vectors.
use Prim.Native.Nat.{ℕ, suc, ◌*◌, ◌%◌, ◌^◌, ◌≤◌, ◌<◌, ◌/◌}
use mathlib.Core.Path.{◌≡◌, refl, sym, ap, ◌∙◌, subst}
use mathlib.Core.Logic.{◌↔◌}
use mathlib.Core.Bool.{Bool, false, not}
use mathlib.Core.List.{List, [], ◌∷◌}
use native.Mathlib.Omega.{arith}
use lib.ListN.{length}
use lib.Dec.{eqb, leb}
use borrow.Author.Tests.{eq-eqb, eqb-true, lt-leb, not-false}
use Rattle.basics.specs.Lists.{All}
use Rattle.basics.proofs.Tests.{by_test, or-false, or_neither, choice-false}
use Rattle.basics.proofs.All.{all_map}
use Rattle.refusals.specs.Tables.{first_of}
use Rattle.refusals.specs.Answers.{fine}
use Rattle.refusals.specs.Places.{first_bad_from}
use Rattle.refusals.proofs.Tables.{fine_row}
use Rattle.refusals.proofs.Places.{none_bad}
use Rattle.circuit.specs.Gates.{gates_of}
use Rattle.circuit.specs.Controls.{is_control}
use Rattle.circuit.specs.Rules.{bad_lines, bad_counts, bad_gate, first_bad_gate, circuit_set_rows, circuit_rows}
use Rattle.circuit.specs.declared.Gate.{Gate}
use Rattle.circuit.proofs.GateLaws.{gates_count}
use Rattle.circuit.proofs.RuleLaws.{lines_good, counts_good, circuit_set_ok}
use Rattle.demands.proofs.Machine.{Control, flat, Circuit}
use Rattle.demands.proofs.MachineLaws.{control_iff, gates_flat, circuit-is}

-- a circuit whose spare words are 0
pub record Valid (n : ℕ) (words : List ℕ) (gs : List Gate) : Type 0 where
  pub circuit : Circuit n words gs
  pub spares : All (λ g. g.spare ≡ 0) gs

-- ---- what breaks no rule is valid

good_spare : (n : ℕ) (g : Gate) → bad_gate n g ≡ false → g.spare ≡ 0
unfolding bad_gate
good_spare n g e =
    let w = or_neither (leb (2 ^ n) g.controls) _ e in
    let v = or_neither (not (eqb g.spare 0)) _ w.1 in
    eqb-true g.spare 0 (not-false _ v.0)

pub no_bad_gate : (n : ℕ) (words : List ℕ) (m : ℕ) → fine ≡ first_of (circuit_set_rows n words m) fine → first_bad_gate n words ≡ 0
unfolding circuit_set_rows
no_bad_gate n words m e =
    let three = fine_row (bad_lines n) 3 0 _ e in
    let five = fine_row (bad_counts (length (gates_of words)) m) 5 0 _ three.1 in
    let seven = fine_row (not (eqb (first_bad_gate n words) 0)) 7 (first_bad_gate n words) _ five.1 in
    eqb-true (first_bad_gate n words) 0 (not-false _ seven.0)

all_spares : (n : ℕ) (words : List ℕ) → first_bad_gate n words ≡ 0 → All (λ g. g.spare ≡ 0) (gates_of words)
unfolding first_bad_gate
all_spares n words e = all_map (good_spare n) (gates_of words) (none_bad (bad_gate n) (not (eqb (length words % 3) 0)) (gates_of words) 0 e)

-- ---- what is valid breaks none

good_gate : (n : ℕ) (g : Gate) → g.controls < 2 ^ n → g.spare ≡ 0 → g.target < n → (Control g g.target → ⊥) → bad_gate n g ≡ false
unfolding bad_gate
good_gate n g c s t a =
    or-false (lt-leb (2 ^ n) g.controls c) (or-false (ap not (eq-eqb g.spare 0 s)) (or-false (lt-leb n g.target t)
    (by_test (is_control g g.target) (λ o. absurd (a ((control_iff g g.target).0 o))) (λ o. o))))

good_gates : (n : ℕ) (gs : List Gate) → All (λ g. g.controls < 2 ^ n) gs → All (λ g. g.spare ≡ 0) gs → All (λ g. g.target < n) gs
    → All (λ g. Control g g.target → ⊥) gs → All (λ g. bad_gate n g ≡ false) gs
good_gates n [] c s t a = tt
good_gates n (g ∷ gs) c s t a = (good_gate n g c.0 s.0 t.0 a.0, good_gates n gs c.1 s.1 t.1 a.1)

pub none_first : {A : Type 0} (bad : A → Bool) (place : ℕ) (entries : List A) → All (λ a. bad a ≡ false) entries
    → first_bad_from bad false place entries ≡ 0
unfolding first_bad_from
none_first bad place [] w = refl
none_first bad place (a ∷ rest) w = choice-false w.0 _ _ ∙ none_first bad (suc place) rest w.1

pub flat_length : (gs : List Gate) → length (flat gs) ≡ 3 * length gs
flat_length [] = refl
flat_length (g ∷ gs) = let r = flat_length gs in omega arith

first_bad_none : (n : ℕ) (gs : List Gate) → All (λ g. bad_gate n g ≡ false) gs → first_bad_gate n (flat gs) ≡ 0
unfolding first_bad_gate
first_bad_none n gs w =
    let whole : length (flat gs) % 3 ≡ 0 = omega (arith, flat_length gs) in
    rw (eq-eqb (length (flat gs) % 3) 0 whole, gates_flat gs) (none_first (bad_gate n) 1 gs w)

passes : (n : ℕ) (gs : List Gate) (m : ℕ) → Valid n (flat gs) gs → m ≤ 2048 → fine ≡ first_of (circuit_set_rows n (flat gs) m) fine
unfolding circuit_set_rows
passes n gs m v most =
    let c = v.circuit in
    rw (
      lines_good n c.some_lines c.lines_fit,
      gates_count (flat gs),
      counts_good (length (flat gs) / 3) m (omega (arith, flat_length gs, c.gates_fit)) most,
      eq-eqb (first_bad_gate n (flat gs)) 0 (first_bad_none n gs (good_gates n gs c.controls_in v.spares c.target_in c.apart)),
    )

-- ---- so both are the same, with a set of m vectors and with none

pub circuit_set_valid : (n : ℕ) (words : List ℕ) (m : ℕ)
    → (fine ≡ first_of (circuit_set_rows n words m) fine) ↔ (((gs : List Gate) × Valid n words gs) × (m ≤ 2048))
circuit_set_valid n words m = (
  λ e.
      let ok = circuit_set_ok n words m e in (
        (gates_of words, record { circuit = circuit-is n words ok.circuit; spares = all_spares n words (no_bad_gate n words m e) }),
        ok.vectors_fit,
      ),
  λ w.
      let lent = w.0.1.circuit.lent in
      subst (λ l. fine ≡ first_of (circuit_set_rows n l m) fine) (sym lent)
      (passes n w.0.0 m (subst (λ l. Valid n l w.0.0) lent w.0.1) w.1),
)

pub circuit_valid : (n : ℕ) (words : List ℕ) → (fine ≡ first_of (circuit_rows n words) fine) ↔ ((gs : List Gate) × Valid n words gs)
unfolding circuit_rows
circuit_valid n words = (λ e. ((circuit_set_valid n words 0).0 e).0, λ w. (circuit_set_valid n words 0).1 (w, omega arith))
