-- Laws of controls: which lines decide whether a gate fires, and where a gate with a control less or more does something else.
use Prim.Native.Nat.{ℕ, ◌≤◌, ◌<◌}
use mathlib.Core.Path.{◌≡◌, refl, sym, ap, ◌∙◌}
use mathlib.Core.Logic.{◌↔◌, ◌≢◌, by_cases}
use mathlib.Core.Bool.{Bool, true, false, not, ◌&&◌, beq, false≢true}
use native.Mathlib.Decide.{dec_le}
use native.Mathlib.Omega.{arith}
use lib.Dec.{eqb}
use borrow.Author.Tests.{eq-eqb, ne_eqb, eqb-true, eqb-false}
use Rattle.basics.specs.Choice.{choice}
use Rattle.basics.proofs.Tests.{by_equal}
use Rattle.basics.proofs.Bools.{beq_sym, differs_false, differs_more}
use Rattle.words.specs.Word.{bit, flip, force, all_on, all_ones}
use Rattle.words.proofs.Bits.{bit_le, bit_above}
use Rattle.words.proofs.Lines.{bit-flip-same, bit-force-same, bit_force_other, force_other, force-lt, flip-flip, flip_differs}
use Rattle.words.proofs.Inverse.{not_on}
use Rattle.words.proofs.Masks.{all_on_iff, all_on-more, all_on_ones, all_on_but}
use Rattle.circuit.specs.Controls.{is_control, with_control, less_control, more_control}
use Rattle.circuit.specs.Runs.{fires, step}
use Rattle.circuit.specs.Sound.{GateOk}
use Rattle.circuit.specs.declared.Gate.{Gate}

-- a gate fires where all its controls are 1
pub fires_iff : (g : Gate) (s : ℕ) → (fires g s ≡ true) ↔ ((j : ℕ) → is_control g j ≡ true → bit s j ≡ 1)
unfolding fires is_control
fires_iff g s = (
  λ t j c. (all_on_iff g.controls s).0 t j (eqb-true (bit g.controls j) 1 c),
  λ h. (all_on_iff g.controls s).1 (λ j o. h j (eq-eqb (bit g.controls j) 1 o)),
)

-- a control is one of the circuit's lines
pub control_in : (n : ℕ) (g : Gate) (c : ℕ) → GateOk n g → is_control g c ≡ true → c < n
unfolding is_control
control_in n g c ok e = by_cases (dec_le n c)
    (λ above. absurd (omega (arith, bit_above n g.controls c ok.controls_in above, eqb-true (bit g.controls c) 1 e)))
    (λ below. omega arith)

pub control_above : (n : ℕ) (g : Gate) (c : ℕ) → GateOk n g → n ≤ c → is_control g c ≡ false
unfolding is_control
control_above n g c ok above = ne_eqb (bit g.controls c) 1 (λ e. omega (arith, bit_above n g.controls c ok.controls_in above))

-- a line that is no control is 0 in the mask
pub no_control : (g : Gate) (c : ℕ) → is_control g c ≡ false → bit g.controls c ≡ 0
unfolding is_control
no_control g c e = let d = eqb-false (bit g.controls c) 1 e in omega (arith, bit_le g.controls c)

-- ---- one control less, and one more

-- a gate fires where one of its controls is 1 and it fires without it
pub fires_less : (g : Gate) (c s : ℕ) → is_control g c ≡ true → fires g s ≡ (eqb (bit s c) 1 && fires (less_control c g) s)
unfolding fires is_control less_control
fires_less g c s e =
    let on : bit g.controls c ≡ 1 = eqb-true (bit g.controls c) 1 e in
    let others : force g.controls c 0 ≡ flip g.controls c = force_other g.controls c 0 (λ z. omega arith) in
    let off : bit (flip g.controls c) c ≡ 0 = omega (arith, bit-flip-same g.controls c) in
    ap (λ m. all_on m s) (sym (flip-flip g.controls c)) ∙ all_on-more (flip g.controls c) s c off
    ∙ ap (λ m. eqb (bit s c) 1 && all_on m s) (sym others)

-- the controls that are left are the others
less_controls : (g : Gate) (c j : ℕ) → c ≢ j → is_control (less_control c g) j ≡ is_control g j
unfolding is_control less_control
less_controls g c j d = ap (λ v. eqb v 1) (bit_force_other g.controls c 0 j d)

less_no_control : (g : Gate) (c : ℕ) → is_control (less_control c g) c ≡ false
unfolding is_control less_control
less_no_control g c = ne_eqb (bit (force g.controls c 0) c) 1 (λ e. omega (arith, bit-force-same g.controls c 0 (omega arith)))

pub less_fires_iff : (g : Gate) (c s : ℕ) → (fires (less_control c g) s ≡ true) ↔ ((j : ℕ) → c ≢ j → is_control g j ≡ true → bit s j ≡ 1)
less_fires_iff g c s = (
  λ t j d o. (fires_iff (less_control c g) s).0 t j (less_controls g c j d ∙ o),
  λ h. (fires_iff (less_control c g) s).1 (λ j o. by_equal c j
      (λ e. absurd (false≢true (sym (less_no_control g c) ∙ ap (is_control (less_control c g)) e ∙ o)))
      (λ d. h j d (sym (less_controls g c j d) ∙ o))),
)

-- with a line as a control too it fires where it fires without and the line is 1
pub fires-more : (g : Gate) (a s : ℕ) → is_control g a ≡ false → fires (more_control a g) s ≡ (eqb (bit s a) 1 && fires g s)
unfolding fires more_control
fires-more g a s e =
    let off = no_control g a e in
    ap (λ m. all_on m s) (force_other g.controls a 1 (λ o. omega arith)) ∙ all_on-more g.controls s a off

-- ---- where two gates do not do the same

-- two gates with one target make different states where one of them fires and the other does not
choices_differ : (a b : Bool) (s t : ℕ) → not (eqb (choice a (flip s t) s) (choice b (flip s t) s)) ≡ not (beq a b)
choices_differ true true s t = ap not (eq-eqb (flip s t) (flip s t) refl)
choices_differ true false s t = ap not (ne_eqb (flip s t) s (flip_differs s t))
choices_differ false true s t = ap not (ne_eqb s (flip s t) (λ e. flip_differs s t (sym e)))
choices_differ false false s t = ap not (eq-eqb s s refl)

-- a gate changes the state where it fires
pub step_changes : (g : Gate) (s : ℕ) → not (eqb s (step g s)) ≡ fires g s
unfolding step
step_changes g s = choices_differ false (fires g s) s g.target ∙ differs_false (fires g s)

-- where one fires only if a line is 1 too, they differ where that line is 0
only_more : (s c : ℕ) (a : Bool) → not (beq (eqb (bit s c) 1 && a) a) ≡ (eqb (bit s c) 0 && a)
only_more s c a = differs_more (eqb (bit s c) 1) a ∙ ap (λ b. b && a) (not_on s c)

-- a gate without one of its controls does something else where the control is 0 and all others are 1
pub less_control_differs : (g : Gate) (c s : ℕ) → is_control g c ≡ true
    → not (eqb (step (less_control c g) s) (step g s)) ≡ (eqb (bit s c) 0 && fires (less_control c g) s)
unfolding step less_control
less_control_differs g c s e =
    let less : Gate = less_control c g in
    choices_differ (fires less s) (fires g s) s g.target
    ∙ ap (λ b. not (beq (fires less s) b)) (fires_less g c s e)
    ∙ ap not (beq_sym (fires less s) (eqb (bit s c) 1 && fires less s))
    ∙ only_more s c (fires less s)

-- a gate with an extra control does something else where that line is 0 and all controls are 1
pub more_control_differs : (g : Gate) (a s : ℕ) → is_control g a ≡ false
    → not (eqb (step (more_control a g) s) (step g s)) ≡ (eqb (bit s a) 0 && fires g s)
unfolding step more_control
more_control_differs g a s e =
    choices_differ (fires (more_control a g) s) (fires g s) s g.target
    ∙ ap (λ b. not (beq b (fires g s))) (fires-more g a s e)
    ∙ only_more s a (fires g s)

-- ---- all lines 1, and all but one

pub fires_ones : (n : ℕ) (g : Gate) → GateOk n g → fires g (all_ones n) ≡ true
unfolding fires
fires_ones n g ok = all_on_ones n g.controls ok.controls_in

pub fires_but : (n : ℕ) (g : Gate) (a : ℕ) → GateOk n g → is_control g a ≡ false → fires g (force (all_ones n) a 0) ≡ true
unfolding fires
fires_but n g a ok e = all_on_but n g.controls a ok.controls_in (no_control g a e)

pub less_fires_but : (n : ℕ) (g : Gate) (c : ℕ) → GateOk n g → is_control g c ≡ true → fires (less_control c g) (force (all_ones n) c 0) ≡ true
unfolding fires less_control
less_fires_but n g c ok e =
    all_on_but n (force g.controls c 0) c (force-lt n g.controls c 0 ok.controls_in (control_in n g c ok e))
    (bit-force-same g.controls c 0 (omega arith))

-- a control less and a control more are one change of the mask, by a 0 and by a 1
pub less_is : (c : ℕ) (g : Gate) → with_control c 0 g ≡ less_control c g
unfolding with_control less_control
less_is c g = refl

pub more_is : (a : ℕ) (g : Gate) → with_control a 1 g ≡ more_control a g
unfolding with_control more_control
more_is a g = refl
