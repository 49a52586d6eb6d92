-- A set that catches every single stuck-at fault catches every multiple one: past its deepest level the circuit tells all
-- states apart, and there one of its lines has a value that it should not have.
use Rattle.std.specs.Prelude.{ℕ, ◌≤◌, ◌≡◌, refl, ◌≢◌, true, false, List, [], ◌∷◌, length, drop, eqb}
use Rattle.std.proofs.Common.{sym, ap, ◌∙◌, subst, zero-add, le_refl, not-suc-le-zero, arith, eq-eqb, ne_eqb}
use Rattle.std.proofs.Math.Logic.{by_cases}
use Rattle.std.proofs.lemmas.Bool.{false≢true}
use mathlib.Core.List.{Memᴰ}
use Rattle.std.proofs.Math.Decide.{dec_le}
use Rattle.basics.specs.Choice.{choice}
use Rattle.basics.specs.Lists.{some, All}
use Rattle.basics.proofs.Tests.{choice-true, not_eqb_iff, by_equal, and-true, or_neither}
use Rattle.basics.proofs.All.{all_map, all_drop}
use Rattle.basics.proofs.Kept.{none_some}
use Rattle.words.specs.Word.{bit, force}
use Rattle.words.proofs.Lines.{bit-force-same, bit_force_other}
use Rattle.circuit.specs.Runs.{run, forward}
use Rattle.circuit.specs.Sound.{GateOk, AllOk}
use Rattle.circuit.specs.declared.Gate.{Gate}
use Rattle.circuit.proofs.RunLaws.{run_injective, run_from_level}
use Rattle.simulator.specs.Faulty.{caught, force_at, stuck_run}
use Rattle.multiple_faults.specs.Multiple.{caught_together, same_site, site_twice}
use Rattle.faults.specs.Stuck.{StuckOk}
use Rattle.faults.specs.declared.Fault.{Fault}
use Rattle.simulator.proofs.FaultyLaws.{arrive, stuck_from, stuck_caught}

-- ---- no site is named twice

abbrev pub OtherSite : Fault → Fault → Type 0
OtherSite f h = h.place ≡ f.place → h.line ≢ f.line

abbrev pub Distinct : List Fault → Type 0
Distinct [] = Unit {0}
Distinct (f ∷ fs) = All (OtherSite f) fs × Distinct fs

other_site : (f h : Fault) → same_site f h ≡ false → OtherSite f h
unfolding same_site
other_site f h e p l = false≢true (sym e ∙ and-true (eq-eqb f.place h.place (sym p)) (eq-eqb f.line h.line (sym l)))

-- the test of the call
pub sites-distinct : (fs : List Fault) → site_twice fs ≡ false → Distinct fs
unfolding site_twice
sites-distinct [] e = tt
sites-distinct (f ∷ fs) e =
    let r = or_neither (some (same_site f) fs) (site_twice fs) e in
    (all_map (other_site f) fs (none_some (same_site f) fs r.0), sites-distinct fs r.1)

-- ---- what the entries of a level do to its lines

-- entries that name other lines leave line j as it is
force_kept : (fs : List Fault) (i s j : ℕ) → All (λ h. h.place ≡ i → h.line ≢ j) fs → bit (force_at fs i s) j ≡ bit s j
unfolding force_at
force_kept [] i s j w = refl
force_kept (h ∷ fs) i s j w =
    let here : bit (choice (eqb h.place i) (force s h.line h.value) s) j ≡ bit s j =
    by_equal h.place i
    (λ e. rw (eq-eqb h.place i e) (bit_force_other s h.line h.value j (w.0 e)))
    (λ d. rw (ne_eqb h.place i d)) in
    force_kept fs i (choice (eqb h.place i) (force s h.line h.value) s) j w.1 ∙ here

-- an entry's line has its value at its level
force_hits : (f : Fault) (fs : List Fault) (s : ℕ) → Memᴰ f fs → Distinct fs → f.value ≤ 1 → bit (force_at fs f.place s) f.line ≡ f.value
unfolding force_at
force_hits f fs s (Memᴰ.head {x = h} {xs = hs} q) w v =
    subst (λ y. bit (force_at (h ∷ hs) y.place s) y.line ≡ y.value) (sym q)
    (force_kept hs h.place (choice (eqb h.place h.place) (force s h.line h.value) s) h.line w.0
    ∙ ap (λ t. bit t h.line) (choice-true (eq-eqb h.place h.place refl) (force s h.line h.value) s)
    ∙ bit-force-same s h.line h.value (subst (λ y. y.value ≤ 1) q v))
force_hits f fs s (Memᴰ.tail {x = h} {xs = hs} m) w v =
    force_hits f hs (choice (eqb h.place f.place) (force s h.line h.value) s) m w.1 v

-- ---- the deepest level

-- an entry there
pub deepest : (fs : List Fault) → 1 ≤ length fs → (m : Fault) × Memᴰ m fs × All (λ h. h.place ≤ m.place) fs
deepest [] few = absurd (not-suc-le-zero few)
deepest (f ∷ []) few = (f, Memᴰ.head refl, (le_refl f.place, tt))
deepest (f ∷ h ∷ fs) few =
    let r = deepest (h ∷ fs) (omega arith) in
    by_cases (dec_le f.place r.0.place)
    (λ l. (r.0, Memᴰ.tail r.1, (l, r.2)))
    (λ l. (f, Memᴰ.head refl, (le_refl f.place, all_map (λ y (p : y.place ≤ r.0.place). omega arith) (h ∷ fs) r.2)))

-- a vector that catches such an entry alone catches all of them together
pub deepest_caught : (n : ℕ) (gs : List Gate) → AllOk n gs → (fs : List Fault) (m : Fault) → Memᴰ m fs → Distinct fs
    → All (λ h. h.place ≤ m.place) fs → StuckOk n (length gs) m → (x : ℕ) → caught gs m x ≡ true → caught_together gs fs x ≡ true
unfolding caught_together
deepest_caught n gs ok fs m mem apart deep k x c = (not_eqb_iff (stuck_run fs 0 gs x) (run gs x)).1 (λ e.
    let p : ℕ = m.place in
    let t : ℕ = arrive fs 0 p gs x in
    let same : force_at fs p t ≡ forward gs p x =
    run_injective n (drop p gs) (all_drop (GateOk n) p gs ok) (force_at fs p t) (forward gs p x)
    (sym (stuck_from fs 0 p p gs x (zero-add p) k.place_in deep) ∙ e ∙ run_from_level gs p x) in
    (not_eqb_iff (bit (forward gs p x) m.line) m.value).0 (sym (stuck_caught n gs ok m k x) ∙ c)
    (ap (λ s. bit s m.line) (sym same) ∙ force_hits m fs t mem apart k.value_in))
