-- What a verdict says of a set: complete exactly if every fault of the class is caught by some vector, and else the first that none catches.
use Prim.Native.Nat.{ℕ, ◌*◌}
use mathlib.Core.Path.{◌≡◌, refl, sym, ap, ap₂, ◌∙◌, subst}
use mathlib.Core.Logic.{◌↔◌, ◌⊎◌}
use mathlib.Core.Logic.◌⊎◌.{inl, inr}
use mathlib.Core.List.Memᴰ
use mathlib.Core.List.{List, [], ◌∷◌, ◌++◌, Memᴰ}
use native.Mathlib.Omega.{arith}
use lib.ListN.{length}
use Rattle.basics.specs.Lists.{All}
use Rattle.basics.proofs.Lists.{all_entry}
use Rattle.circuit.specs.Sound.{AllOk}
use Rattle.circuit.specs.declared.Gate.{Gate}
use Rattle.faults.specs.declared.Fault.{Fault}
use Rattle.faults.proofs.ClassLists.{list_one}
use Rattle.faults.proofs.SiteCount.{stuck_sites}
use Rattle.demands.proofs.Machine.{Circuit, Missed, site_total, Has}
use Rattle.demands.proofs.MachineLaws.{circuit_ok}
use Rattle.demands.proofs.SiteTotals.{site_total_lem}
use Rattle.demands.proofs.ClassLaws.{class_is}
use Rattle.demands.proofs.FaultLists.{Before, Ordered, Class, Kept, CaughtBySome, CaughtByNone, Shows}
use Rattle.demands.proofs.FaultLists.Before.{by_place, by_line, by_value}
use Rattle.demands.proofs.FaultLists.Shows.{complete, first}
use Rattle.demands.proofs.Conditions.{not_both}
use Rattle.demands.proofs.Judging.{Judges}

-- every fault that the circuit has of a class is caught by some vector of the set
abbrev pub EveryCaught : ℕ → List Gate → ℕ → List ℕ → Type 0
EveryCaught n gs class xs = (f : Fault) → f.class ≡ class → Has n gs f → CaughtBySome gs xs f

-- a fault of the class that none catches, and every earlier one is caught
pub record FirstUncaught (n : ℕ) (gs : List Gate) (class : ℕ) (xs : List ℕ) (f : Fault) : Type 0 where
  pub of_class : f.class ≡ class
  pub is_fault : Has n gs f
  pub by_none : CaughtByNone gs xs f
  pub earlier : (h : Fault) → h.class ≡ class → Has n gs h → Before h f → CaughtBySome gs xs h

-- of the faults of the class, `total` of them, `number` are caught by some vector, and each other by none; none is both: `apart`
pub record Counted (n : ℕ) (gs : List Gate) (class : ℕ) (xs : List ℕ) (number total : ℕ) : Type 0 where
  pub faults : List Fault
  pub of_class : Class n gs class faults
  pub caught : List Fault
  pub caught-are : Kept (CaughtBySome gs xs) (CaughtByNone gs xs) faults caught
  pub number_is : number ≡ length caught
  pub total_is : total ≡ length faults

-- ---- order

not_twice : (f h : Fault) → Before f h → Before h f → ⊥
not_twice f h (by_place a) (by_place b) = omega arith
not_twice f h (by_place a) (by_line p b) = omega arith
not_twice f h (by_place a) (by_value p l b) = omega arith
not_twice f h (by_line p a) (by_place b) = omega arith
not_twice f h (by_line p a) (by_line q b) = omega arith
not_twice f h (by_line p a) (by_value q l b) = omega arith
not_twice f h (by_value p l a) (by_place b) = omega arith
not_twice f h (by_value p l a) (by_line q b) = omega arith
not_twice f h (by_value p l a) (by_value q m b) = omega arith

-- two lists in order that have the same faults are one
same_first : (f h : Fault) (fs hs : List Fault) → All (Before f) fs → All (Before h) hs → Memᴰ f (h ∷ hs) → Memᴰ h (f ∷ fs) → f ≡ h
same_first f h fs hs o p (Memᴰ.head q) there = q
same_first f h fs hs o p (Memᴰ.tail m) (Memᴰ.head q) = sym q
same_first f h fs hs o p (Memᴰ.tail m) (Memᴰ.tail k) = absurd (not_twice h f (all_entry (Before h) m p) (all_entry (Before f) k o))

not_first : (f k h : Fault) (hs : List Fault) → Before f k → f ≡ h → Memᴰ k (h ∷ hs) → Memᴰ k hs
not_first f k h hs b same (Memᴰ.head q) =
    let twice : Before h h = subst (λ y. Before h y) q (subst (λ y. Before y k) same b) in absurd (not_twice h h twice twice)
not_first f k h hs b same (Memᴰ.tail m) = m

same_list : (fs hs : List Fault) → Ordered fs → Ordered hs → ((k : Fault) → Memᴰ k fs → Memᴰ k hs)
    → ((k : Fault) → Memᴰ k hs → Memᴰ k fs) → fs ≡ hs
same_list [] [] o p there back = refl
same_list [] (h ∷ hs) o p there back = absurd (Memᴰ.not-nil (back h (Memᴰ.head refl)))
same_list (f ∷ fs) [] o p there back = absurd (Memᴰ.not-nil (there f (Memᴰ.head refl)))
same_list (f ∷ fs) (h ∷ hs) o p there back =
    let same = same_first f h fs hs o.0 p.0 (there f (Memᴰ.head refl)) (back h (Memᴰ.head refl)) in
    ap₂ ◌∷◌ same (same_list fs hs o.1 p.1
    (λ k m. not_first f k h hs (all_entry (Before f) m o.0) same (there k (Memᴰ.tail m)))
    (λ k m. not_first h k f fs (all_entry (Before h) m p.0) (sym same) (back k (Memᴰ.tail m))))

-- so the faults of a class are one list
class_same : {n : ℕ} {gs : List Gate} {class : ℕ} {fs hs : List Fault} → Class n gs class fs → Class n gs class hs → fs ≡ hs
class_same {fs = fs} {hs = hs} a b = same_list fs hs a.ordered b.ordered
    (λ k m. let is = all_entry _ m a.each-is in b.has_all k is.0 is.1)
    (λ k m. let is = all_entry _ m b.each-is in a.has_all k is.0 is.1)

-- that of the stuck-at faults has two for each site
pub stuck_at_total : {n : ℕ} {words : List ℕ} {gs : List Gate} {fs : List Fault} → Circuit n words gs → Class n gs 1 fs
    → length fs ≡ 2 * site_total n gs
stuck_at_total {n} {words} {gs} circuit theirs =
    let ok : AllOk n gs = circuit_ok n words gs circuit in
    ap length (class_same theirs (class_is n gs ok 1) ∙ list_one n gs 1 refl) ∙ stuck_sites n gs ∙ ap (λ m. 2 * m) (site_total_lem n gs ok)

-- what comes before an entry stands before it
stands_before : (before : List Fault) (f : Fault) (later : List Fault) → Ordered (before ++ (f ∷ later))
    → (h : Fault) → Memᴰ h (before ++ (f ∷ later)) → Before h f → Memᴰ h before
stands_before [] f later o h (Memᴰ.head q) b = absurd (not_twice f f (subst (λ y. Before y f) q b) (subst (λ y. Before y f) q b))
stands_before [] f later o h (Memᴰ.tail m) b = absurd (not_twice f h (all_entry (Before f) m o.0) b)
stands_before (g ∷ before) f later o h (Memᴰ.head q) b = Memᴰ.head q
stands_before (g ∷ before) f later o h (Memᴰ.tail m) b = Memᴰ.tail (stands_before before f later o.1 h m b)

-- ---- verdicts

module _ {n : ℕ} {words xs : List ℕ} {class : ℕ} {values : List ℕ} (w : Judges n words xs class values) where
  abbrev gs : List Gate
  gs = w.gs

  -- caught by some and by none is never both
  pub apart : (f : Fault) → Has n gs f → CaughtBySome gs xs f → CaughtByNone gs xs f → ⊥
  apart f h c m = not_both n gs f h c.0 c.2 (all_entry (Missed gs f) c.1 m)

  shown_in : (before : List Fault) (f : Fault) (later : List Fault) → w.faults ≡ before ++ (f ∷ later) → (f.class ≡ class) × Has n gs f
  shown_in before f later parts =
      all_entry (λ h. (h.class ≡ class) × Has n gs h)
      (subst (Memᴰ f) (sym parts) (Memᴰ.append_right before (Memᴰ.head refl))) w.of_class.each-is

  -- two counts, and then 1 and four zeros, or 0 and a fault
  pub only_told : (number : ℕ) × (total : ℕ) × ((values ≡ number ∷ total ∷ 1 ∷ 0 ∷ 0 ∷ 0 ∷ 0 ∷ [])
      ⊎ ((f : Fault) × (values ≡ number ∷ total ∷ 0 ∷ f.class ∷ f.place ∷ f.line ∷ f.value ∷ [])))
  only_told = (_, _, by_shown w.verdict.shows)
    where
      by_shown : Shows (CaughtBySome gs xs) (CaughtByNone gs xs) w.faults w.verdict.shown
          → (values ≡ length w.verdict.caught ∷ length w.faults ∷ 1 ∷ 0 ∷ 0 ∷ 0 ∷ 0 ∷ [])
          ⊎ ((f : Fault) × (values ≡ length w.verdict.caught ∷ length w.faults ∷ 0 ∷ f.class ∷ f.place ∷ f.line ∷ f.value ∷ []))
      by_shown (complete all shown) = let told = w.verdict.values-are in inl cc
      by_shown (first before f later parts front none shown) = let told = w.verdict.values-are in inr (f, cc)

  -- complete exactly if all are caught
  pub complete_means : (number total flag : ℕ) (rest : List ℕ) → values ≡ number ∷ total ∷ flag ∷ rest → (flag ≡ 1) ↔ EveryCaught n gs class xs
  complete_means number total flag rest e = by_shown w.verdict.shows
    where
      by_shown : Shows (CaughtBySome gs xs) (CaughtByNone gs xs) w.faults w.verdict.shown → (flag ≡ 1) ↔ EveryCaught n gs class xs
      by_shown (complete all shown) = (
        λ t f c h. all_entry (CaughtBySome gs xs) (w.of_class.has_all f c h) all,
        λ every. let told = w.verdict.values-are in cc,
      )
      by_shown (first before f later parts front none shown) =
          let is = shown_in before f later parts in
          let zero : flag ≡ 0 = (let told = w.verdict.values-are in cc) in
          (λ t. absurd (omega arith), λ every. absurd (apart f is.1 (every f is.0 is.1) none))

  -- else the fault shown is the first that none catches
  pub first_means : (number total : ℕ) (f : Fault) → values ≡ number ∷ total ∷ 0 ∷ f.class ∷ f.place ∷ f.line ∷ f.value ∷ []
      → FirstUncaught n gs class xs f
  first_means number total f e = by_shown w.verdict.shows
    where
      by_shown : Shows (CaughtBySome gs xs) (CaughtByNone gs xs) w.faults w.verdict.shown → FirstUncaught n gs class xs f
      by_shown (complete all shown) = let told = w.verdict.values-are in let z : ◌≡◌ {A = ℕ} 0 1 = cc in absurd (omega arith)
      by_shown (first before h later parts front none shown) =
          let told = w.verdict.values-are in
          let class_is : h.class ≡ f.class = cc in
          let place_is : h.place ≡ f.place = cc in
          let line-is : h.line ≡ f.line = cc in
          let value-is : h.value ≡ f.value = cc in
          let same : h ≡ f = λ i. record { class = class_is i; place = place_is i; line = line-is i; value = value-is i } in
          let is = shown_in before h later parts in
          subst (FirstUncaught n gs class xs) same (record {
            of_class = is.0;
            is_fault = is.1;
            by_none = none;
            earlier = λ k c has b.
                let there = subst (Memᴰ k) parts (w.of_class.has_all k c has) in
                all_entry (CaughtBySome gs xs) (stands_before before h later (subst Ordered parts w.of_class.ordered) k there b) front;
          })

  -- the counts are true
  pub counts_mean : (number total : ℕ) (rest : List ℕ) → values ≡ number ∷ total ∷ rest → Counted n gs class xs number total
  counts_mean number total rest e =
      let told = w.verdict.values-are in
      record {
        faults = w.faults;
        of_class = w.of_class;
        caught = w.verdict.caught;
        caught-are = w.verdict.caught-are;
        number_is = cc;
        total_is = cc;
      }

  -- and the stuck-at faults are two for each site
  pub total_means : class ≡ 1 → (number total : ℕ) (rest : List ℕ) → values ≡ number ∷ total ∷ rest → total ≡ 2 * site_total n gs
  total_means one number total rest e =
      let counted = counts_mean number total rest e in
      counted.total_is ∙ stuck_at_total w.circuit (subst (λ k. Class n gs k counted.faults) one counted.of_class)
