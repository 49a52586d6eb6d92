-- Rule 13 in words: a multiple fault has no entries, more than 256, or two entries that name the same level and line.
use Prim.Native.Nat.{ℕ, zero, suc, ◌≤◌, ◌<◌}
use mathlib.Core.Path.{◌≡◌, sym, ◌∙◌}
use mathlib.Core.Logic.{◌↔◌, ◌≢◌, ◌⊎◌}
use mathlib.Core.Bool.{Bool, true, false, ◌||◌, false≢true}
use mathlib.Core.List.{List, [], ◌∷◌}
use native.Mathlib.Omega.{arith}
use lib.ListN.{length, get_or}
use lib.Dec.{eqb, ltb}
use borrow.Author.Tests.{ltb-true, ltb-false, lt-ltb, le-ltb, eqb-true, eqb-false, eq-eqb, ne_eqb}
use Rattle.basics.specs.Lists.{some}
use Rattle.basics.proofs.Tests.{by_test, and_both, and-true, or_left, or_right}
use Rattle.faults.specs.Records.{no_fault}
use Rattle.multiple_faults.specs.Multiple.{same_site, site_twice}
use Rattle.faults.specs.declared.Fault.{Fault}
use Rattle.demands.proofs.RuleWords.{Words, InWords, OfOne, of_one, either, neither}

-- some entry passes a test: at a position of the list, counted from 0
module _ {ℓ} {A : Type ℓ} (test : A → Bool) (blank : A) where
  some_at : (ys : List A) → some test ys ≡ true → (i : ℕ) × (i < length ys) × (test (get_or ys i blank) ≡ true)
  unfolding some
  some_at [] e = absurd (false≢true e)
  some_at (a ∷ ys) e = by_test (test a)
      (λ t. (0, omega arith, t))
      (λ t. let r = some_at ys (rw t at e) in (suc r.0, omega arith, r.2))

  at_some : (ys : List A) (i : ℕ) → i < length ys → test (get_or ys i blank) ≡ true → some test ys ≡ true
  unfolding some
  at_some [] i h t = absurd (omega arith)
  at_some (a ∷ ys) zero h t = or_left (some test ys) t
  at_some (a ∷ ys) (suc i) h t = or_right (test a) (at_some ys i (omega arith) t)

-- two entries at different positions name the same level and line
pub record TwoAlike (fs : List Fault) : Type 0 where
  pub one : ℕ
  pub other : ℕ
  pub apart : one < other
  pub in_list : other < length fs
  pub same_level : (get_or fs one no_fault).place ≡ (get_or fs other no_fault).place
  pub same_line : (get_or fs one no_fault).line ≡ (get_or fs other no_fault).line

same_site_lem : (f h : Fault) → (same_site f h ≡ true) ↔ ((f.place ≡ h.place) × (f.line ≡ h.line))
unfolding same_site
same_site_lem f h = (
  λ e.
      let w = and_both (eqb f.place h.place) (eqb f.line h.line) e in
      (eqb-true f.place h.place w.0, eqb-true f.line h.line w.1),
  λ w. and-true (eq-eqb f.place h.place w.0) (eq-eqb f.line h.line w.1),
)

twice_alike : (fs : List Fault) → site_twice fs ≡ true → TwoAlike fs
unfolding site_twice
twice_alike [] e = absurd (false≢true e)
twice_alike (f ∷ fs) e = by_test (some (same_site f) fs)
    (λ t.
    let r = some_at (same_site f) no_fault fs t in
    let s = (same_site_lem f _).0 r.2 in
    record { one = 0; other = suc r.0; apart = omega arith; in_list = omega arith; same_level = s.0; same_line = s.1 })
    (λ t.
    let r = twice_alike fs (rw t at e) in
    record {
      one = suc r.one;
      other = suc r.other;
      apart = omega arith;
      in_list = omega arith;
      same_level = r.same_level;
      same_line = r.same_line;
    })

alike_twice : (fs : List Fault) (i j : ℕ) → i < j → j < length fs → same_site (get_or fs i no_fault) (get_or fs j no_fault) ≡ true → site_twice fs ≡ true
unfolding site_twice
alike_twice [] i j a h e = absurd (omega arith)
alike_twice (f ∷ fs) i zero a h e = absurd (omega arith)
alike_twice (f ∷ fs) zero (suc j) a h e = or_left (site_twice fs) (at_some (same_site f) no_fault fs j (omega arith) e)
alike_twice (f ∷ fs) (suc i) (suc j) a h e = or_right (some (same_site f) fs) (alike_twice fs i j (omega arith) (omega arith) e)

pub site_twice_lem : (fs : List Fault) → (site_twice fs ≡ true) ↔ TwoAlike fs
site_twice_lem fs = (
  twice_alike fs,
  λ w. alike_twice fs w.one w.other w.apart w.in_list ((same_site_lem _ _).1 (w.same_level, w.same_line)),
)

no_site_twice : (fs : List Fault) → (site_twice fs ≡ false) ↔ (TwoAlike fs → ⊥)
no_site_twice fs = (
  λ e w. false≢true (sym e ∙ (site_twice_lem fs).1 w),
  λ none. by_test (site_twice fs) (λ t. absurd (none ((site_twice_lem fs).0 t))) (λ t. t),
)

-- ---- the rule

abbrev pub EntryCount : List Fault → Words
EntryCount fs = OfOne 0
    ((length fs ≡ 0) ⊎ ((256 < length fs) ⊎ TwoAlike fs))
    ((length fs ≢ 0) × ((length fs ≤ 256) × (TwoAlike fs → ⊥)))

pub entry_count_rule : (fs : List Fault) → InWords 0 (eqb (length fs) 0 || (ltb 256 (length fs) || site_twice fs)) (EntryCount fs)
entry_count_rule fs = of_one 0 (eqb (length fs) 0 || (ltb 256 (length fs) || site_twice fs))
    (either (eqb (length fs) 0) (ltb 256 (length fs) || site_twice fs) (eqb-true (length fs) 0, eq-eqb (length fs) 0)
    (either (ltb 256 (length fs)) (site_twice fs) (ltb-true 256 (length fs), lt-ltb 256 (length fs)) (site_twice_lem fs)))
    (neither (eqb (length fs) 0) (ltb 256 (length fs) || site_twice fs) (eqb-false (length fs) 0, ne_eqb (length fs) 0)
    (neither (ltb 256 (length fs)) (site_twice fs) (ltb-false 256 (length fs), le-ltb 256 (length fs)) (no_site_twice fs)))
