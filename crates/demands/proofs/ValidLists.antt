-- What the calls that are lent a list of fault records take, in the words of docs/SCOPE.md: exactly what breaks no rule of their tables.
use Prim.Native.Nat.{ℕ, ◌*◌, ◌%◌, ◌^◌, ◌≤◌, ◌<◌}
use mathlib.Core.Path.{◌≡◌, refl, sym, ap, ◌∙◌, subst}
use mathlib.Core.Logic.Iff
use mathlib.Core.Logic.{◌↔◌}
use mathlib.Core.Bool.{Bool, false, not, ◌&&◌, ◌||◌}
use mathlib.Core.List.{List, [], ◌∷◌, ◌++◌}
use native.Mathlib.Omega.{arith}
use lib.ListN.{length}
use lib.Dec.{eqb, ltb}
use borrow.Author.Tests.{eq-eqb, ne_eqb, eqb-true, eqb-false, ltb-false, le-ltb, not-false}
use Rattle.basics.specs.Lists.{some, All}
use Rattle.basics.proofs.Tests.{by_test, and_both, and-true, or-false, or_neither}
use Rattle.basics.proofs.All.{all_map}
use Rattle.refusals.specs.Tables.Row.{refuse◌at◌when◌}
use Rattle.refusals.specs.Places.{first_bad, in_word}
use Rattle.refusals.proofs.Places.{none_bad, none_left}
use Rattle.circuit.specs.Gates.{gates_of}
use Rattle.circuit.specs.Rules.{circuit_rows, vector_rows}
use Rattle.circuit.specs.declared.Gate.{Gate}
use Rattle.faults.specs.Rules.{is_stuck_at}
use Rattle.faults.specs.Records.{faults_of, first_bad_record}
use Rattle.multiple_faults.specs.Multiple.{bad_entry, same_site, site_twice}
use Rattle.multiple_faults.specs.Rules.{entries_rows, multiple_rows}
use Rattle.faults.specs.declared.Fault.{Fault}
use Rattle.faults.proofs.RecordLaws.{records_count}
use Rattle.faults.proofs.RuleLaws.{class_one}
use Rattle.dropping.specs.Rules.{bad_record, record_rows, drop_rows, drop_records_rows}
use Rattle.testsets.proofs.Multiple.{sites-distinct}
use Rattle.demands.proofs.Machine.{Has, records, OtherSite, NoSiteTwice, Multiple}
use Rattle.demands.proofs.HasLaws.{has_of, of_has, records_faults, faults_records}
use Rattle.demands.proofs.Valid.{Valid, none_first}
use Rattle.demands.proofs.ValidRows.{Fine, joined, one_rule}
use Rattle.demands.proofs.ValidCalls.{with_vector_lem}

-- ---- no bad record

records_length : (fs : List Fault) → length (records fs) ≡ 4 * length fs
records_length [] = refl
records_length (f ∷ fs) = let r = records_length fs in omega arith

module _ (bad : Fault → Bool) where
  -- in a plain list: it has whole records, and none is bad
  none_bad_record : (list : List ℕ) → (first_bad_record bad list ≡ 0) ↔ ((fs : List Fault) × (list ≡ records fs) × All (λ f. bad f ≡ false) fs)
  unfolding first_bad_record
  none_bad_record list = (
    λ e.
        let over : Bool = not (eqb (length list % 4) 0) in
        let z = eqb-true (length list % 4) 0 (not-false _ (none_left bad over (faults_of list) 0 e)) in
        (faults_of list, records_faults list (omega (arith, records_count list)), none_bad bad over (faults_of list) 0 e),
    λ w.
        let fs : List Fault = w.0 in
        let whole : length (records fs) % 4 ≡ 0 = omega (arith, records_length fs) in
        subst (λ l. first_bad bad (not (eqb (length l % 4) 0)) (faults_of l) ≡ 0) (sym w.1)
        (rw (eq-eqb (length (records fs) % 4) 0 whole, faults_records fs) (none_first bad 1 fs w.2)),
  )

  -- in a slice of records
  none_bad_of : (fs : List Fault) → (first_bad bad false fs ≡ 0) ↔ All (λ f. bad f ≡ false) fs
  none_bad_of fs = (none_bad bad false fs 0, none_first bad 1 fs)

all_iff : {A : Type 0} {P Q : A → Type 0} → ((a : A) → P a ↔ Q a) → (ys : List A) → All P ys ↔ All Q ys
all_iff h ys = (all_map (λ a. (h a).0) ys, all_map (λ a. (h a).1) ys)

-- ---- dropping

pub record_valid : (n : ℕ) (gs : List Gate) (f : Fault) → (bad_record n gs f ≡ false) ↔ Has n gs f
unfolding bad_record
record_valid n gs f = (λ e. has_of n gs f (not-false _ e), λ h. ap not (of_has n gs f h))

told_bad : (bad : ℕ) → Fine (refuse 9 at in_word bad when not (eqb bad 0) ∷ []) ↔ (bad ≡ 0)
told_bad bad = Iff.trans (one_rule (not (eqb bad 0)) 9 (in_word bad)) (λ e. eqb-true bad 0 (not-false _ e), λ e. ap not (eq-eqb bad 0 e))

told_records : (bad : ℕ) → Fine (record_rows bad) ↔ (bad ≡ 0)
unfolding record_rows
told_records bad = told_bad bad

module _ (n : ℕ) (words : List ℕ) (x : ℕ) where
  pub drop_valid : (list : List ℕ) → Fine (drop_rows n words x list)
      ↔ ((gs : List Gate) × Valid n words gs × (x < 2 ^ n) × ((fs : List Fault) × (list ≡ records fs) × All (Has n gs) fs))
  unfolding drop_rows
  drop_valid list =
      with_vector_lem n words x (record_rows (first_bad_record (bad_record n (gates_of words)) list))
      (λ gs. (fs : List Fault) × (list ≡ records fs) × All (Has n gs) fs)
      (Iff.trans (told_records _) (Iff.trans (none_bad_record (bad_record n (gates_of words)) list) (
        λ w. (w.0, w.1, (all_iff (record_valid n (gates_of words)) w.0).0 w.2),
        λ w. (w.0, w.1, (all_iff (record_valid n (gates_of words)) w.0).1 w.2),
      )))

  pub drop_records_valid : (fs : List Fault) → Fine (drop_records_rows n words x fs)
      ↔ ((gs : List Gate) × Valid n words gs × (x < 2 ^ n) × All (Has n gs) fs)
  unfolding drop_records_rows
  drop_records_valid fs =
      with_vector_lem n words x (record_rows (first_bad (bad_record n (gates_of words)) false fs)) (λ gs. All (Has n gs) fs)
      (Iff.trans (told_records _) (Iff.trans (none_bad_of (bad_record n (gates_of words)) fs) (all_iff (record_valid n (gates_of words)) fs)))

-- ---- a multiple fault

pub entry_valid : (n : ℕ) (gs : List Gate) (f : Fault) → (bad_entry n gs f ≡ false) ↔ ((f.class ≡ 1) × Has n gs f)
unfolding bad_entry
entry_valid n gs f = (
  λ e.
      let w = and_both (eqb f.class 1) (is_stuck_at n gs f) (not-false _ e) in
      let one = eqb-true f.class 1 w.0 in
      (one, has_of n gs f (class_one n gs f one ∙ w.1)),
  λ w. ap not (and-true (eq-eqb f.class 1 w.0) (sym (class_one n gs f w.0) ∙ of_has n gs f w.1)),
)

other_site : (f h : Fault) → OtherSite f h → same_site f h ≡ false
unfolding same_site
other_site f h apart = by_test (eqb f.place h.place && eqb f.line h.line)
    (λ t. let w = and_both (eqb f.place h.place) (eqb f.line h.line) t in
    absurd (apart (sym (eqb-true f.place h.place w.0)) (sym (eqb-true f.line h.line w.1))))
    (λ t. t)

none_same : (f : Fault) (fs : List Fault) → All (OtherSite f) fs → some (same_site f) fs ≡ false
unfolding some
none_same f [] w = refl
none_same f (h ∷ fs) w = or-false (other_site f h w.0) (none_same f fs w.1)

none_twice : (fs : List Fault) → NoSiteTwice fs → site_twice fs ≡ false
unfolding site_twice
none_twice [] w = refl
none_twice (f ∷ fs) w = or-false (none_same f fs w.0) (none_twice fs w.1)

-- its number of entries, and its sites
sites_valid : (fs : List Fault) → ((eqb (length fs) 0 || (ltb 256 (length fs) || site_twice fs)) ≡ false)
    ↔ ((1 ≤ length fs) × (length fs ≤ 256) × NoSiteTwice fs)
sites_valid fs = (
  λ e.
      let few = or_neither (eqb (length fs) 0) (ltb 256 (length fs) || site_twice fs) e in
      let many = or_neither (ltb 256 (length fs)) (site_twice fs) few.1 in
      let none = eqb-false (length fs) 0 few.0 in
      (omega arith, ltb-false 256 (length fs) many.0, sites-distinct fs many.1),
  λ w. or-false (ne_eqb (length fs) 0 (λ e. omega (arith, w.0))) (or-false (le-ltb 256 (length fs) w.1) (none_twice fs w.2)),
)

pub entries_valid : (n : ℕ) (words list : List ℕ) → Fine (entries_rows n words list)
    ↔ ((fs : List Fault) × (list ≡ records fs) × Multiple n (gates_of words) fs)
unfolding entries_rows
entries_valid n words list =
    let gs : List Gate = gates_of words in
    let bad : ℕ = first_bad_record (bad_entry n gs) list in
    let nine = refuse 9 at in_word bad when not (eqb bad 0) ∷ [] in
    let thirteen =
    refuse 13 at 0 when (eqb (length (faults_of list)) 0 || (ltb 256 (length (faults_of list)) || site_twice (faults_of list))) ∷ [] in (
      λ e.
          let w = (joined nine thirteen).0 e in
          let r = (none_bad_record (bad_entry n gs) list).0 ((told_bad bad).0 w.0) in
          let s = subst (λ l. (1 ≤ length l) × (length l ≤ 256) × NoSiteTwice l) (ap faults_of r.1 ∙ faults_records r.0)
          ((sites_valid (faults_of list)).0 ((one_rule _ 13 0).0 w.1)) in (
            r.0,
            r.1,
            record { some = s.0; most = s.1; stuck = (all_iff (entry_valid n gs) r.0).0 r.2; once = s.2 },
          ),
      λ w.
          let m = w.2 in
          (joined nine thirteen).1 (
            (told_bad bad).1 ((none_bad_record (bad_entry n gs) list).1 (w.0, w.1, (all_iff (entry_valid n gs) w.0).1 m.stuck)),
            (one_rule _ 13 0).1 ((sites_valid (faults_of list)).1
                (subst (λ l. (1 ≤ length l) × (length l ≤ 256) × NoSiteTwice l) (sym (ap faults_of w.1 ∙ faults_records w.0))
                (m.some, m.most, m.once))),
          ),
    )

-- read off the list as the contracts do
pub multiple_is : (n : ℕ) (words : List ℕ) (x : ℕ) (list : List ℕ) → Fine (multiple_rows n words x list)
    → (list ≡ records (faults_of list)) × Multiple n (gates_of words) (faults_of list)
unfolding multiple_rows
multiple_is n words x list unbroken =
    let w = (entries_valid n words list).0 ((joined (circuit_rows n words ++ vector_rows n x) (entries_rows n words list)).0 unbroken).1 in
    let same : w.0 ≡ faults_of list = sym (ap faults_of w.1 ∙ faults_records w.0) in
    (w.1 ∙ ap records same, subst (Multiple n (gates_of words)) same w.2)

pub multiple_valid : (n : ℕ) (words : List ℕ) (x : ℕ) (list : List ℕ) → Fine (multiple_rows n words x list)
    ↔ ((gs : List Gate) × Valid n words gs × (x < 2 ^ n) × ((fs : List Fault) × (list ≡ records fs) × Multiple n gs fs))
unfolding multiple_rows
multiple_valid n words x list =
    with_vector_lem n words x (entries_rows n words list) (λ gs. (fs : List Fault) × (list ≡ records fs) × Multiple n gs fs) (entries_valid n words list)
