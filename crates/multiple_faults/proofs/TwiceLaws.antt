-- What a search over the places of a list of records finds: some record of the rest, and a site named twice.
use Rattle.std.proofs.Common.{ℕ, zero, suc, ◌+◌, ◌≤◌, ◌<◌, ◌≡◌, sym, ap, ◌∙◌, arith, Bool, false, ◌||◌, List, length, get_or, drop}
use Rattle.std.proofs.Common.{drop-cons, add-one}
use Rattle.std.proofs.Math.ListN.{drop_of_length-le}
use Rattle.std.specs.List.{list_any, range_with_len}
use Rattle.basics.specs.Lists.{some}
use Rattle.basics.proofs.Lists.{some_end}
use Rattle.faults.specs.Records.{no_fault}
use Rattle.faults.specs.declared.Fault.{Fault}
use Rattle.multiple_faults.specs.Multiple.{same_site, site_twice}

-- a search from place a on answers g a, where g of each place is what its test says or else g of the next, and g is false at the end
any_from : (test g : ℕ → Bool) (a k : ℕ) → ((i : ℕ) → i < a + k → g i ≡ (test i || g (i + 1))) → g (a + k) ≡ false
    → list_any test (range_with_len a k) ≡ g a
any_from test g a zero turn end = let e : a + 0 ≡ a = omega arith in sym end ∙ ap g e
any_from test g a (suc k) turn end =
    let e : a + suc k ≡ a + 1 + k = omega arith in
    ap (λ b. test a || b) (any_from test g (a + 1) k (λ i h. turn i (omega arith)) (ap g (sym e) ∙ end)) ∙ sym (turn a (omega arith))

some_turn : (p : Fault → Bool) (fs : List Fault) (i : ℕ) → i < length fs → some p (drop i fs) ≡ (p (get_or fs i no_fault) || some p (drop (i + 1) fs))
unfolding some
some_turn p fs i h = rw (add-one i, drop-cons fs i no_fault h)

-- from place a on some record passes a test
pub some_from : (p : Fault → Bool) (fs : List Fault) (a k : ℕ) → a + k ≡ length fs
    → list_any (λ i. p (get_or fs i no_fault)) (range_with_len a k) ≡ some p (drop a fs)
some_from p fs a k e =
    any_from (λ i. p (get_or fs i no_fault)) (λ i. some p (drop i fs)) a k (λ i h. some_turn p fs i (omega arith))
    (some_end p fs (a + k) (omega arith))

-- a site is named again after place i
abbrev pub again : List Fault → ℕ → Bool
again fs i = some (same_site (get_or fs i no_fault)) (drop (i + 1) fs)

twice_turn : (fs : List Fault) (i : ℕ) → i < length fs → site_twice (drop i fs) ≡ (again fs i || site_twice (drop (i + 1) fs))
unfolding site_twice
twice_turn fs i h = rw (add-one i, drop-cons fs i no_fault h)

twice_none : (fs : List Fault) (i : ℕ) → length fs ≤ i → site_twice (drop i fs) ≡ false
unfolding site_twice
twice_none fs i h = rw (drop_of_length-le fs h)

-- a site is named twice
pub twice_from : (fs : List Fault) (k : ℕ) → k ≡ length fs → list_any (again fs) (range_with_len 0 k) ≡ site_twice fs
twice_from fs k e = any_from (again fs) (λ i. site_twice (drop i fs)) 0 k (λ i h. twice_turn fs i (omega arith)) (twice_none fs (0 + k) (omega arith))
