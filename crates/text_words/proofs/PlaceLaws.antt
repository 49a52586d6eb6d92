-- Laws of places among texts: texts are distinct where each stands at its own place.
use Prim.Native.Nat.{ℕ, zero, suc, ◌+◌, ◌<◌, ◌≤◌}
use mathlib.Core.Path.{◌≡◌, refl, sym, ap, ◌∙◌}
use mathlib.Core.Bool.{Bool, true, false, not, ◌&&◌}
use mathlib.Core.List.{List, [], ◌∷◌}
use native.Mathlib.Omega.{arith}
use lib.ListN.{length, take, get_or}
use lib.Seq.{length-take-le, get_or-take}
use lib.Dec.{eqb}
use lib.Pointwise.{pointwise}
use Rattle.std.proofs.Common.{Option, Some, None, nat_lt, MatchBool}
use Rattle.std.specs.List.{position, position_or_len, enumerate_from, AllWithin, HoldsAt}
use Rattle.std.proofs.lemmas.Bool.{ltb-true, ltb-false, eqb-true, eqb-false, false≢true}
use Rattle.std.specs.Option.{option_eq}
use Rattle.std.proofs.lemmas.List.FromFn.{length-enumerate_from, get_or-enumerate_from}
use Rattle.basics.specs.Lists.{some}
use Rattle.basics.proofs.Tests.{by_test, and-true, and_right, or-false, or_left, or_right}
use Rattle.text.specs.Texts.{same, among, distinct, place}
use Rattle.text_words.specs.Runs.{IsPlace}
use Rattle.text.proofs.SameLaws.{same_refl, same_is_pointwise, place_found, place_passed, place_none}

-- a text of the list is found at its place or before
pub place-le : (us : List (List ℕ)) (i : ℕ) → i < length us → place us (get_or us i []) ≤ i
place-le [] i h = absurd (omega arith)
place-le (u ∷ us) zero h = let e = place_found u us u (same_refl u) in omega arith
place-le (u ∷ us) (suc i) h = by_test (same u (get_or us i []))
    (λ e. let w = place_found u us (get_or us i []) e in omega arith)
    (λ e. let w = place_passed u us (get_or us i []) e in let m = place-le us i (omega arith) in omega arith)

pub place-most : (us : List (List ℕ)) (t : List ℕ) → place us t ≤ length us
place-most [] t = let e = place_none t in omega arith
place-most (u ∷ us) t = by_test (same u t)
    (λ e. let w = place_found u us t e in omega arith)
    (λ e. let w = place_passed u us t e in let m = place-most us t in omega arith)

-- among the first k a text that is found there has the same place
pub place-take : (k : ℕ) (us : List (List ℕ)) (t : List ℕ) → place us t < k → place (take k us) t ≡ place us t
place-take zero us t h = absurd (omega arith)
place-take (suc k) [] t h = refl
place-take (suc k) (u ∷ us) t h = by_test (same u t)
    (λ e. place_found u (take k us) t e ∙ sym (place_found u us t e))
    (λ e. let w = place_passed u us t e in
    place_passed u (take k us) t e ∙ ap suc (place-take k us t (omega arith)) ∙ sym w)

among_none : (u : List ℕ) (us : List (List ℕ)) → ((i : ℕ) → i < length us → same u (get_or us i []) ≡ false) → among u us ≡ false
unfolding among some
among_none u [] h = refl
among_none u (v ∷ us) h = or-false (h 0 (omega arith)) (among_none u us (λ i k. h (suc i) (omega arith)))

among_one : (u : List ℕ) (us : List (List ℕ)) (i : ℕ) → i < length us → same u (get_or us i []) ≡ true → among u us ≡ true
unfolding among some
among_one u [] i h e = absurd (omega arith)
among_one u (v ∷ us) zero h e = or_left (some (same u) us) e
among_one u (v ∷ us) (suc i) h e = or_right (same u v) (among_one u us i (omega arith) e)

pub distinct-true : (us : List (List ℕ)) → ((i : ℕ) → i < length us → place us (get_or us i []) ≡ i) → distinct us ≡ true
unfolding distinct
distinct-true [] h = refl
distinct-true (u ∷ us) h = and-true
    (ap not (among_none u us (λ i k. by_test (same u (get_or us i []))
    (λ e. absurd (let w = place_found u us (get_or us i []) e in let z = h (suc i) (omega arith) in omega arith))
    (λ e. e))))
    (distinct-true us (λ i k. by_test (same u (get_or us i []))
    (λ e. let w = place_found u us (get_or us i []) e in let z = h (suc i) (omega arith) in omega arith)
    (λ e. let w = place_passed u us (get_or us i []) e in let z = h (suc i) (omega arith) in omega arith)))

pub distinct-false : (us : List (List ℕ)) (i : ℕ) → i < length us → (place us (get_or us i []) ≡ i → ⊥) → distinct us ≡ false
unfolding distinct
distinct-false [] i h d = absurd (omega arith)
distinct-false (u ∷ us) zero h d = absurd (d (place_found u us u (same_refl u)))
distinct-false (u ∷ us) (suc i) h d = by_test (same u (get_or us i []))
    (λ e. ap (λ b. not b && distinct us) (among_one u us i (omega arith) e))
    (λ e. and_right (not (among u us)) (distinct-false us i (omega arith) (λ z. d (place_passed u us (get_or us i []) e ∙ ap suc z))))

-- the same of the first k
module _ (k : ℕ) (us : List (List ℕ)) (fits : k ≤ length us) where
  at_first : (i : ℕ) → i < k → place (take k us) (get_or (take k us) i []) ≡ place us (get_or us i [])
  at_first i h = rw (get_or-take k us i [] h) (place-take k us (get_or us i []) (let m = place-le us i (omega arith) in omega arith))

  pub firsts_distinct : ((i : ℕ) → i < k → place us (get_or us i []) ≡ i) → distinct (take k us) ≡ true
  firsts_distinct h = distinct-true (take k us)
      (λ i m. let e = length-take-le k us fits in let n : i < k = omega arith in at_first i n ∙ h i n)

  pub firsts_twice : (i : ℕ) → i < k → (place us (get_or us i []) ≡ i → ⊥) → distinct (take k us) ≡ false
  firsts_twice i h d = let e = length-take-le k us fits in
      distinct-false (take k us) i (omega arith) (λ z. d (sym (at_first i h) ∙ z))

-- the first word that is equal is the first that is the same
place_is : (t : List ℕ) (us : List (List ℕ)) → place us t ≡ position_or_len (λ u. pointwise eqb u t) us
place_is t [] = place_none t
place_is t (u ∷ us) = by_test (pointwise eqb u t)
    (λ e. place_found u us t (sym (same_is_pointwise u t) ∙ e) ∙ rw e)
    (λ e. place_passed u us t (sym (same_is_pointwise u t) ∙ e) ∙ rw e (rw (place_is t us) (omega arith)))

pub placed : (us : List (List ℕ)) (t : List ℕ) (found : Option ℕ) → found ≡ position (λ u. pointwise eqb u t) us → IsPlace us t found
placed us t found f =
    let e = place_is t us in
    let most = place-most us t in
    by_test (nat_lt (position_or_len (λ u. pointwise eqb u t) us) (length us))
    (λ g. rw (f, g) (sym e, ltb-true _ _ g))
    (λ g. let past = ltb-false _ _ g in rw (f, g) (omega arith))

-- a word stands first at its own place, as far as the words go
module _ (us : List (List ℕ)) (t : List ℕ) where
  pub at_place : (found : Option ℕ) (i : ℕ) → IsPlace us t found → option_eq eqb found (Some i) ≡ true → place us t ≡ i
  at_place None i h e = absurd (false≢true e)
  at_place (Some j) i h e = sym h.0 ∙ eqb-true j i e

  pub at_other : (found : Option ℕ) (i : ℕ) → IsPlace us t found → option_eq eqb found (Some i) ≡ false → i < length us → place us t ≡ i → ⊥
  at_other None i h e l g = omega arith
  at_other (Some j) i h e l g = eqb-false j i e (h.0 ∙ g)

abbrev pub Yes : List (List ℕ) → ℕ × List ℕ → Type 0
Yes us p = place us p.1 ≡ p.0

abbrev pub No : List (List ℕ) → ℕ × List ℕ → Type 0
No us p = p.0 < length us → place us p.1 ≡ p.0 → ⊥

-- what `all` tells of the first k, each beside its number
pub all_distinct : (k : ℕ) (us : List (List ℕ)) → k ≤ length us → (told : Bool)
    → MatchBool told (AllWithin (Yes us) (enumerate_from 0 (take k us)) 0 (length (enumerate_from 0 (take k us))))
    ((i : ℕ) × (i < length (enumerate_from 0 (take k us))) × HoldsAt (No us) (enumerate_from 0 (take k us)) i)
    → told ≡ distinct (take k us)
all_distinct k us fits true h = sym (firsts_distinct k us fits (λ i l.
    let long = length-take-le k us fits in
    let many = length-enumerate_from 0 (take k us) in
    let e = h i (0, []) (omega arith) (omega arith) in
    let f = get_or-enumerate_from 0 (take k us) i (0, []) (omega arith) in
    let g = get_or-take k us i [] l in
    let y : place us (get_or us i []) ≡ 0 + i = rw (f, g) at e in
    omega arith))
all_distinct k us fits false h =
    let i = h.0 in
    let long = length-take-le k us fits in
    let many = length-enumerate_from 0 (take k us) in
    let l : i < k = let m = h.1 in omega arith in
    let f = get_or-enumerate_from 0 (take k us) i (0, []) (omega arith) in
    let g = get_or-take k us i [] l in
    let n = h.2 (0, []) in
    let y : 0 + i < length us → place us (get_or us i []) ≡ 0 + i → ⊥ = rw (f, g) at n in
    sym (firsts_twice k us fits i l (λ z. y (omega arith) (omega arith)))
