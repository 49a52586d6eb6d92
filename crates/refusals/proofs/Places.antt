-- Laws of the search for a first bad entry: one for each outcome of a turn, and what it means that none is bad.
use Prim.Native.Nat.{ℕ, suc, ◌+◌, ◌<◌, ◌≤◌}
use mathlib.Core.Path.{◌≡◌, refl}
use mathlib.Core.Bool.{Bool, true, false}
use mathlib.Core.List.{List, [], ◌∷◌}
use native.Mathlib.Numerals.{add-one}
use native.Mathlib.Omega.{arith}
use lib.ListN.{length, get_or, drop, drop_of_length-le}
use lib.Seq.{drop-cons}
use Rattle.std.proofs.Math.Nat.{min-eq_left}
use Rattle.std.proofs.Common.{◌^◌}
use Rattle.basics.specs.Choice.{choice}
use Rattle.basics.specs.Lists.{All}
use borrow.Author.Tests.{ne_eqb}
use mathlib.Core.Bool.{not}
use Rattle.std.specs.Prelude.{Some, None}
use lib.Dec.{eqb}
use Rattle.refusals.specs.Places.{first_bad_from, in_word, some_place}
use Rattle.refusals.specs.Tables.{Told}
use Rattle.refusals.specs.Tables.Told.{refused}
use Rattle.refusals.specs.Answers.{fine}

-- a choice of places that is 0 chose the second, and it is 0
choice-zero : (b : Bool) (k m : ℕ) → choice b (suc k) m ≡ 0 → (b ≡ false) × (m ≡ 0)
choice-zero true k m e = absurd (omega arith)
choice-zero false k m e = (refl, e)

choice-le : (b : Bool) (a k m : ℕ) → a ≤ m → k ≤ m → choice b a k ≤ m
choice-le true a k m p q = p
choice-le false a k m p q = q

-- a place that a word holds is told as it is
pub in_word_small : (number : ℕ) → number < 2 ^ 32 → in_word number ≡ number
unfolding in_word
in_word_small number h = min-eq_left (omega arith)

-- a rule that tells the place of the first bad entry as a word can tell it, or that there is none
abbrev pub rule_told : ℕ → ℕ → Told
rule_told number place = choice (not (eqb place 0)) (refused number (in_word place)) fine

-- at a place, at none, and at the place after the last where something is left over
pub told_at : (number place i : ℕ) → place ≡ i + 1 → refused number (in_word (i + 1)) ≡ rule_told number place
told_at number place i e = rw (e, ne_eqb (i + 1) 0 (λ z. absurd (omega arith)))

pub told_none : (number place : ℕ) → place ≡ 0 → fine ≡ rule_told number place
told_none number place e = rw e

pub told_after : (leftOver : Bool) (number place i : ℕ) → place ≡ choice leftOver (i + 1) 0
    → choice leftOver (refused number (in_word (i + 1))) fine ≡ rule_told number place
told_after true number place i e = told_at number place i e
told_after false number place i e = told_none number place e

-- a place as code has it: there is one, or none
pub some_at : (place i : ℕ) → place ≡ i + 1 → Some (i + 1) ≡ some_place place
some_at place i e = rw (e, ne_eqb (i + 1) 0 (λ z. absurd (omega arith)))

pub none_at : (place : ℕ) → place ≡ 0 → None ≡ some_place place
none_at place e = rw e

-- and what a rule tells of it
some_is : (none : Bool) (place here : ℕ) → Some here ≡ choice none None (Some place) → (none ≡ false) × (here ≡ place)
some_is true place here e = let z : ◌≡◌ {A = ℕ} 0 1 = cc in absurd (omega arith)
some_is false place here e = (refl, cc)

none_is : (none : Bool) (place : ℕ) → None ≡ choice none None (Some place) → none ≡ true
none_is true place e = refl
none_is false place e = let z : ◌≡◌ {A = ℕ} 0 1 = cc in absurd (omega arith)

pub told_some : (number place here : ℕ) → Some here ≡ some_place place → refused number (in_word here) ≡ rule_told number place
told_some number place here e = let w = some_is (eqb place 0) place here e in rw (w.0, w.1)

pub told_where_none : (number place : ℕ) → None ≡ some_place place → fine ≡ rule_told number place
told_where_none number place e = rw (none_is (eqb place 0) place e)

module _ {ℓ} {A : Type ℓ} (bad : A → Bool) (leftOver : Bool) where
  -- at place i + 1 of the list: a bad entry, a good one, and the end
  pub bad-found : (entries : List A) (i : ℕ) (d : A) → i < length entries → bad (get_or entries i d) ≡ true
      → first_bad_from bad leftOver (i + 1) (drop i entries) ≡ i + 1
  unfolding first_bad_from
  bad-found entries i d h e = rw (drop-cons entries i d h, e)

  pub bad_passed : (entries : List A) (i : ℕ) (d : A) → i < length entries → bad (get_or entries i d) ≡ false
      → first_bad_from bad leftOver (i + 1) (drop i entries) ≡ first_bad_from bad leftOver (i + 1 + 1) (drop (i + 1) entries)
  unfolding first_bad_from
  bad_passed entries i d h e = rw (drop-cons entries i d h, e, add-one (i + 1), add-one i)

  pub bad_end : (entries : List A) (i : ℕ) → length entries ≤ i → first_bad_from bad leftOver (i + 1) (drop i entries) ≡ choice leftOver (i + 1) 0
  unfolding first_bad_from
  bad_end entries i h = rw (drop_of_length-le entries h)

  -- a place is one of the list's, or the one after
  pub bad-le : (entries : List A) (place : ℕ) → first_bad_from bad leftOver place entries ≤ place + length entries
  unfolding first_bad_from
  bad-le [] place = choice-le leftOver place 0 _ (omega arith) (omega arith)
  bad-le (a ∷ rest) place = let r = bad-le rest (suc place) in choice-le (bad a) place _ _ (omega arith) (omega arith)

  -- where no place is told no entry is bad, and nothing is left over
  pub none_bad : (entries : List A) (place : ℕ) → first_bad_from bad leftOver (suc place) entries ≡ 0 → All (λ a. bad a ≡ false) entries
  unfolding first_bad_from
  none_bad [] place e = tt
  none_bad (a ∷ rest) place e = let w = choice-zero (bad a) place _ e in (w.0, none_bad rest (suc place) w.1)

  pub none_left : (entries : List A) (place : ℕ) → first_bad_from bad leftOver (suc place) entries ≡ 0 → leftOver ≡ false
  unfolding first_bad_from
  none_left [] place e = (choice-zero leftOver place 0 e).0
  none_left (a ∷ rest) place e = none_left rest (suc place) (choice-zero (bad a) place _ e).1
