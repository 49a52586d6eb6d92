-- Rules in words, for every rule: what it means that one is given with a place, and that it is kept; and the words of a rule that is asked
-- of one thing, and of every entry of a list, by the law that tells which place is told.
use Prim.Native.Nat.{ℕ}
use mathlib.Core.Path.{◌≡◌, refl, sym, ap, ◌∙◌}
use mathlib.Core.Logic.{◌↔◌, ◌≢◌, ◌⊎◌, ⊎_elim}
use mathlib.Core.Logic.◌⊎◌.{inl, inr}
use mathlib.Core.Bool.{Bool, true, false, not, ◌&&◌, ◌||◌, false≢true}
use mathlib.Core.List.{List}
use native.Mathlib.Omega.{arith}
use lib.Dec.{eqb}
use borrow.Author.Tests.{eqb-true, eq-eqb, not-true, not-false}
use Rattle.basics.specs.Lists.{All}
use Rattle.basics.proofs.Tests.{by_test, not_eqb_iff, and_both, and-true, or_neither, or-false, or_left, or_right}
use Rattle.basics.proofs.All.{all_map}
use Rattle.refusals.specs.Places.{first_bad, in_word}
use Rattle.refusals.proofs.FirstPlaces.{FirstAt, in_words, place_told, none_told}

-- ---- tests in words

-- a test that two numbers differ fails exactly if they are the same
pub same_iff : (a b : ℕ) → (not (eqb a b) ≡ false) ↔ (a ≡ b)
same_iff a b = (λ e. eqb-true a b (not-false (eqb a b) e), λ e. ap not (eq-eqb a b e))

-- a test that fails, by what it means that it passes, and the other way round
pub failing : (b : Bool) {P : Type 0} → ((b ≡ true) ↔ P) → (b ≡ false) ↔ (P → ⊥)
failing b means = (
  λ e p. false≢true (sym e ∙ means.1 p),
  λ none. by_test b (λ t. absurd (none (means.0 t))) (λ t. t),
)

pub passing : (b : Bool) {P : Type 0} → ((b ≡ false) ↔ P) → (b ≡ true) ↔ (P → ⊥)
passing b means = (
  λ e p. false≢true (sym (means.1 p) ∙ e),
  λ none. by_test b (λ t. t) (λ t. absurd (none (means.0 t))),
)

-- one of two tests passes, and both fail
pub either : (a b : Bool) {P Q : Type 0} → ((a ≡ true) ↔ P) → ((b ≡ true) ↔ Q) → (a || b ≡ true) ↔ (P ⊎ Q)
either a b p q = (
  λ e. by_test a (λ t. inl (p.0 t)) (λ t. inr (q.0 (rw t at e))),
  λ w. ⊎_elim (λ v. or_left b (p.1 v)) (λ v. or_right a (q.1 v)) w,
)

pub neither : (a b : Bool) {P Q : Type 0} → ((a ≡ false) ↔ P) → ((b ≡ false) ↔ Q) → (a || b ≡ false) ↔ (P × Q)
neither a b p q = (
  λ e. let w = or_neither a b e in (p.0 w.0, q.0 w.1),
  λ w. or-false (p.1 w.0) (q.1 w.1),
)

second_fails : (a b : Bool) → b ≡ false → not (a && b) ≡ true
second_fails true b e = ap not e
second_fails false b e = refl

-- not both of two tests pass, and both do
pub not_both : (a b : Bool) {P Q : Type 0} → ((a ≡ false) ↔ P) → ((b ≡ false) ↔ Q) → (not (a && b) ≡ true) ↔ (P ⊎ Q)
not_both a b p q = (
  λ e. by_test a (λ t. inr (q.0 (not-true b (rw t at e)))) (λ t. inl (p.0 t)),
  λ w. ⊎_elim (λ v. ap (λ c. not (c && b)) (p.1 v)) (λ v. second_fails a b (q.1 v)) w,
)

pub both : (a b : Bool) {P Q : Type 0} → ((a ≡ true) ↔ P) → ((b ≡ true) ↔ Q) → (not (a && b) ≡ false) ↔ (P × Q)
both a b p q = (
  λ e. let w = and_both a b (not-false (a && b) e) in (p.0 w.0, q.0 w.1),
  λ w. ap not (and-true (p.1 w.0) (q.1 w.1)),
)

-- ---- rules in words

-- a rule in words: what it means that it is given with a place, and that it is kept
pub record Words : Type 1 where
  pub Given : ℕ → Type 0
  pub Kept : Type 0

-- they are the words of a rule with this place and this test: it is given with place p, and not given, exactly if they say so
pub record InWords (place : ℕ) (broken : Bool) (words : Words) : Type 0 where
  pub given : (p : ℕ) → ((broken ≡ true) × (place ≡ p)) ↔ words.Given p
  pub not_given : (broken ≡ false) ↔ words.Kept

-- of what is asked of one thing, and of every entry of a list

abbrev pub OfOne : ℕ → Type 0 → Type 0 → Words
OfOne place Bad Good = record { Given = λ p. Bad × (p ≡ place); Kept = Good }

pub of_one : (place : ℕ) (broken : Bool) {Bad Good : Type 0} → ((broken ≡ true) ↔ Bad) → ((broken ≡ false) ↔ Good)
    → InWords place broken (OfOne place Bad Good)
of_one place broken bad-is kept_is = record {
  given = λ p. (λ w. (bad-is.0 w.0, sym w.1), λ w. (bad-is.1 w.0, sym w.1));
  not_given = kept_is;
}

-- the first bad entry, or the place after the last where words are left over
abbrev pub OfList {ℓ} : {A : Type ℓ} → (A → Type 0) → (A → Type 0) → Type 0 → Type 0 → A → List A → Words
OfList Bad Good LeftOver Whole blank entries = record { Given = FirstAt Bad Good LeftOver blank entries; Kept = All Good entries × Whole }

module _ {ℓ} {A : Type ℓ} (bad : A → Bool) (leftOver : Bool) (blank : A) (entries : List A) {Bad Good : A → Type 0} {LeftOver Whole : Type 0}
    (bad-is : (a : A) → (bad a ≡ true) ↔ Bad a) (good_is : (a : A) → (bad a ≡ false) ↔ Good a)
    (left_is : (leftOver ≡ true) ↔ LeftOver) (whole_is : (leftOver ≡ false) ↔ Whole) where
  abbrev first : ℕ
  first = first_bad bad leftOver entries

  pub of_list : InWords first (not (eqb first 0)) (OfList Bad Good LeftOver Whole blank entries)
  of_list = record {
    given = λ p. (
      λ w.
          let some : first ≢ 0 = (not_eqb_iff first 0).0 w.0 in
          let told = (place_told bad leftOver blank entries p).0 (omega arith, w.1) in
          in_words (λ a. (bad-is a).0) (λ a. (good_is a).0) left_is.0 p told,
      λ w.
          let told = (place_told bad leftOver blank entries p).1 (in_words (λ a. (bad-is a).1) (λ a. (good_is a).1) left_is.1 p w) in
          ((not_eqb_iff first 0).1 (λ z. omega arith), told.1),
    );
    not_given = (
      λ e.
          let kept = (none_told bad leftOver blank entries).0 ((same_iff first 0).0 e) in
          (all_map (λ a. (good_is a).0) entries kept.0, whole_is.0 kept.1),
      λ w. (same_iff first 0).1 ((none_told bad leftOver blank entries).1 (all_map (λ a. (good_is a).1) entries w.0, whole_is.1 w.1)),
    );
  }

-- a list in which nothing can be left over
pub nothing_left : (false ≡ true) ↔ ⊥
nothing_left = (false≢true, λ w. absurd w)

pub always_whole : (false ≡ false) ↔ Unit {0}
always_whole = (λ e. tt, λ w. refl)

-- a place that is told as a word can tell it
abbrev pub AsWord : Words → Words
AsWord words = record { Given = λ p. (q : ℕ) × words.Given q × (in_word q ≡ p); Kept = words.Kept }

pub in_word_lem : {place : ℕ} {broken : Bool} {words : Words} → InWords place broken words → InWords (in_word place) broken (AsWord words)
in_word_lem {place} w = record {
  given = λ p. (
    λ v. (place, (w.given place).0 (v.0, refl), v.1),
    λ v. let u = (w.given v.0).1 v.1 in (u.0, ap in_word u.1 ∙ v.2),
  );
  not_given = w.not_given;
}
