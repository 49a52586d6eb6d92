-- Which place is told, exactly: that of the first bad entry, or the one after the last where words are left over and no entry is bad;
-- and none exactly where nothing is bad. For every list.
use Prim.Native.Nat.{ℕ, zero, suc, ◌+◌, ◌-◌, ◌≤◌, ◌<◌}
use mathlib.Core.Path.{◌≡◌, ◌∙◌}
use mathlib.Core.Logic.{◌↔◌, ◌⊎◌, ⊎_map, ⊎_elim}
use mathlib.Core.Logic.◌⊎◌.{inl, inr}
use mathlib.Core.Bool.{Bool, true, false}
use mathlib.Core.List.{List, [], ◌∷◌}
use native.Mathlib.Omega.{arith}
use lib.ListN.{length, get_or}
use Rattle.basics.specs.Lists.{All}
use Rattle.basics.proofs.Tests.{by_test}
use Rattle.refusals.specs.Places.{first_bad_from, first_bad}
use Rattle.refusals.proofs.Places.{none_bad, none_left}

module _ {ℓ} {A : Type ℓ} (Bad Good : A → Type 0) (LeftOver : Type 0) (blank : A) (entries : List A) where
  -- p is the first bad place of a list: its entry, counted from 1, is bad, or it is the one after the last entry and words are left over;
  -- and every entry before is good
  pub record FirstAt (p : ℕ) : Type 0 where
    pub bad_there : ((1 ≤ p) × (p ≤ length entries) × Bad (get_or entries (p - 1) blank)) ⊎ ((p ≡ length entries + 1) × LeftOver)
    pub good_before : (i : ℕ) → 1 ≤ i → i < p → Good (get_or entries (i - 1) blank)

-- the same in other words
module _ {ℓ} {A : Type ℓ} {Bad Good Bad' Good' : A → Type 0} {LeftOver LeftOver' : Type 0} {blank : A} {entries : List A} where
  pub in_words : ((a : A) → Bad a → Bad' a) → ((a : A) → Good a → Good' a) → (LeftOver → LeftOver')
      → (p : ℕ) → FirstAt Bad Good LeftOver blank entries p → FirstAt Bad' Good' LeftOver' blank entries p
  in_words f g h p w = record {
    bad_there = ⊎_map (λ v. (v.0, v.1, f _ v.2)) (λ v. (v.0, h v.1)) w.bad_there;
    good_before = λ i l m. g _ (w.good_before i l m);
  }

back : (i : ℕ) → suc i - 1 ≡ i
back i = omega arith

module _ {ℓ} {A : Type ℓ} (bad : A → Bool) (leftOver : Bool) (blank : A) where
  -- ---- the search from place s + 1 on, whose first entry has number 0

  -- it tells no place before
  told_ge : (entries : List A) (s q : ℕ) → first_bad_from bad leftOver (suc s) entries ≡ suc q → s ≤ q
  unfolding first_bad_from
  told_ge [] s q e = by_test leftOver
      (λ t. let w : suc s ≡ suc q = rw t at e in omega arith)
      (λ t. let w : 0 ≡ suc q = rw t at e in absurd (omega arith))
  told_ge (a ∷ rest) s q e = by_test (bad a)
      (λ t. let w : suc s ≡ suc q = rw t at e in omega arith)
      (λ t. omega (arith, told_ge rest (suc s) q (rw t at e)))

  abbrev BadFrom : List A → ℕ → Type 0
  BadFrom entries j = ((j < length entries) × (bad (get_or entries j blank) ≡ true)) ⊎ ((j ≡ length entries) × (leftOver ≡ true))

  abbrev GoodTo : List A → ℕ → Type 0
  GoodTo entries j = (i : ℕ) → i < j → bad (get_or entries i blank) ≡ false

  good_more : (a : A) (rest : List A) (j : ℕ) → bad a ≡ false → GoodTo rest j → GoodTo (a ∷ rest) (suc j)
  good_more a rest j e g zero l = e
  good_more a rest j e g (suc i) l = g i (omega arith)

  told_means : (entries : List A) (s j : ℕ) → first_bad_from bad leftOver (suc s) entries ≡ suc (s + j) → BadFrom entries j × GoodTo entries j
  unfolding first_bad_from
  told_means [] s j e = by_test leftOver
      (λ t. let w : suc s ≡ suc (s + j) = rw t at e in (inr (omega arith, t), λ i l. absurd (omega arith)))
      (λ t. let w : 0 ≡ suc (s + j) = rw t at e in absurd (omega arith))
  told_means (a ∷ rest) s zero e = by_test (bad a)
      (λ t. (inl (omega arith, t), λ i l. absurd (omega arith)))
      (λ t. absurd (omega (arith, told_ge rest (suc s) (s + 0) (rw t at e))))
  told_means (a ∷ rest) s (suc j) e = by_test (bad a)
      (λ t. let w : suc s ≡ suc (s + suc j) = rw t at e in absurd (omega arith))
      (λ t.
      let k : suc (s + suc j) ≡ suc (suc s + j) = omega arith in
      let r = told_means rest (suc s) j ((rw t at e) ∙ k) in
      (⊎_map (λ w. (omega arith, w.1)) (λ w. (omega arith, w.1)) r.0, good_more a rest j t r.1))

  means_told : (entries : List A) (s j : ℕ) → BadFrom entries j → GoodTo entries j → first_bad_from bad leftOver (suc s) entries ≡ suc (s + j)
  unfolding first_bad_from
  means_told [] s j (inl w) g = absurd (omega arith)
  means_told [] s j (inr w) g = rw w.1 (omega arith)
  means_told (a ∷ rest) s zero (inl w) g = rw w.1 (omega arith)
  means_told (a ∷ rest) s zero (inr w) g = absurd (omega arith)
  means_told (a ∷ rest) s (suc j) w g =
      let v : BadFrom rest j = ⊎_map (λ w. (omega arith, w.1)) (λ w. (omega arith, w.1)) w in
      rw (g 0 (omega arith)) (means_told rest (suc s) j v (λ i l. g (suc i) (omega arith)) ∙ omega arith)

  none_means : (entries : List A) (place : ℕ) → leftOver ≡ false → All (λ a. bad a ≡ false) entries → first_bad_from bad leftOver place entries ≡ 0
  unfolding first_bad_from
  none_means [] place e g = rw e
  none_means (a ∷ rest) place e g = rw g.0 (none_means rest (suc place) e g.1)

  -- ---- the whole list, whose first entry has place 1

  module _ (entries : List A) where
    abbrev Told : ℕ → Type 0
    Told p = FirstAt (λ a. bad a ≡ true) (λ a. bad a ≡ false) (leftOver ≡ true) blank entries p

    -- A place is told exactly if it is the first bad one.
    pub place_told : (p : ℕ) → ((1 ≤ p) × (first_bad bad leftOver entries ≡ p)) ↔ Told p
    place_told p = (
      λ w.
          let e : p ≡ suc (0 + (p - 1)) = omega arith in
          let r = told_means entries 0 (p - 1) (w.1 ∙ e) in
          record {
            bad_there = ⊎_map (λ v. (w.0, omega arith, v.1)) (λ v. (omega arith, v.1)) r.0;
            good_before = λ i l m. r.1 (i - 1) (omega arith);
          },
      λ w.
          let some : 1 ≤ p = ⊎_elim (λ v. v.0) (λ v. omega arith) w.bad_there in
          let e : suc (0 + (p - 1)) ≡ p = omega arith in
          let b : BadFrom entries (p - 1) = ⊎_map (λ v. (omega arith, v.2)) (λ v. (omega arith, v.1)) w.bad_there in
          (some, means_told entries 0 (p - 1) b (λ i l. rw (← back i) (w.good_before (suc i) (omega arith) (omega arith))) ∙ e),
    )

    -- None is told exactly if no entry is bad and no word is left over.
    pub none_told : (first_bad bad leftOver entries ≡ 0) ↔ (All (λ a. bad a ≡ false) entries × (leftOver ≡ false))
    none_told = (λ e. (none_bad bad leftOver entries 0 e, none_left bad leftOver entries 0 e), λ w. none_means entries 1 w.1 w.0)
