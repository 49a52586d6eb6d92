-- Laws of lists under a test: what is kept passes it, and where none passes, every entry fails.
use Prim.Native.Nat.{ℕ, ◌+◌, ◌≤◌, ◌<◌}
use mathlib.Core.Path.{◌≡◌, refl, ap, ap₂, ◌∙◌}
use mathlib.Core.Bool.{Bool, true, false, false≢true}
use mathlib.Core.List.{List, [], ◌∷◌}
use Rattle.basics.specs.Choice.{choice}
use Rattle.basics.specs.Lists.{up_from, keep, some, All}
use Rattle.basics.proofs.Tests.{choice-true, or_neither}
use Rattle.basics.proofs.Lists.{all-up_from}

module _ {ℓ} {A : Type ℓ} where
  all-when : (P : A → Type 0) (b : Bool) (a : A) (ys : List A) → (b ≡ true → P a) → All P ys → All P (choice b (a ∷ ys) ys)
  all-when P true a ys h w = (h refl, w)
  all-when P false a ys h w = w

  when-all : (P : A → Type 0) (b : Bool) (a : A) (ys : List A) → All P (choice b (a ∷ ys) ys) → (b ≡ true → P a) × All P ys
  when-all P true a ys w = (λ e. w.0, w.1)
  when-all P false a ys w = (λ e. absurd (false≢true e), w)

  -- a property of what is kept is one of the entries that pass
  pub all_kept : (P : A → Type 0) (p : A → Bool) (ys : List A) → All (λ a. p a ≡ true → P a) ys → All P (keep p ys)
  unfolding keep
  all_kept P p [] w = tt
  all_kept P p (a ∷ ys) w = all-when P (p a) a (keep p ys) w.0 (all_kept P p ys w.1)

  pub kept_all : (P : A → Type 0) (p : A → Bool) (ys : List A) → All P (keep p ys) → All (λ a. p a ≡ true → P a) ys
  unfolding keep
  kept_all P p [] w = tt
  kept_all P p (a ∷ ys) w = let r = when-all P (p a) a (keep p ys) w in (r.0, kept_all P p ys r.1)

  -- where all pass, all are kept
  pub keep-every : (p : A → Bool) (ys : List A) → All (λ a. p a ≡ true) ys → keep p ys ≡ ys
  unfolding keep
  keep-every p [] w = refl
  keep-every p (a ∷ ys) w = choice-true w.0 (a ∷ keep p ys) (keep p ys) ∙ ap (λ zs. a ∷ zs) (keep-every p ys w.1)

  -- tests that agree on every entry keep the same
  pub keep_agree : (p q : A → Bool) (ys : List A) → All (λ a. p a ≡ q a) ys → keep p ys ≡ keep q ys
  unfolding keep
  keep_agree p q [] w = refl
  keep_agree p q (a ∷ ys) w = ap₂ (λ b zs. choice b (a ∷ zs) zs) w.0 (keep_agree p q ys w.1)

  -- where not some entry passes, every entry fails
  pub none_some : (p : A → Bool) (ys : List A) → some p ys ≡ false → All (λ a. p a ≡ false) ys
  unfolding some
  none_some p [] e = tt
  none_some p (a ∷ ys) e = let r = or_neither (p a) (some p ys) e in (r.0, none_some p ys r.1)

pub keep-up_from-cong : (p q : ℕ → Bool) (a k : ℕ) → ((i : ℕ) → a ≤ i → i < a + k → p i ≡ q i) → keep p (up_from a k) ≡ keep q (up_from a k)
keep-up_from-cong p q a k h = keep_agree p q (up_from a k) (all-up_from _ a k h)
