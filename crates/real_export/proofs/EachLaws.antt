-- Laws of lists that are joined: in two parts, entry by entry, kept by a test, and their length.
use Rattle.std.specs.Prelude.{ℕ, ◌+◌, ◌*◌, ◌<◌, ◌≤◌, ◌≡◌, refl, Bool, List, [], ◌∷◌, ◌++◌, length, get_or, take, drop}
use Rattle.std.proofs.Common.{sym, ap, ◌∙◌, arith, add-one, append_assoc, length-append, take-suc, take-append-drop}
use Rattle.std.proofs.lemmas.List.{append-nil}
use Rattle.basics.specs.Choice.{choice}
use Rattle.basics.specs.Lists.{keep, each, All}
use Rattle.basics.proofs.Tests.{by_test}

module _ {ℓ κ} {A : Type ℓ} {B : Type κ} (f : A → List B) where
  pub each_append : (xs ys : List A) → each f (xs ++ ys) ≡ each f xs ++ each f ys
  unfolding each
  each_append [] ys = refl
  each_append (x ∷ xs) ys = ap (λ t. f x ++ t) (each_append xs ys) ∙ sym (append_assoc (f x) (each f xs) (each f ys))

  -- what is made of the entries kept is made of those that pass
  pub each_keep : (p : A → Bool) (xs : List A) → each f (keep p xs) ≡ each (λ x. choice (p x) (f x) []) xs
  unfolding each keep
  each_keep p [] = refl
  each_keep p (x ∷ xs) = by_test (p x)
      (λ e. rw e (ap (λ t. f x ++ t) (each_keep p xs)))
      (λ e. rw e (each_keep p xs))

  -- where each entry makes at most c
  pub each_few : (c : ℕ) (xs : List A) → All (λ x. length (f x) ≤ c) xs → length (each f xs) ≤ c * length xs
  unfolding each
  each_few c [] h = omega arith
  each_few c (x ∷ xs) h = rw (length-append (f x) (each f xs)) (omega (arith, h.0, each_few c xs h.1))

  -- the first entries, with the next one too; no more than all
  pub each_next : (xs : List A) (i : ℕ) (d : A) → i < length xs → each f (take (i + 1) xs) ≡ each f (take i xs) ++ f (get_or xs i d)
  unfolding each
  each_next xs i d h =
      let last = append-nil (f (get_or xs i d)) in
      rw (add-one i, take-suc xs i d h) (each_append (take i xs) (get_or xs i d ∷ []) ∙ ap (λ t. each f (take i xs) ++ t) last)

  pub each_front : (xs : List A) (i : ℕ) → length (each f (take i xs)) ≤ length (each f xs)
  each_front xs i =
      let parts = each_append (take i xs) (drop i xs) in
      omega (arith, ap (λ t. length (each f t)) (take-append-drop i xs), ap length parts, length-append (each f (take i xs)) (each f (drop i xs)))
