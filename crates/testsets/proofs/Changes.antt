-- Words that are changed one place after the other, each by its place and by what stood there.
use Rattle.std.specs.Prelude.{ℕ, ◌+◌, ◌≤◌, ◌<◌, ◌≡◌, refl, List, length, get_or, set}
use Rattle.std.proofs.Common.{ap, ◌∙◌, not-suc-le-zero, le_refl, arith, length-set, get_or-set_same, get_or-set_other}
use Rattle.basics.proofs.Tests.{by_equal}

-- the places below i are changed, and the others are not
pub record Changed (f : ℕ → ℕ → ℕ) (i : ℕ) (old now : List ℕ) : Type 0 where
  pub long : length now ≡ length old
  pub done : (k : ℕ) → k < i → get_or now k 0 ≡ f k (get_or old k 0)
  pub kept : (k : ℕ) → i ≤ k → get_or now k 0 ≡ get_or old k 0

module _ (f : ℕ → ℕ → ℕ) (old : List ℕ) where
  pub changed_none : Changed f 0 old old
  changed_none = record { long = refl; done = λ k h. absurd (not-suc-le-zero h); kept = λ k h. refl }

  -- place i too, by whatever name
  pub changed-more : (now : List ℕ) (i k v : ℕ) → k ≡ i → i < length now → Changed f i old now → v ≡ f i (get_or now k 0)
      → Changed f (i + 1) old (set now k v)
  changed-more now i k v place h w e =
      let here : v ≡ f i (get_or now i 0) = e ∙ ap (λ p. f i (get_or now p 0)) place in
      rw place (record {
        long = length-set now i v ∙ w.long;
        done = λ p l. by_equal p i
            (λ q. rw q (get_or-set_same now i v 0 h ∙ here ∙ ap (f i) (w.kept i (le_refl i))))
            (λ d. get_or-set_other now i p v 0 d ∙ w.done p (omega arith));
        kept = λ p l. get_or-set_other now i p v 0 (λ q. omega arith) ∙ w.kept p (omega arith);
      })
