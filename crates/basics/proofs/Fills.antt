-- Laws of a list that is stored into another from its start, entry by entry: `take i made ++ drop i old` is what stands there after i stores.
use Prim.Native.Nat.{ℕ, suc, ◌+◌, ◌≤◌, ◌<◌}
use mathlib.Core.Path.{◌≡◌, sym, ap, ap₂, ◌∙◌}
use mathlib.Core.List.{List, [], ◌∷◌, ◌++◌, append_assoc}
use native.Mathlib.Numerals.{add-one}
use native.Mathlib.Omega.{arith}
use lib.ListN.{length, get_or, take, drop, set, length-drop}
use lib.Seq.{take-suc, take_all, drop-cons, drop-drop, get_or-drop, set_at, length-take-le, length_front}

module _ (made old now : List ℕ) (i : ℕ) where
  -- one store more
  pub fill_turn : (v : ℕ) → i < length made → length made ≤ length old → now ≡ take i made ++ drop i old → v ≡ get_or made i 0
      → set now i v ≡ take (i + 1) made ++ drop (i + 1) old
  fill_turn v h wide e w =
      let front : List ℕ = take i made in
      let rest : List ℕ = drop (suc i) old in
      ap (λ l. set l i v) (e ∙ ap (λ l. front ++ l) (drop-cons old i 0 (omega arith)))
      ∙ set_at front (get_or old i 0) rest v i (length-take-le i made (omega arith))
      ∙ sym (append_assoc front (v ∷ []) rest)
      ∙ ap (λ x. (front ++ (x ∷ [])) ++ rest) w
      ∙ ap (λ l. l ++ rest) (sym (take-suc made i 0 h))
      ∙ ap (λ k. take k made ++ drop k old) (sym (add-one i))

  pub fill_length : i ≤ length made → length made ≤ length old → now ≡ take i made ++ drop i old → length now ≡ length old
  fill_length h wide e =
      ap length e ∙ length_front old (take i made) i (length-take-le i made h ∙ sym (length-take-le i old (omega arith)))

  -- after the last
  pub fill_done : i ≡ length made → now ≡ take i made ++ drop i old → now ≡ made ++ drop (length made) old
  fill_done h e = e ∙ ap₂ ◌++◌ (take_all i made (omega arith)) (ap (λ k. drop k old) h)

-- what is still to be stored: the next entry, and none
pub fill_next : (made rest : List ℕ) (i b : ℕ) → drop i made ≡ b ∷ rest → (i < length made) × (b ≡ get_or made i 0) × (drop (i + 1) made ≡ rest)
fill_next made rest i b e = (
  omega (arith, length-drop i made, ap length e),
  sym (ap (λ l. get_or l 0 0) e) ∙ get_or-drop i made 0 0 ∙ ap (λ k. get_or made k 0) (omega arith),
  sym (drop-drop 1 i made) ∙ ap (drop 1) e,
)

pub fill_last : (made : List ℕ) (i : ℕ) → i ≤ length made → drop i made ≡ [] → i ≡ length made
fill_last made i h e = omega (arith, length-drop i made, ap length e)
