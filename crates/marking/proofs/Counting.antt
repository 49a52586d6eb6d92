-- Faults counted and searched by place, as loops go: a test on the faults of a class, level by level or gate by gate.
use Rattle.std.specs.Prelude.{ℕ, suc, ◌+◌, ◌-◌, ◌≤◌, ◌<◌, ◌≡◌, refl, Bool, List, [], ◌∷◌, ◌++◌, length}
use Rattle.std.proofs.Common.{sym, ap, ap₂, ◌∙◌, add-one, arith}
use Rattle.basics.specs.Lists.{up_from, keep, each, All}
use Rattle.basics.specs.Sums.{sum_from}
use Rattle.basics.proofs.ListMore.{keep_append, keep-each, count_two}
use Rattle.basics.proofs.SumLaws.{sum-cong, length-sum}
use Rattle.words.specs.Word.{lines_on}
use Rattle.circuit.specs.declared.Gate.{Gate}
use Rattle.faults.specs.Sites.{sites}
use Rattle.faults.specs.declared.Fault.{Fault}
use Rattle.faults.specs.Classes.{fault_of, stuck_faults}

-- a list that is made place by place goes by what each place gives
pub each_agree : (f g : ℕ → List Fault) (places : List ℕ) → All (λ i. f i ≡ g i) places → each f places ≡ each g places
unfolding each
each_agree f g [] same = refl
each_agree f g (i ∷ places) same = ap₂ ◌++◌ same.0 (each_agree f g places same.1)

-- ---- counts

-- a list that is made place by place is counted place by place
pub count_places : (m : Fault → Bool) (g : ℕ → List Fault) (a k : ℕ)
    → length (keep m (each g (up_from a k))) ≡ sum_from (λ i. length (keep m (g i))) a k
count_places m g a k = ap length (keep-each m g (up_from a k)) ∙ length-sum (λ i. keep m (g i)) a k

module _ (m : Fault → Bool) (n : ℕ) (gs : List Gate) where
  pub count_stuck : length (keep m (stuck_faults n gs))
      ≡ sum_from (λ i. length (keep (λ j. m (fault_of 1 i j 0)) (lines_on n (sites n gs i))) + length
      (keep (λ j. m (fault_of 1 i j 1)) (lines_on n (sites n gs i)))) 0 (suc (length gs))
  unfolding stuck_faults
  count_stuck =
      count_places m (λ i. each (λ j. fault_of 1 i j 0 ∷ fault_of 1 i j 1 ∷ []) (lines_on n (sites n gs i))) 0 (suc (length gs))
      ∙ sum-cong _ _ 0 (suc (length gs)) (λ i l h. count_two m (λ j. fault_of 1 i j 0) (λ j. fault_of 1 i j 1) (lines_on n (sites n gs i)))

-- ---- the first that passes, place by place

up_next : (i e : ℕ) → i < e → up_from i (e - i) ≡ up_from i (suc (e - (i + 1)))
up_next i e h = let k : e - i ≡ suc (e - (i + 1)) = omega arith in ap (up_from i) k

module _ (q : Fault → Bool) (g : ℕ → List Fault) where
  -- a place where none passes, and one where some does
  pub first_passed : (a k : ℕ) → keep q (g a) ≡ [] → keep q (each g (up_from a (suc k))) ≡ keep q (each g (up_from (suc a) k))
  unfolding up_from each
  first_passed a k e = keep_append q (g a) (each g (up_from (suc a) k)) ∙ ap (λ l. l ++ keep q (each g (up_from (suc a) k))) e

  pub first_found : (a k : ℕ) (f : Fault) (r : List Fault) → keep q (g a) ≡ f ∷ r
      → keep q (each g (up_from a (suc k))) ≡ f ∷ (r ++ keep q (each g (up_from (suc a) k)))
  unfolding up_from each
  first_found a k f r e = keep_append q (g a) (each g (up_from (suc a) k)) ∙ ap (λ l. l ++ keep q (each g (up_from (suc a) k))) e

  -- the same up to place e, and the end
  pub passed_to : (i e : ℕ) → i < e → keep q (g i) ≡ [] → keep q (each g (up_from i (e - i))) ≡ keep q (each g (up_from (i + 1) (e - (i + 1))))
  passed_to i e h w =
      ap (λ l. keep q (each g l)) (up_next i e h) ∙ first_passed i (e - (i + 1)) w
      ∙ ap (λ j. keep q (each g (up_from j (e - (i + 1))))) (sym (add-one i))

  pub found_to : (i e : ℕ) (f : Fault) (r : List Fault) → i < e → keep q (g i) ≡ f ∷ r
      → keep q (each g (up_from i (e - i))) ≡ f ∷ (r ++ keep q (each g (up_from (i + 1) (e - (i + 1)))))
  found_to i e f r h w =
      ap (λ l. keep q (each g l)) (up_next i e h) ∙ first_found i (e - (i + 1)) f r w
      ∙ ap (λ j. f ∷ (r ++ keep q (each g (up_from j (e - (i + 1)))))) (sym (add-one i))

  pub passed_all : (i e : ℕ) → e ≤ i → keep q (each g (up_from i (e - i))) ≡ []
  unfolding up_from each keep
  passed_all i e h = let k : e - i ≡ 0 = omega arith in ap (λ m. keep q (each g (up_from i m))) k
