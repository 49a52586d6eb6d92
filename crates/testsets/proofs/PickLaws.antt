-- The pick rule on a tie: every smaller input than the one that is picked catches fewer. That none catches more is `best_above` of `Halving`.
use Rattle.std.proofs.Common.{ℕ, zero, suc, ◌^◌, ◌≤◌, ◌<◌, sym, subst, List, not-suc-le-zero, le_refl, arith, ltb, ltb-true, ltb-false}
use Rattle.std.proofs.Math.Logic.{by_cases}
use Rattle.std.proofs.Math.Decide.{dec_le}
use Rattle.basics.specs.Lists.{up_from}
use Rattle.basics.proofs.Tests.{by_test, by_equal, choice-true, choice-false}
use Rattle.circuit.specs.declared.Gate.{Gate}
use Rattle.faults.specs.declared.Fault.{Fault}
use Rattle.testsets.specs.Sets.{score, best_of, best}

module _ (gs : List Gate) (fs : List Fault) where
  -- every number below v scores lower
  abbrev Lower : ℕ → Type 0
  Lower v = (x : ℕ) → x < v → score gs fs x < score gs fs v

  -- b is the first best of the numbers below `next`: those below it score lower, and the others no higher
  first-best : (b next k : ℕ) → b ≤ next → Lower b → ((x : ℕ) → b ≤ x → x < next → score gs fs x ≤ score gs fs b)
      → Lower (best_of gs fs b (up_from next k))
  unfolding best_of up_from
  first-best b next zero le low high = low
  first-best b next (suc k) le low high = by_test (ltb (score gs fs b) (score gs fs next))
      (λ e.
      let more : score gs fs b < score gs fs next = ltb-true (score gs fs b) (score gs fs next) e in
      subst (λ c. Lower (best_of gs fs c (up_from (suc next) k))) (sym (choice-true e next b))
      (first-best next (suc next) k (omega arith)
      (λ y l. by_cases (dec_le b y) (λ above. omega (arith, high y above l)) (λ below. omega (arith, low y (omega arith))))
      (λ y l m. subst (λ z. score gs fs z ≤ score gs fs next) (omega arith) (le_refl (score gs fs next)))))
      (λ e.
      let most : score gs fs next ≤ score gs fs b = ltb-false (score gs fs b) (score gs fs next) e in
      subst (λ c. Lower (best_of gs fs c (up_from (suc next) k))) (sym (choice-false e next b))
      (first-best b (suc next) k (omega arith) low
      (λ y l m. by_equal y next (λ q. subst (λ z. score gs fs z ≤ score gs fs b) (sym q) most) (λ d. high y l (omega arith)))))

  -- every smaller input scores lower
  pub best-first : (n x : ℕ) → x < best n gs fs → score gs fs x < score gs fs (best n gs fs)
  unfolding best
  best-first n x h = first-best 0 0 (2 ^ n) (le_refl 0) (λ y l. absurd (not-suc-le-zero l)) (λ y l m. absurd (not-suc-le-zero m)) x h
