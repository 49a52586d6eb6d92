-- What demand 1 says of a call, by its contract, what its answer tells and its table of rules.
use Prim.Native.Nat.{ℕ}
use mathlib.Core.Path.{◌≡◌, sym, subst}
use mathlib.Core.List.{List, [], ◌∷◌, nil≢cons}
use lib.Dec.{eqb}
use borrow.Author.Tests.{eqb-true}
use Rattle.basics.specs.Choice.{choice}
use Rattle.basics.proofs.Tests.{by_test}
use Rattle.refusals.specs.Tables.{Row, Told, after}
use Rattle.refusals.specs.Tables.Row.{refuse◌at◌when◌}
use Rattle.refusals.specs.Tables.Told.{refused}
use Rattle.demands.proofs.FirstBroken.{Exactly, left}

-- ---- the order in which rules are asked

-- the numbers of all rules, in that order; a call has some of them. 16 to 26 are kept for rules to come, and no call has them: without them this is
-- the order of docs/SCOPE.md, section 7.
abbrev pub order : List ℕ
order = 16 ∷ 17 ∷ 1 ∷ 2 ∷ 15 ∷ 14 ∷ 3 ∷ 4 ∷ 5 ∷ 6 ∷ 7 ∷ 20 ∷ 21 ∷ 8 ∷ 22 ∷ 18 ∷ 19 ∷ 25 ∷ 26 ∷ 23 ∷ 9 ∷ 11 ∷ 12 ∷ 13 ∷ 24 ∷ 10 ∷ []

-- numbers that stand in a list, each once and in its order
pub data Sublist : List ℕ → List ℕ → Type 0 where
  none : {asked : List ℕ} → Sublist [] asked
  takes : {k : ℕ} {ks asked : List ℕ} → Sublist ks asked → Sublist (k ∷ ks) (k ∷ asked)
  skips : {k : ℕ} {ks asked : List ℕ} → Sublist ks asked → Sublist ks (k ∷ asked)

abbrev pub numbers : List Row → List ℕ
numbers [] = []
numbers (refuse number at place when broken ∷ rows) = number ∷ numbers rows

-- what is left of some numbers when those that come up are struck off in turn: nothing, where they are a sublist
abbrev struck : List ℕ → List ℕ → List ℕ
struck ks [] = ks
struck [] (m ∷ asked) = []
struck (k ∷ ks) (m ∷ asked) = struck (choice (eqb k m) ks (k ∷ ks)) asked

pub in_turn_lem : (ks asked : List ℕ) → struck ks asked ≡ [] → Sublist ks asked
in_turn_lem [] asked e = none
in_turn_lem (k ∷ ks) [] e = absurd (nil≢cons (sym e))
in_turn_lem (k ∷ ks) (m ∷ asked) e = by_test (eqb k m)
    (λ q. subst (λ i. Sublist (i ∷ ks) (m ∷ asked)) (sym (eqb-true k m q)) (takes (in_turn_lem ks asked (rw q at e))))
    (λ q. skips (in_turn_lem (k ∷ ks) asked (rw q at e)))

-- ---- refusing exactly, and leaving memory

module _ {L : Type 0} {Inputs Result Exit : L → Type 0} (Post : (κs : L) → Inputs κs → Result κs → Exit κs → Type 0)
    (telling : (κs : L) → Result κs → Told) (rows : (κs : L) → Inputs κs → List Row) where
  pub record Refuses (ks : List ℕ) : Type 0 where
    -- its rules have these numbers, which are in the order of asking
    pub its_numbers : (κs : L) (a : Inputs κs) → numbers (rows κs a) ≡ ks
    pub in_order : Sublist ks order
    -- it refuses, and answers, exactly as they say
    pub exact : (κs : L) (a : Inputs κs) (r : Result κs) (e : Exit κs) → Post κs a r e
        → (values : List ℕ) × Exactly (telling κs r) (rows κs a) values

-- a refusal leaves lent memory as it was
module _ {L : Type 0} {Inputs Result Exit : L → Type 0} {Post : (κs : L) → Inputs κs → Result κs → Exit κs → Type 0}
    {telling : (κs : L) → Result κs → Told} {rows : (κs : L) → Inputs κs → List Row} {ks : List ℕ} where
  pub record Leaves (call : Refuses Post telling rows ks) {M : Type 0} (before : (κs : L) → Inputs κs → M)
      (memory : (κs : L) → Result κs → Exit κs → M) : Type 0 where
    pub unchanged : (κs : L) (a : Inputs κs) (r : Result κs) (e : Exit κs) → Post κs a r e → (k p : ℕ) → telling κs r ≡ refused k p
        → memory κs r e ≡ before κs a

  pub refusal_leaves : {call : Refuses Post telling rows ks} {M : Type 0} {before : (κs : L) → Inputs κs → M}
      {memory : (κs : L) → Result κs → Exit κs → M} (made : (κs : L) → Inputs κs → M)
      → ((κs : L) (a : Inputs κs) (r : Result κs) (e : Exit κs) → Post κs a r e → memory κs r e ≡ after (rows κs a) (made κs a) (before κs a))
      → Leaves call before memory
  refusal_leaves {call = call} made holds = record {
    unchanged = λ κs a r e p k q told. left (rows κs a) (made κs a) _ _ (holds κs a r e p) k q (((call.exact κs a r e p).1.refuses k q).0 told);
  }
