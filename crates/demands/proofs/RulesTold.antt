-- What a call tells by its rules in words, for every table: a refusal with number k and place p exactly if rule k is the first that is given, and
-- with that place; and an answer exactly if every rule is kept.
use Prim.Native.Nat.{ℕ}
use mathlib.Core.Path.{◌≡◌, refl}
use mathlib.Core.Logic.Iff
use mathlib.Core.Logic.{◌↔◌, ◌⊎◌, ⊎_elim}
use mathlib.Core.Logic.◌⊎◌.{inl, inr}
use mathlib.Core.Bool.{Bool, true, false, true≢false, false≢true}
use mathlib.Core.List.{List, [], ◌∷◌}
use Rattle.basics.specs.Lists.{All}
use Rattle.refusals.specs.Tables.{Row, Told, first_of}
use Rattle.refusals.specs.Tables.Row.{refuse◌at◌when◌}
use Rattle.refusals.specs.Tables.Told.{answered, refused}
use Rattle.refusals.proofs.Clashes.{answered-refused}
use Rattle.demands.proofs.FirstBroken.{Unbroken, exactly, answers_exactly, fine_unbroken}
use Rattle.demands.proofs.Refusing.{Refuses}
use Rattle.demands.proofs.RuleWords.{Words, InWords}

infix 68 rule◌asks◌
-- a rule in words, with its number
pub data Asked : Type 1 where
  rule◌asks◌ : ℕ → Words → Asked

-- the first of some rules that is given is rule k, with place p: it is this one, or this one is kept and it is among those after it
abbrev pub GivenFirst : List Asked → ℕ → ℕ → Type 0
GivenFirst [] k p = ⊥
GivenFirst (rule number asks words ∷ more) k p = ((number ≡ k) × words.Given p) ⊎ (words.Kept × GivenFirst more k p)

-- every one is kept
abbrev pub AllKept : List Asked → Type 0
AllKept [] = Unit {0}
AllKept (rule number asks words ∷ more) = words.Kept × AllKept more

infixr 40 ◌then◌
-- a table of tests, and the same in words, row by row
pub data Spelled : List Row → List Asked → Type 1 where
  done : Spelled [] []
  ◌then◌ : {number place : ℕ} {broken : Bool} {words : Words} {rows : List Row} {more : List Asked} → InWords place broken words
      → Spelled rows more → Spelled (refuse number at place when broken ∷ rows) (rule number asks words ∷ more)

first_given : (rows : List Row) (asked : List Asked) → Spelled rows asked → (values : List ℕ) (k p : ℕ)
    → (first_of rows (answered values) ≡ refused k p) ↔ GivenFirst asked k p
first_given [] [] done values k p = (λ e. answered-refused e, λ w. absurd w)
first_given (refuse n at q when true ∷ rows) (rule number asks words ∷ more) (spelled then rest) values k p = (
  λ e.
      let same : n ≡ k = cc in
      let place : q ≡ p = cc in
      inl (same, (spelled.given p).0 (refl, place)),
  λ w. ⊎_elim
      (λ v. let given = (spelled.given p).1 v.1 in λ i. refused (v.0 i) (given.1 i))
      (λ v. absurd (true≢false (spelled.not_given.1 v.0))) w,
)
first_given (refuse n at q when false ∷ rows) (rule number asks words ∷ more) (spelled then rest) values k p =
    let others = first_given rows more rest values k p in (
      λ e. inr (spelled.not_given.0 refl, others.0 e),
      λ w. ⊎_elim (λ v. absurd (false≢true ((spelled.given p).1 v.1).0)) (λ v. others.1 v.1) w,
    )
first_given [] (_ ∷ more) spelled values k p = elim spelled [ ]
first_given (refuse n at q when false ∷ rows) [] spelled values k p = elim spelled [ ]
first_given (refuse n at q when true ∷ rows) [] spelled values k p = elim spelled [ ]

all_kept : (rows : List Row) (asked : List Asked) → Spelled rows asked → All Unbroken rows ↔ AllKept asked
all_kept [] [] done = (λ w. tt, λ w. tt)
all_kept (refuse n at q when broken ∷ rows) (rule number asks words ∷ more) (spelled then rest) =
    let others = all_kept rows more rest in (
      λ w. (spelled.not_given.0 w.0, others.0 w.1),
      λ w. (spelled.not_given.1 w.0, others.1 w.1),
    )
all_kept [] (_ ∷ more) spelled = elim spelled [ ]
all_kept (refuse n at q when broken ∷ rows) [] spelled = elim spelled [ ]

-- ---- a call whose rules are these in words

module _ {L : Type 0} {Inputs Result Exit : L → Type 0} {Post : (κs : L) → Inputs κs → Result κs → Exit κs → Type 0}
    {telling : (κs : L) → Result κs → Told} {rows : (κs : L) → Inputs κs → List Row} {ks : List ℕ} where
  pub record Asks (call : Refuses Post telling rows ks) (asked : (κs : L) → Inputs κs → List Asked) : Type 0 where
    -- it refuses with number k and place p exactly if rule k is the first that is given, with place p
    pub refuses : (κs : L) (a : Inputs κs) (r : Result κs) (e : Exit κs) → Post κs a r e
        → (k p : ℕ) → (telling κs r ≡ refused k p) ↔ GivenFirst (asked κs a) k p
    -- it answers exactly if all are kept
    pub answers : (κs : L) (a : Inputs κs) (r : Result κs) (e : Exit κs) → Post κs a r e
        → ((values : List ℕ) × (telling κs r ≡ answered values)) ↔ AllKept (asked κs a)

  pub by_words : (call : Refuses Post telling rows ks) {asked : (κs : L) → Inputs κs → List Asked}
      → ((κs : L) (a : Inputs κs) → Spelled (rows κs a) (asked κs a)) → Asks call asked
  by_words call {asked} spelled = record {
    refuses = λ κs a r e post k p.
        let table = exactly (first_of (rows κs a) (answered [])) (rows κs a) [] refl in
        Iff.trans ((call.exact κs a r e post).1.refuses k p)
        (Iff.trans (Iff.symm (table.refuses k p)) (first_given (rows κs a) (asked κs a) (spelled κs a) [] k p));
    answers = λ κs a r e post.
        Iff.trans (answers_exactly (call.exact κs a r e post).1)
        (Iff.trans (fine_unbroken (rows κs a)) (all_kept (rows κs a) (asked κs a) (spelled κs a)));
  }
