-- What a call tells is exactly the first broken rule of its table, and its answer exactly where none is broken: for every table.
use Prim.Native.Nat.{ℕ}
use mathlib.Core.Path.{◌≡◌, refl, sym, ap, ◌∙◌}
use mathlib.Core.Logic.{◌↔◌}
use mathlib.Core.Bool.{true, false, false≢true}
use mathlib.Core.List.{List, [], ◌∷◌, ◌++◌}
use Rattle.basics.specs.Lists.{All}
use Rattle.refusals.specs.Tables.{Row, Told, first_of, after}
use Rattle.refusals.specs.Tables.Row.{refuse◌at◌when◌}
use Rattle.refusals.specs.Tables.Told.{answered, refused}
use Rattle.refusals.specs.Answers.{fine}
use Rattle.refusals.proofs.Clashes.{answered-refused, refused-answered}

abbrev pub Unbroken : Row → Type 0
Unbroken (refuse number at place when broken) = broken ≡ false

-- rule k, with place p, stands in the table and is broken, and no rule before it is
pub record FirstBroken (rows : List Row) (k p : ℕ) : Type 0 where
  pub before : List Row
  pub others : List Row
  pub table : rows ≡ before ++ (refuse k at p when true ∷ others)
  pub unbroken_before : All Unbroken before

-- ---- one table

refused-first : (rows : List Row) (values : List ℕ) (k p : ℕ) → first_of rows (answered values) ≡ refused k p → FirstBroken rows k p
refused-first [] values k p e = answered-refused e
refused-first (refuse n at q when true ∷ rows) values k p e =
    let number : n ≡ k = cc in
    let place : q ≡ p = cc in
    record { before = []; others = rows; table = λ i. refuse (number i) at (place i) when true ∷ rows; unbroken_before = tt }
refused-first (refuse n at q when false ∷ rows) values k p e =
    let first = refused-first rows values k p e in
    record {
      before = refuse n at q when false ∷ first.before;
      others = first.others;
      table = ap (λ l. refuse n at q when false ∷ l) first.table;
      unbroken_before = (refl, first.unbroken_before);
    }

told_first_lem : (before others : List Row) (answer : Told) (k p : ℕ) → All Unbroken before
    → first_of (before ++ (refuse k at p when true ∷ others)) answer ≡ refused k p
told_first_lem [] others answer k p u = refl
told_first_lem (refuse n at q when true ∷ before) others answer k p u = absurd (false≢true (sym u.0))
told_first_lem (refuse n at q when false ∷ before) others answer k p u = told_first_lem before others answer k p u.1

left-first {ℓ} : {A : Type ℓ} (before others : List Row) (made old : A) (k p : ℕ) → All Unbroken before
    → after (before ++ (refuse k at p when true ∷ others)) made old ≡ old
left-first [] others made old k p u = refl
left-first (refuse n at q when true ∷ before) others made old k p u = absurd (false≢true (sym u.0))
left-first (refuse n at q when false ∷ before) others made old k p u = left-first before others made old k p u.1

told_answer : (rows : List Row) (answer : Told) → All Unbroken rows → first_of rows answer ≡ answer
told_answer [] answer u = refl
told_answer (refuse n at q when true ∷ rows) answer u = absurd (false≢true (sym u.0))
told_answer (refuse n at q when false ∷ rows) answer u = told_answer rows answer u.1

answer_unbroken : (rows : List Row) (values values' : List ℕ) → first_of rows (answered values) ≡ answered values' → All Unbroken rows
answer_unbroken [] values values' e = tt
answer_unbroken (refuse n at q when true ∷ rows) values values' e = refused-answered e
answer_unbroken (refuse n at q when false ∷ rows) values values' e = (refl, answer_unbroken rows values values' e)

-- where the whole table is asked, that none is broken is that it is fine
pub fine_unbroken : (rows : List Row) → (fine ≡ first_of rows fine) ↔ All Unbroken rows
fine_unbroken rows = (λ e. answer_unbroken rows [] [] (sym e), λ u. sym (told_answer rows fine u))

-- ---- what a promise over a table means

-- what is told, where the promise is that it is the table's first broken rule or else the values
pub record Exactly (told : Told) (rows : List Row) (values : List ℕ) : Type 0 where
  -- it is refusal k at place p exactly if rule k is the first broken one, with place p
  pub refuses : (k p : ℕ) → (told ≡ refused k p) ↔ FirstBroken rows k p
  -- it is the answer exactly if no rule is broken
  pub answers : (told ≡ answered values) ↔ All Unbroken rows

pub exactly : (told : Told) (rows : List Row) (values : List ℕ) → told ≡ first_of rows (answered values) → Exactly told rows values
exactly told rows values promise = record {
  refuses = λ k p. (
    λ e. refused-first rows values k p (sym promise ∙ e),
    λ w. promise ∙ ap (λ l. first_of l (answered values)) w.table ∙ told_first_lem w.before w.others _ k p w.unbroken_before,
  );
  answers = (λ e. answer_unbroken rows values values (sym promise ∙ e), λ u. promise ∙ told_answer rows _ u);
}

-- lent memory, where the promise is that it holds what the call made of it after the table's rules: a broken rule leaves all of it
pub left {ℓ} : {A : Type ℓ} (rows : List Row) (made old exit : A) → exit ≡ after rows made old → (k p : ℕ) → FirstBroken rows k p → exit ≡ old
left rows made old exit promise k p w =
    promise ∙ ap (λ l. after l made old) w.table ∙ left-first w.before w.others made old k p w.unbroken_before

-- some rule is broken first, or none is
pub by_first {κ} : {C : Type κ} (rows : List Row) → (fine ≡ first_of rows fine → C)
    → ((k p : ℕ) → FirstBroken rows k p → first_of rows fine ≡ refused k p → C) → C
by_first {C = C} rows unbroken broken = by_told (first_of rows fine) refl
  where
    by_told : (t : Told) → first_of rows fine ≡ t → C
    by_told (answered values) e = unbroken ((fine_unbroken rows).1 (answer_unbroken rows [] values e))
    by_told (refused k p) e = broken k p (refused-first rows [] k p e) e

-- an answer is told exactly if no rule is broken
pub answers_exactly : {told : Told} {rows : List Row} {values : List ℕ} → Exactly told rows values
    → ((others : List ℕ) × (told ≡ answered others)) ↔ (fine ≡ first_of rows fine)
answers_exactly {rows = rows} {values} w = (
  λ t. by_first rows (λ e. e) (λ k p first e. answered-refused (sym t.1 ∙ (w.refuses k p).1 first)),
  λ e. (values, w.answers.1 ((fine_unbroken rows).0 e)),
)
