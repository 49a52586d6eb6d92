-- Laws of tables of rules, for every table: a check of some of its rows decides the whole.
use Prim.Native.Nat.{ℕ, ◌<◌}
use mathlib.Core.Path.{◌≡◌, refl, sym, ◌∙◌}
use mathlib.Core.Bool.{Bool, true, false}
use mathlib.Core.List.{List, [], ◌∷◌, ◌++◌}
use Rattle.basics.specs.Choice.{choice}
use Rattle.basics.specs.Lists.{All}
use Rattle.refusals.specs.Tables.{Row, Told, first_of, after}
use Rattle.refusals.specs.Tables.Row.{refuse◌at◌when◌}
use Rattle.refusals.specs.Tables.Told.{answered, refused}
use Rattle.refusals.specs.Answers.{fine}
use Rattle.refusals.proofs.Clashes.{answered-refused, refused-answered}

-- what some rows refuse, every table that begins with them refuses, whatever the answer would be
pub refused_on : (rows more : List Row) (answer : Told) (k p : ℕ) → refused k p ≡ first_of rows fine → refused k p ≡ first_of (rows ++ more) answer
refused_on [] more answer k p e = refused-answered e
refused_on (refuse n at q when true ∷ rows) more answer k p e = e
refused_on (refuse n at q when false ∷ rows) more answer k p e = refused_on rows more answer k p e

-- past rows of which none is broken the rest decides
pub fine_on : (rows more : List Row) (answer : Told) → fine ≡ first_of rows fine → first_of (rows ++ more) answer ≡ first_of more answer
fine_on [] more answer e = refl
fine_on (refuse n at q when true ∷ rows) more answer e = answered-refused e
fine_on (refuse n at q when false ∷ rows) more answer e = fine_on rows more answer e

-- the same of a whole table
pub refused_all : (rows : List Row) (answer : Told) (k p : ℕ) → refused k p ≡ first_of rows fine → refused k p ≡ first_of rows answer
refused_all [] answer k p e = refused-answered e
refused_all (refuse n at q when true ∷ rows) answer k p e = e
refused_all (refuse n at q when false ∷ rows) answer k p e = refused_all rows answer k p e

pub fine_all : (rows : List Row) (answer : Told) → fine ≡ first_of rows fine → answer ≡ first_of rows answer
fine_all [] answer e = refl
fine_all (refuse n at q when true ∷ rows) answer e = answered-refused e
fine_all (refuse n at q when false ∷ rows) answer e = fine_all rows answer e

-- and of memory: a refused call leaves it, and any other makes of it what it makes
pub after-refused {ℓ} : {A : Type ℓ} (rows : List Row) (made old : A) (k p : ℕ) → refused k p ≡ first_of rows fine → old ≡ after rows made old
after-refused [] made old k p e = refused-answered e
after-refused (refuse n at q when true ∷ rows) made old k p e = refl
after-refused (refuse n at q when false ∷ rows) made old k p e = after-refused rows made old k p e

pub after-fine {ℓ} : {A : Type ℓ} (rows : List Row) (made old : A) → fine ≡ first_of rows fine → made ≡ after rows made old
after-fine [] made old e = refl
after-fine (refuse n at q when true ∷ rows) made old e = answered-refused e
after-fine (refuse n at q when false ∷ rows) made old e = after-fine rows made old e

-- what a call is proved by that answers once all rules have passed, and one that writes into lent memory too
pub ruleset calls = (refused_all, fine_all, after-refused, after-fine)

-- a table of which no rule is broken has no broken rule in its parts
pub fine-parts : (rows more : List Row) → fine ≡ first_of (rows ++ more) fine → (fine ≡ first_of rows fine) × (fine ≡ first_of more fine)
fine-parts [] more e = (refl, e)
fine-parts (refuse n at q when true ∷ rows) more e = answered-refused e
fine-parts (refuse n at q when false ∷ rows) more e = fine-parts rows more e

-- the first rule of such a table, and the rest
pub fine_row : (broken : Bool) (k p : ℕ) (rest : Told) → fine ≡ choice broken (refused k p) rest → (broken ≡ false) × (fine ≡ rest)
fine_row true k p rest e = answered-refused e
fine_row false k p rest e = (refl, e)

-- what the first rule refuses is refused whatever the rest is
pub refused_row : (broken : Bool) (n q k p : ℕ) (rest : Told) → refused k p ≡ choice broken (refused n q) fine
    → refused k p ≡ choice broken (refused n q) rest
refused_row true n q k p rest e = e
refused_row false n q k p rest e = refused-answered e

-- and past a first rule that is not broken the rest decides
pub passed_row : (broken : Bool) (n q : ℕ) (rest : Told) → fine ≡ choice broken (refused n q) fine → choice broken (refused n q) rest ≡ rest
passed_row true n q rest e = answered-refused e
passed_row false n q rest e = refl

-- what checks in turn are proved by
pub ruleset turns = (refused_row, passed_row, refused_on, fine_on)

-- a call that answers breaks no rule and tells its own answer
pub answered-fine : (rows : List Row) (values answer : List ℕ) → answered values ≡ first_of rows (answered answer)
    → (values ≡ answer) × (fine ≡ first_of rows fine)
answered-fine [] values answer e = (cc, refl)
answered-fine (refuse k at p when true ∷ rows) values answer e = answered-refused e
answered-fine (refuse k at p when false ∷ rows) values answer e = answered-fine rows values answer e

-- a call that refuses breaks the rule that it tells
pub refused_rows : (rows : List Row) (k p : ℕ) (answer : List ℕ) → refused k p ≡ first_of rows (answered answer) → refused k p ≡ first_of rows fine
refused_rows [] k p answer e = refused-answered e
refused_rows (refuse n at q when true ∷ rows) k p answer e = e
refused_rows (refuse n at q when false ∷ rows) k p answer e = refused_rows rows k p answer e

-- a refusal has the number of one of the rows, and none has number 0
abbrev pub Numbered : List Row → Type 0
Numbered [] = Unit {0}
Numbered (refuse number at place when broken ∷ rows) = (number ≡ 0 → ⊥) × Numbered rows

pub refused_number : (rows : List Row) (k p : ℕ) → Numbered rows → refused k p ≡ first_of rows fine → k ≡ 0 → ⊥
refused_number [] k p w e = λ z. refused-answered e
refused_number (refuse n at q when true ∷ rows) k p w e = λ z. let same : k ≡ n = cc in w.0 (sym same ∙ z)
refused_number (refuse n at q when false ∷ rows) k p w e = refused_number rows k p w.1 e

-- a number and a place below a bound: where every row has such, a refusal has
abbrev pub Small : ℕ → Row → Type 0
Small bound (refuse number at place when broken) = (number < bound) × (place < bound)

refused_small : (bound : ℕ) (rows : List Row) (k p : ℕ) → All (Small bound) rows → refused k p ≡ first_of rows fine → (k < bound) × (p < bound)
refused_small bound [] k p w e = refused-answered e
refused_small bound (refuse n at q when true ∷ rows) k p w e =
    let number : k ≡ n = cc in
    let place : p ≡ q = cc in
    rw (number, place) w.0
refused_small bound (refuse n at q when false ∷ rows) k p w e = refused_small bound rows k p w.1 e

-- the rows after some need it only where none of these is broken
pub refused_small_on : (bound : ℕ) (rows more : List Row) (k p : ℕ) → All (Small bound) rows → (fine ≡ first_of rows fine → All (Small bound) more)
    → refused k p ≡ first_of (rows ++ more) fine → (k < bound) × (p < bound)
refused_small_on bound [] more k p w v e = refused_small bound more k p (v refl) e
refused_small_on bound (refuse n at q when true ∷ rows) more k p w v e = refused_small bound (refuse n at q when true ∷ []) k p (w.0, tt) e
refused_small_on bound (refuse n at q when false ∷ rows) more k p w v e = refused_small_on bound rows more k p w.1 v e
