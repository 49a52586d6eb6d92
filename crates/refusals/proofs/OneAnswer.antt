-- Different answers tell different things: a number and a place are one refusal's, and values that tell their answer apart do so behind it.
use Rattle.std.specs.Prelude.{ℕ, ◌≡◌, refl, Bool, true, false, Result, Ok, Err, List, [], ◌∷◌, eqb}
use Rattle.std.proofs.Common.{ap, ap₂, sym, ◌∙◌, arith}
use Rattle.basics.specs.Choice.{choice, count}
use Rattle.refusals.specs.Tables.Told.{refused}
use Rattle.refusals.specs.Answers.{number_of, place_of, told, told_word, told_yes}
use Rattle.refusals.specs.declared.Refusal.{Refusal}
use Rattle.refusals.specs.declared.Refusal.TheVariants.{ShortJob, Form, Lines, Classes, Counts, Sizes, Gate, Vector, Fault, Room, ManyLines, Level, Entries, Text, OtherGate}
use Rattle.refusals.proofs.Clashes.{answered-refused, refused-answered}

-- the refusal of a number and a place
abbrev refusal_of : ℕ → ℕ → Refusal
refusal_of n p =
    choice (eqb n 1) ShortJob
    (choice (eqb n 2) Form
    (choice (eqb n 3) Lines
    (choice (eqb n 4) Classes
    (choice (eqb n 5) Counts
    (choice (eqb n 6) Sizes
    (choice (eqb n 7) (Gate p)
    (choice (eqb n 8) (Vector p)
    (choice (eqb n 9) (Fault p)
    (choice (eqb n 10) Room
    (choice (eqb n 11) ManyLines
    (choice (eqb n 12) Level
    (choice (eqb n 13) Entries
    (choice (eqb n 14) (Text p) (OtherGate p))))))))))))))

again : (r : Refusal) → refusal_of (number_of r) (place_of r) ≡ r
again ShortJob = refl
again Form = refl
again Lines = refl
again Classes = refl
again Counts = refl
again Sizes = refl
again (Gate p) = refl
again (Vector p) = refl
again (Fault p) = refl
again Room = refl
again ManyLines = refl
again Level = refl
again Entries = refl
again (Text p) = refl
again (OtherGate p) = refl

pub refusal-one : (p q : Refusal) → refused (number_of p) (place_of p) ≡ refused (number_of q) (place_of q) → p ≡ q
refusal-one p q e =
    let n : number_of p ≡ number_of q = cc in
    let m : place_of p ≡ place_of q = cc in
    sym (again p) ∙ ap₂ refusal_of n m ∙ again q

pub told-one : {A : Type 0} (values : A → List ℕ) → ((a b : A) → values a ≡ values b → a ≡ b)
    → (r s : Result A Refusal) → told values r ≡ told values s → r ≡ s
told-one values one (Ok a) (Ok b) e = let same : values a ≡ values b = cc in ap Ok (one a b same)
told-one values one (Ok a) (Err q) e = answered-refused e
told-one values one (Err p) (Ok b) e = refused-answered e
told-one values one (Err p) (Err q) e = ap Err (refusal-one p q e)

pub told_word-one : (r s : Result ℕ Refusal) → told_word r ≡ told_word s → r ≡ s
told_word-one r s e = told-one (λ word. word ∷ []) (λ a b e. cc) r s e

count-one : (a b : Bool) → count a ∷ [] ≡ count b ∷ [] → a ≡ b
count-one true true e = refl
count-one true false e = let z : ◌≡◌ {A = ℕ} 1 0 = cc in absurd (omega arith)
count-one false true e = let z : ◌≡◌ {A = ℕ} 0 1 = cc in absurd (omega arith)
count-one false false e = refl

pub told_yes-one : (r s : Result Bool Refusal) → told_yes r ≡ told_yes s → r ≡ s
told_yes-one r s e = told-one (λ yes. count yes ∷ []) count-one r s e

-- what a `?` hands on tells the refusal that it met
pub handed_on : {A : Type 0} (values : A → List ℕ) {r : Result A Refusal} {d : Refusal} → (x : Refusal) × (r ≡ Err x) × (x ≡ d)
    → told values r ≡ refused (number_of d) (place_of d)
handed_on values (x, e, f) = rw (e, f) refl
