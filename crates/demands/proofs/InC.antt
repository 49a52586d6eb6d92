-- What a C answer tells: its values where its number is 0, and else a refusal. What demands 1 to 3 say of a C call, and the laws by which a call's
-- promise over the list of its fields says it.
use Prim.Native.Nat.{ℕ, zero, suc}
use mathlib.Core.Path.{◌≡◌, refl, sym, ap, ◌∙◌}
use mathlib.Core.Logic.Iff
use mathlib.Core.Logic.{◌↔◌}
use mathlib.Core.Bool.{Bool, true, false, false≢true}
use mathlib.Core.List.{List, [], ◌∷◌}
use native.Mathlib.Omega.{arith}
use lib.Dec.{eqb}
use borrow.Author.Tests.{eqb-true, eqb-false, ne_eqb}
use Rattle.basics.specs.Choice.{choice}
use Rattle.basics.specs.Lists.{All}
use Rattle.refusals.specs.Tables.{Row, Told, first_of}
use Rattle.refusals.specs.Tables.Row.{refuse◌at◌when◌}
use Rattle.refusals.specs.Tables.Told.{answered, refused}
use Rattle.refusals.specs.Answers.{fine}
use Rattle.refusals.proofs.Tables.{Numbered}
use Rattle.refusals.proofs.Clashes.{answered-refused, refused-answered}
use Rattle.answers.specs.Fields.{fields}
use Rattle.demands.proofs.FirstBroken.{Unbroken, exactly, fine_unbroken}
use Rattle.demands.proofs.Refusing.{order, Sublist, numbers, Refuses, Leaves}
use Rattle.demands.proofs.Answering.{Ended, means}

-- what a C answer tells, by its number, its place and its other fields: its values where the number is 0, and else a refusal
abbrev pub told_by : ℕ → ℕ → List ℕ → Told
told_by number place values = choice (eqb number 0) (answered values) (refused number place)

refused_told : (k p : ℕ) (values : List ℕ) → (k ≡ 0 → ⊥) → told_by k p values ≡ refused k p
refused_told k p values some = ap (λ t. choice t (answered values) (refused k p)) (ne_eqb k 0 some)

chosen_refused : (t : Bool) (number place : ℕ) (values : List ℕ) (k p : ℕ) → choice t (answered values) (refused number place) ≡ refused k p
    → (t ≡ false) × (number ≡ k) × (place ≡ p)
chosen_refused true number place values k p e = answered-refused e
chosen_refused false number place values k p e = (refl, cc, cc)

-- it tells refusal k at place p exactly if these are its number and its place, and the number is not 0
pub tells_refusal : (number place : ℕ) (values : List ℕ) (k p : ℕ)
    → (told_by number place values ≡ refused k p) ↔ ((number ≡ k) × (place ≡ p) × (number ≡ 0 → ⊥))
tells_refusal number place values k p = (
  λ e. let w = chosen_refused (eqb number 0) number place values k p e in (w.1, w.2, eqb-false number 0 w.0),
  λ w. refused_told number place values w.2 ∙ (λ i. refused (w.0 i) (w.1 i)),
)

-- and it tells some values exactly if its number is 0 and these are its other fields
picked-answered : (t : Bool) (number place : ℕ) (values answer : List ℕ) → choice t (answered values) (refused number place) ≡ answered answer
    → (t ≡ true) × (values ≡ answer)
picked-answered true number place values answer e = (refl, cc)
picked-answered false number place values answer e = refused-answered e

pub tells_answer : (number place : ℕ) (values answer : List ℕ) → (told_by number place values ≡ answered answer) ↔ ((number ≡ 0) × (values ≡ answer))
tells_answer number place values answer = (
  λ e. let w = picked-answered (eqb number 0) number place values answer e in (eqb-true number 0 w.0, w.1),
  λ w. (λ i. told_by (w.0 i) place (w.1 i)),
)

-- ---- one table

abbrev none_is0 : List ℕ → Bool
none_is0 [] = true
none_is0 (zero ∷ ks) = false
none_is0 (suc k ∷ ks) = none_is0 ks

numbered : (rows : List Row) → none_is0 (numbers rows) ≡ true → Numbered rows
numbered [] e = tt
numbered (refuse zero at q when broken ∷ rows) e = absurd (false≢true e)
numbered (refuse (suc k) at q when broken ∷ rows) e = (λ z. omega arith, numbered rows e)

-- a struct with a number, a place and other fields, as many as given, where the promise is that they are those of what a table tells
module _ (others number place : ℕ) (values answer : List ℕ) where
  abbrev Promise : List Row → Type 0
  Promise rows = ◌≡◌ {A = List ℕ} (number ∷ place ∷ values) (fields others (first_of rows (answered answer)))

  -- it tells the same
  pub told_by_lem : (rows : List Row) → Numbered rows → Promise rows → told_by number place values ≡ first_of rows (answered answer)
  told_by_lem [] w e =
      let none : number ≡ 0 = cc in
      let same : values ≡ answer = cc in
      λ i. told_by (none i) place (same i)
  told_by_lem (refuse k at q when true ∷ rows) w e =
      let its-number : number ≡ k = cc in
      let its-place : place ≡ q = cc in
      (λ i. told_by (its-number i) (its-place i) values) ∙ refused_told k q values w.0
  told_by_lem (refuse k at q when false ∷ rows) w e = told_by_lem rows w.1 e

  -- its number is 0 exactly if no rule is broken, and then its place is 0
  zero_unbroken : (rows : List Row) → Numbered rows → Promise rows → number ≡ 0 → All Unbroken rows × (place ≡ 0)
  zero_unbroken [] w e z = (tt, cc)
  zero_unbroken (refuse k at q when true ∷ rows) w e z = absurd (w.0 cc)
  zero_unbroken (refuse k at q when false ∷ rows) w e z = let rest = zero_unbroken rows w.1 e z in ((refl, rest.0), rest.1)

  unbroken_zero : (rows : List Row) → Promise rows → All Unbroken rows → number ≡ 0
  unbroken_zero [] e u = cc
  unbroken_zero (refuse k at q when true ∷ rows) e u = absurd (false≢true (sym u.0))
  unbroken_zero (refuse k at q when false ∷ rows) e u = unbroken_zero rows e u.1

-- ---- what demand 1 says of a C call, by its contract, the fields of its struct and its table of rules

module _ {L : Type 0} {Inputs Result Exit : L → Type 0} (Post : (κs : L) → Inputs κs → Result κs → Exit κs → Type 0)
    (number place : (κs : L) → Result κs → ℕ) (values : (κs : L) → Result κs → List ℕ) (rows : (κs : L) → Inputs κs → List Row) where
  pub record RefusesInC (ks : List ℕ) : Type 0 where
    -- each rule has a number, which is not 0
    pub all_numbered : (κs : L) (a : Inputs κs) → Numbered (rows κs a)
    -- it tells a refusal, and an answer, exactly as its rules say
    pub refuses : Refuses Post (λ κs r. told_by (number κs r) (place κs r) (values κs r)) rows ks
    -- its number is 0 exactly if no rule is broken, and then its place is 0
    pub number_0 : (κs : L) (a : Inputs κs) (r : Result κs) (e : Exit κs) → Post κs a r e → (number κs r ≡ 0) ↔ All Unbroken (rows κs a)
    pub place_0 : (κs : L) (a : Inputs κs) (r : Result κs) (e : Exit κs) → Post κs a r e → number κs r ≡ 0 → place κs r ≡ 0

module _ {L : Type 0} {Inputs Result Exit : L → Type 0} (Post : (κs : L) → Inputs κs → Result κs → Exit κs → Type 0)
    (number : (κs : L) → Result κs → ℕ) (values : (κs : L) → Result κs → List ℕ) where
  pub record AnswersInC (Meaning : (κs : L) → Inputs κs → List ℕ → Exit κs → Type 0) : Type 0 where
    -- where the number is 0, the other fields and the memory at exit are as said of the inputs
    pub as_said : (call : Ended Post) → number call.lifetimes call.result ≡ 0
        → Meaning call.lifetimes call.inputs (values call.lifetimes call.result) call.exit

module _ {L : Type 0} {Inputs Result Exit : L → Type 0} {Post : (κs : L) → Inputs κs → Result κs → Exit κs → Type 0}
    {number place : (κs : L) → Result κs → ℕ} {values : (κs : L) → Result κs → List ℕ} {rows : (κs : L) → Inputs κs → List Row}
    {ks : List ℕ} where
  pub in_c : (others : ℕ) → ((κs : L) (a : Inputs κs) → numbers (rows κs a) ≡ ks) → Sublist ks order → none_is0 ks ≡ true
      → ((κs : L) (a : Inputs κs) (r : Result κs) (e : Exit κs) → Post κs a r e
      → (answer : List ℕ) × Promise others (number κs r) (place κs r) (values κs r) answer (rows κs a))
      → RefusesInC Post number place values rows ks
  in_c others its_numbers in_order none holds =
      let w : (κs : L) (a : Inputs κs) → Numbered (rows κs a) = λ κs a. numbered (rows κs a) (ap none_is0 (its_numbers κs a) ∙ none) in
      record {
        all_numbered = w;
        refuses = record {
          its_numbers = its_numbers;
          in_order = in_order;
          exact = λ κs a r e p. (_, exactly _ _ _ (told_by_lem others _ _ _ _ (rows κs a) (w κs a) (holds κs a r e p).1));
        };
        number_0 = λ κs a r e p. (
          λ z. (zero_unbroken others _ _ _ _ (rows κs a) (w κs a) (holds κs a r e p).1 z).0,
          λ u. unbroken_zero others _ _ _ _ (rows κs a) (holds κs a r e p).1 u,
        );
        place_0 = λ κs a r e p z. (zero_unbroken others _ _ _ _ (rows κs a) (w κs a) (holds κs a r e p).1 z).1;
      }

  -- lent memory that a refusal leaves is left wherever the number is not 0
  pub left_unless_0 : (call : RefusesInC Post number place values rows ks) {M : Type 0} {before : (κs : L) → Inputs κs → M}
      {memory : (κs : L) → Result κs → Exit κs → M} → Leaves call.refuses before memory
      → (κs : L) (a : Inputs κs) (r : Result κs) (e : Exit κs) → Post κs a r e → (number κs r ≡ 0 → ⊥) → memory κs r e ≡ before κs a
  left_unless_0 call leaves κs a r e p some = leaves.unchanged κs a r e p _ _ (refused_told _ _ _ some)

  -- what an answer means, from what the promised values mean where no rule is broken
  pub means_in_c : {Meaning : (κs : L) → Inputs κs → List ℕ → Exit κs → Type 0} (others : ℕ) (call : RefusesInC Post number place values rows ks)
      (answer : (κs : L) → Inputs κs → List ℕ)
      → ((κs : L) (a : Inputs κs) (r : Result κs) (e : Exit κs) → Post κs a r e
      → Promise others (number κs r) (place κs r) (values κs r) (answer κs a) (rows κs a))
      → ((κs : L) (a : Inputs κs) (r : Result κs) (e : Exit κs) → Post κs a r e → fine ≡ first_of (rows κs a) fine → Meaning κs a (answer κs a) e)
      → AnswersInC Post number values Meaning
  means_in_c {Meaning} others c answer holds meaning = record {
    as_said = λ call z.
        let told = means {Meaning = Meaning} c.refuses answer
        (λ κs a r e p. told_by_lem others _ _ _ _ (rows κs a) (c.all_numbered κs a) (holds κs a r e p)) meaning in
        told.as_said call _ (ap (λ k. told_by k (place _ call.result) (values _ call.result)) z);
  }

  -- what a call that has ended tells is what its promise says
  pub told_in_c : (others : ℕ) (c : RefusesInC Post number place values rows ks) (call : Ended Post) (answer : List ℕ)
      → Promise others (number _ call.result) (place _ call.result) (values _ call.result) answer (rows _ call.inputs)
      → told_by (number _ call.result) (place _ call.result) (values _ call.result) ≡ first_of (rows _ call.inputs) (answered answer)
  told_in_c others c call answer p = told_by_lem others _ _ _ _ (rows _ call.inputs) (c.all_numbered _ call.inputs) p

-- ---- a C call answers exactly if its inputs are valid: then its number is 0

module _ {L : Type 0} {Inputs Result Exit : L → Type 0} (Post : (κs : L) → Inputs κs → Result κs → Exit κs → Type 0)
    (number : (κs : L) → Result κs → ℕ) where
  pub record AcceptsInC (Valid : (κs : L) → Inputs κs → Type 0) : Type 0 where
    pub exactly_valid : (call : Ended Post) → (number call.lifetimes call.result ≡ 0) ↔ Valid call.lifetimes call.inputs

module _ {L : Type 0} {Inputs Result Exit : L → Type 0} {Post : (κs : L) → Inputs κs → Result κs → Exit κs → Type 0}
    {number place : (κs : L) → Result κs → ℕ} {values : (κs : L) → Result κs → List ℕ} {rows : (κs : L) → Inputs κs → List Row}
    {ks : List ℕ} where
  pub unrefused_in_c : RefusesInC Post number place values rows ks → (call : Ended Post)
      → (number call.lifetimes call.result ≡ 0) ↔ (fine ≡ first_of (rows _ call.inputs) fine)
  unrefused_in_c refuses call = Iff.trans (refuses.number_0 _ _ _ _ call.promised) (Iff.symm (fine_unbroken (rows _ call.inputs)))

  pub accepts_in_c : {Valid : (κs : L) → Inputs κs → Type 0} → RefusesInC Post number place values rows ks
      → ((κs : L) (a : Inputs κs) → (fine ≡ first_of (rows κs a) fine) ↔ Valid κs a) → AcceptsInC Post number Valid
  accepts_in_c refuses valid = record { exactly_valid = λ call. Iff.trans (unrefused_in_c refuses call) (valid _ call.inputs) }
