-- What demands 2 and 3 say of a call, by its contract and what its answer tells: what the values of an answer, and the memory at exit, mean.
use mathlib.Core.Path.{◌≡◌, sym, ◌∙◌, subst}
use mathlib.Core.Logic.Iff
use mathlib.Core.Logic.{◌↔◌}
use mathlib.Core.List.{List}
use Prim.Native.Nat.{ℕ}
use Rattle.refusals.specs.Tables.{Row, Told, first_of}
use Rattle.refusals.specs.Tables.Told.{answered}
use Rattle.refusals.specs.Answers.{fine}
use Rattle.refusals.proofs.Tables.{answered-fine}
use Rattle.demands.proofs.FirstBroken.{answers_exactly}
use Rattle.demands.proofs.Refusing.{Refuses}

-- a call that has ended with what its contract allows; its inputs are its arguments in their order, which are named at each place as its parameters
-- are, `let (lines, (gates, (level, (state, _)))) = call.inputs in`; at the exit they are named so too; and `now` of a lent slice is what it holds
pub record Ended {L : Type 0} {Inputs Result Exit : L → Type 0} (Post : (κs : L) → Inputs κs → Result κs → Exit κs → Type 0) : Type 0 where
  pub lifetimes : L
  pub inputs : Inputs lifetimes
  pub result : Result lifetimes
  pub exit : Exit lifetimes
  pub promised : Post lifetimes inputs result exit

module _ {L : Type 0} {Inputs Result Exit : L → Type 0} (Post : (κs : L) → Inputs κs → Result κs → Exit κs → Type 0)
    (telling : (κs : L) → Result κs → Told) where
  pub record Answers (Meaning : (κs : L) → Inputs κs → List ℕ → Exit κs → Type 0) : Type 0 where
    -- where the call answers, the values and the memory at exit are as said of the inputs
    pub as_said : (call : Ended Post) (values : List ℕ) → telling call.lifetimes call.result ≡ answered values
        → Meaning call.lifetimes call.inputs values call.exit

-- where the promise is the first broken rule of the call's table or else some values, it is enough what those mean where none is broken
module _ {L : Type 0} {Inputs Result Exit : L → Type 0} {Post : (κs : L) → Inputs κs → Result κs → Exit κs → Type 0}
    {telling : (κs : L) → Result κs → Told} {rows : (κs : L) → Inputs κs → List Row} {ks : List ℕ}
    {Meaning : (κs : L) → Inputs κs → List ℕ → Exit κs → Type 0} where
  pub means : (call : Refuses Post telling rows ks) (answer : (κs : L) → Inputs κs → List ℕ)
      → ((κs : L) (a : Inputs κs) (r : Result κs) (e : Exit κs) → Post κs a r e → telling κs r ≡ first_of (rows κs a) (answered (answer κs a)))
      → ((κs : L) (a : Inputs κs) (r : Result κs) (e : Exit κs) → Post κs a r e → fine ≡ first_of (rows κs a) fine → Meaning κs a (answer κs a) e)
      → Answers Post telling Meaning
  means call answer promise meaning = record {
    as_said = λ call values told.
        let κs = call.lifetimes in
        let a = call.inputs in
        let p = call.promised in
        let w = answered-fine (rows κs a) values (answer κs a) (sym told ∙ promise κs a _ _ p) in
        subst (λ v. Meaning κs a v call.exit) (sym w.0) (meaning κs a _ _ p w.1);
  }

-- ---- what demand 1 says of a call once more: it answers exactly if its inputs are valid, in the words of docs/SCOPE.md

module _ {L : Type 0} {Inputs Result Exit : L → Type 0} (Post : (κs : L) → Inputs κs → Result κs → Exit κs → Type 0)
    (telling : (κs : L) → Result κs → Told) where
  pub record Accepts (Valid : (κs : L) → Inputs κs → Type 0) : Type 0 where
    pub exactly_valid : (call : Ended Post)
        → ((values : List ℕ) × (telling call.lifetimes call.result ≡ answered values)) ↔ Valid call.lifetimes call.inputs

module _ {L : Type 0} {Inputs Result Exit : L → Type 0} {Post : (κs : L) → Inputs κs → Result κs → Exit κs → Type 0}
    {telling : (κs : L) → Result κs → Told} {rows : (κs : L) → Inputs κs → List Row} {ks : List ℕ} where
  -- it answers exactly if no rule is broken
  pub unrefused : Refuses Post telling rows ks → (call : Ended Post)
      → ((values : List ℕ) × (telling call.lifetimes call.result ≡ answered values)) ↔ (fine ≡ first_of (rows _ call.inputs) fine)
  unrefused refuses call = answers_exactly (refuses.exact _ _ _ _ call.promised).1

  pub accepts : {Valid : (κs : L) → Inputs κs → Type 0} → Refuses Post telling rows ks
      → ((κs : L) (a : Inputs κs) → (fine ≡ first_of (rows κs a) fine) ↔ Valid κs a) → Accepts Post telling Valid
  accepts refuses valid = record { exactly_valid = λ call. Iff.trans (unrefused refuses call) (valid _ call.inputs) }
