-- A plain list and a slice of the same records are dropped from alike.
use Rattle.std.specs.Prelude.{ℕ, ◌%◌, ◌≡◌, refl, Bool, true, false, not, Result, List, [], ◌∷◌, ◌++◌, length}
use Rattle.std.proofs.Common.{sym, ap, ap₂, ◌∙◌, arith}
use Rattle.std.proofs.lemmas.Bool.{eq-eqb}
use Rattle.refusals.specs.Tables.{Row, first_of, after}
use Rattle.refusals.specs.Tables.Row.{refuse◌at◌when◌}
use Rattle.refusals.specs.Tables.Told.{answered}
use Rattle.refusals.specs.Answers.{told_word}
use Rattle.refusals.specs.Places.{first_bad, in_word}
use Rattle.refusals.specs.declared.Refusal.{Refusal}
use Rattle.refusals.proofs.OneAnswer.{told_word-one}
use Rattle.circuit.specs.Gates.{gates_of}
use Rattle.circuit.specs.Rules.{circuit_rows, vector_rows}
use Rattle.circuit.specs.declared.Gate.{Gate}
use Rattle.faults.specs.Records.{faults_of, first_bad_record}
use Rattle.faults.specs.declared.Fault.{Fault}
use Rattle.dropping.specs.Dropping.{uncaught, dropped, words_of}
use Rattle.dropping.specs.Rules.{bad_record, record_rows, drop_rows, drop_records_rows}
use Rattle.dropping.proofs.PlainLaws.{faults_numbers, numbers_length}

-- what is read off memory after a call is what is read off the memory that the call makes, or off the old
after_read {ℓ κ} : {A : Type ℓ} {B : Type κ} (f : A → B) (rows : List Row) (made old : A) → f (after rows made old) ≡ after rows (f made) (f old)
after_read f [] made old = refl
after_read f (refuse k at p when true ∷ rows) made old = refl
after_read f (refuse k at p when false ∷ rows) made old = after_read f rows made old

-- no number is left over
numbers_whole : (fs : List Fault) → length (words_of fs) % 4 ≡ 0
numbers_whole fs = omega (arith, numbers_length fs)

same-bad : (bad : Fault → Bool) (fs : List Fault) → first_bad_record bad (words_of fs) ≡ first_bad bad false fs
unfolding first_bad_record
same-bad bad fs = ap₂ (first_bad bad) (ap not (eq-eqb (length (words_of fs) % 4) 0 (numbers_whole fs))) (faults_numbers fs)

module _ (n : ℕ) (words : List ℕ) (x : ℕ) (fs : List Fault) where
  abbrev gs : List Gate
  gs = gates_of words

  pub same_rows : drop_rows n words x (words_of fs) ≡ drop_records_rows n words x fs
  unfolding drop_rows drop_records_rows
  same_rows = ap (λ bad. (circuit_rows n words ++ vector_rows n x) ++ record_rows bad) (same-bad (bad_record n gs) fs)

  -- what the two calls are held to fixes the same answer, and, read as records, the same list
  pub same_drop : (r s : Result ℕ Refusal) (plain : List ℕ) (records : List Fault)
      → told_word r ≡ first_of (drop_rows n words x (words_of fs)) (answered (in_word (length (uncaught gs x (faults_of (words_of fs)))) ∷ []))
      → plain ≡ after (drop_rows n words x (words_of fs)) (words_of (dropped gs x (faults_of (words_of fs)))) (words_of fs)
      → told_word s ≡ first_of (drop_records_rows n words x fs) (answered (in_word (length (uncaught gs x fs)) ∷ []))
      → records ≡ after (drop_records_rows n words x fs) (dropped gs x fs) fs
      → (r ≡ s) × (faults_of plain ≡ records)
  same_drop r s plain records told-plain plain-is told_records records_is =
      let same-told = ap₂ (λ rows number. first_of rows (answered (in_word number ∷ []))) same_rows
      (ap (λ l. length (uncaught gs x l)) (faults_numbers fs)) in
      let made : faults_of (words_of (dropped gs x (faults_of (words_of fs)))) ≡ dropped gs x fs = faults_numbers _ ∙ ap (dropped gs x)
      (faults_numbers fs) in (
        told_word-one r s (told-plain ∙ same-told ∙ sym told_records),
        ap faults_of plain-is ∙ after_read faults_of (drop_rows n words x (words_of fs)) _ _
            ∙ ap (λ rows. after rows (faults_of (words_of (dropped gs x (faults_of (words_of fs))))) (faults_of (words_of fs))) same_rows
            ∙ ap₂ (after (drop_records_rows n words x fs)) made (faults_numbers fs) ∙ sym records_is,
      )
