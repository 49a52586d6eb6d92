-- Laws of the rules of dropping: what lists that break none are.
use Rattle.std.specs.Prelude.{ℕ, ◌+◌, ◌*◌, ◌%◌, ◌≡◌, refl, Bool, true, false, not, Result, Ok, Err, List, [], ◌∷◌, ◌++◌, length, eqb}
use Rattle.std.proofs.Common.{sym, ap, ◌∙◌, arith}
use Rattle.std.specs.Result.{is_err}
use Rattle.std.proofs.lemmas.Bool.{eqb-true, not-false}
use Rattle.basics.proofs.All.{all_map}
use Rattle.refusals.specs.Tables.{Row, Told, first_of, after}
use Rattle.refusals.specs.Tables.Row.{refuse◌at◌when◌}
use Rattle.refusals.specs.Tables.Told.{refused}
use Rattle.refusals.specs.Answers.{number_of, place_of, told_word, fine, found}
use Rattle.refusals.specs.declared.Refusal.{Refusal}
use Rattle.refusals.specs.Places.{in_word, first_bad}
use Rattle.refusals.proofs.Clashes.{refused-answered}
use Rattle.refusals.proofs.OneAnswer.{handed_on}
use Rattle.refusals.proofs.Tables.{refused_all, after-refused, fine_row, fine-parts}
use Rattle.refusals.proofs.Places.{none_bad, none_left}
use Rattle.circuit.specs.Gates.{gates_of}
use Rattle.circuit.specs.Rules.{circuit_rows, vector_rows}
use Rattle.circuit.specs.Checked.{Has, gates_in}
use Rattle.circuit.specs.declared.Gate.{Gate}
use Rattle.circuit.specs.declared.checked.Circuit.{Circuit}
use Rattle.circuit.proofs.RuleLaws.{VectorOk, vector_ok}
use Rattle.faults.specs.Rules.{is_fault, fault_rows}
use Rattle.faults.specs.Records.{faults_of, first_bad_record}
use Rattle.faults.specs.declared.Fault.{Fault}
use Rattle.faults.proofs.RecordLaws.{records_count}
use Rattle.faults.proofs.RuleLaws.{fault_ok}
use Rattle.dropping.specs.Rules.{bad_record, record_rows, drop_rows, drop_records_rows}
use Rattle.dropping.specs.Records.{AllFaults}

-- ---- a record by itself, and the place of the first bad one

bad_row : (bad : Bool) (k p : ℕ) → refused k p ≡ first_of (refuse 9 at 1 when bad ∷ []) fine → true ≡ bad
bad_row true k p e = refl
bad_row false k p e = refused-answered e

-- the check of a record refuses exactly a bad one
pub record_told : {A : Type 0} (n : ℕ) (words : List ℕ) (f : Fault) (r : Result A Refusal) → found r ≡ first_of (fault_rows n words f) fine
    → is_err r ≡ bad_record n (gates_of words) f
unfolding bad_record fault_rows
record_told n words f (Ok a) e = sym (ap not (fault_ok n words f e))
record_told n words f (Err q) e = bad_row (not (is_fault n (gates_of words) f)) _ _ e

good_record : (n : ℕ) (gs : List Gate) (f : Fault) → bad_record n gs f ≡ false → is_fault n gs f ≡ true
unfolding bad_record
good_record n gs f e = not-false _ e

-- rule 9 is not broken where there is no place of a bad record
records_none : (bad : ℕ) → fine ≡ first_of (record_rows bad) fine → bad ≡ 0
unfolding record_rows
records_none bad e = eqb-true bad 0 (not-false (eqb bad 0) (fine_row (not (eqb bad 0)) 9 (in_word bad) fine e).0)

-- ---- calls whose rules none is broken: of a list, which may have numbers left over, and of both kinds of lists

pub record ListOk (n : ℕ) (words : List ℕ) (x : ℕ) (over : Bool) (fs : List Fault) : Type 0 where
  pub vector : VectorOk n words x
  pub whole : over ≡ false
  pub faults : AllFaults n (gates_of words) fs

pub list_ok : (n : ℕ) (words : List ℕ) (x : ℕ) (over : Bool) (fs : List Fault)
    → fine ≡ first_of ((circuit_rows n words ++ vector_rows n x) ++ record_rows (first_bad (bad_record n (gates_of words)) over fs)) fine
    → ListOk n words x over fs
list_ok n words x over fs e =
    let bad : Fault → Bool = bad_record n (gates_of words) in
    let w = fine-parts (circuit_rows n words ++ vector_rows n x) (record_rows (first_bad bad over fs)) e in
    let none = records_none (first_bad bad over fs) w.1 in
    record {
      vector = vector_ok n words x w.0;
      whole = none_left bad over fs 0 none;
      faults = all_map (good_record n (gates_of words)) fs (none_bad bad over fs 0 none);
    }

pub record DropOk (n : ℕ) (words : List ℕ) (x : ℕ) (list : List ℕ) : Type 0 where
  pub vector : VectorOk n words x
  pub whole : length list ≡ 4 * length (faults_of list)
  pub faults : AllFaults n (gates_of words) (faults_of list)

pub drop_ok : (n : ℕ) (words : List ℕ) (x : ℕ) (list : List ℕ) → fine ≡ first_of (drop_rows n words x list) fine → DropOk n words x list
unfolding drop_rows first_bad_record
drop_ok n words x list e =
    let ok = list_ok n words x (not (eqb (length list % 4) 0)) (faults_of list) e in
    let z = eqb-true (length list % 4) 0 (not-false (eqb (length list % 4) 0) ok.whole) in
    record { vector = ok.vector; whole = omega (arith, records_count list); faults = ok.faults }

pub record DropRecordsOk (n : ℕ) (words : List ℕ) (x : ℕ) (fs : List Fault) : Type 0 where
  pub vector : VectorOk n words x
  pub faults : AllFaults n (gates_of words) fs

pub drop_records_ok : (n : ℕ) (words : List ℕ) (x : ℕ) (fs : List Fault) → fine ≡ first_of (drop_records_rows n words x fs) fine →
    DropRecordsOk n words x fs
unfolding drop_records_rows
drop_records_ok n words x fs e = let ok = list_ok n words x false fs e in record { vector = ok.vector; faults = ok.faults }

-- and so of the circuit that the checks hand on
pub faults_in : {n : ℕ} {words : List ℕ} (circuit : Circuit) (fs : List Fault) → Has n words circuit → AllFaults n (gates_of words) fs
    → AllFaults circuit.lines (gates_in circuit) fs
faults_in circuit fs (lines, gates) w = rw (lines, gates) w

-- ---- what a refused call tells and leaves

pub refused_call : {A : Type 0} (rows : List Row) (answer : Told) (made old : A) {r : Result ℕ Refusal} {d : Refusal}
    → (x : Refusal) × (r ≡ Err x) × (x ≡ d) → refused (number_of d) (place_of d) ≡ first_of rows fine
    → (told_word r ≡ first_of rows answer) × (old ≡ after rows made old)
refused_call rows answer made old handed broken =
    (handed_on (λ word. word ∷ []) handed ∙ refused_all rows answer _ _ broken, after-refused rows made old _ _ broken)
