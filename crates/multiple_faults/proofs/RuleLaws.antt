-- Laws of the rules of a multiple fault: what a broken one tells, and what breaks none.
use Rattle.std.proofs.Common.{ℕ, ◌%◌, ◌≡◌, arith, false, not, eqb, List, ◌++◌, length}
use borrow.Author.Tests.{eqb-true, not-false}
use Rattle.basics.proofs.Tests.{and_both}
use Rattle.basics.proofs.All.{all_map}
use Rattle.refusals.specs.Tables.{first_of}
use Rattle.refusals.specs.Answers.{fine}
use Rattle.refusals.specs.Places.{in_word}
use Rattle.refusals.proofs.Tables.{fine_row, fine-parts}
use Rattle.refusals.proofs.Places.{rule_told, none_bad, none_left}
use Rattle.circuit.specs.Gates.{gates_of}
use Rattle.circuit.specs.Rules.{circuit_rows, vector_rows}
use Rattle.circuit.specs.declared.Gate.{Gate}
use Rattle.circuit.proofs.RuleLaws.{VectorOk, vector_ok}
use Rattle.faults.specs.Rules.{is_stuck_at}
use Rattle.faults.specs.Records.{faults_of, first_bad_record}
use Rattle.faults.specs.Stuck.{StuckOk}
use Rattle.faults.specs.declared.Fault.{Fault}
use Rattle.faults.proofs.RuleLaws.{stuck_at_ok}
use Rattle.faults.proofs.RecordLaws.{records_count}
use Rattle.multiple_faults.specs.Multiple.{bad_entry}
use Rattle.multiple_faults.specs.Entries.{Entries}
use Rattle.multiple_faults.specs.Rules.{first_bad_entry, entries_rows, multiple_rows}

-- ---- the entries

good_entry : (n : ℕ) (gs : List Gate) (f : Fault) → bad_entry n gs f ≡ false → StuckOk n (length gs) f
unfolding bad_entry
good_entry n gs f e =
    let w = and_both (eqb f.class 1) (is_stuck_at n gs f) (not-false _ e) in
    stuck_at_ok n gs f (eqb-true f.class 1 w.0) w.1

entries_good : (n : ℕ) (gs : List Gate) (list : List ℕ) → first_bad_record (bad_entry n gs) list ≡ 0 → Entries n gs list
unfolding first_bad_record
entries_good n gs list e =
    let bad = not (eqb (length list % 4) 0) in
    let z = eqb-true (length list % 4) 0 (not-false (eqb (length list % 4) 0) (none_left (bad_entry n gs) bad (faults_of list) 0 e)) in
    record {
      whole = omega (arith, records_count list);
      entries_ok = all_map (good_entry n gs) (faults_of list) (none_bad (bad_entry n gs) bad (faults_of list) 0 e);
    }

pub records_good : (n : ℕ) (words list : List ℕ) → fine ≡ rule_told 9 (first_bad_entry n words list) → Entries n (gates_of words) list
records_good n words list e =
    let bad = first_bad_entry n words list in
    entries_good n (gates_of words) list (eqb-true bad 0 (not-false (eqb bad 0) (fine_row (not (eqb bad 0)) 9 (in_word bad) fine e).0))

-- ---- the whole table

pub record MultipleOk (n : ℕ) (words : List ℕ) (x : ℕ) (list : List ℕ) : Type 0 where
  pub vector : VectorOk n words x
  pub entries : Entries n (gates_of words) list

pub multiple_ok : (n : ℕ) (words : List ℕ) (x : ℕ) (list : List ℕ) → fine ≡ first_of (multiple_rows n words x list) fine → MultipleOk n words x list
unfolding multiple_rows entries_rows
multiple_ok n words x list e =
    let w = fine-parts (circuit_rows n words ++ vector_rows n x) (entries_rows n words list) e in
    let bad = first_bad_entry n words list in
    let first = fine_row (not (eqb bad 0)) 9 (in_word bad) _ w.1 in
    record { vector = vector_ok n words x w.0; entries = records_good n words list (rw first.0) }
