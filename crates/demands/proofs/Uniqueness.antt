-- Each public call's contract allows one result, and one final content of the memory that it was lent: two results that it
-- allows for equal inputs are equal. `Post` is the call's `ensures`, as the check made it from the code.
use Rattle.std.specs.Prelude.{◌≡◌, refl, []}
use Rattle.std.proofs.Common.{sym, ◌∙◌}
use Rattle.words.proofs.ones.Reads as ones
use Rattle.words.proofs.lacking.Reads as lacking
use Rattle.words.proofs.lone_zero.Reads as lone-zero
use Rattle.refusals.specs.Answers.{told, told_word, told_yes}
use Rattle.refusals.proofs.OneAnswer.{told-one, told_word-one, told_yes-one}
use Rattle.refusals.proofs.Refusal.number.Reads as number
use Rattle.refusals.proofs.Refusal.place.Reads as place
use Rattle.refusals.proofs.refuse_when.Reads as refuse-when
use Rattle.refusals.proofs.in_word.Reads as in_word_lem
use Rattle.circuit.proofs.forward.Reads as forward
use Rattle.circuit.proofs.backward.Reads as backward
use Rattle.simulator.proofs.faulty_run.Reads as faulty-run
use Rattle.simulator.proofs.catches.Reads as catches
use Rattle.multiple_faults.proofs.catches_multiple.Reads as catches-multiple
use Rattle.fault_test.proofs.test_for.Reads as test-for
use Rattle.judge.specs.Answers.{verdict_values}
use Rattle.judge.proofs.AnswerLaws.{verdict_values-one, added-one}
use Rattle.judge.proofs.judge.Reads as judge
use Rattle.judge.proofs.coverage.Coverage.empty.Reads as coverage-empty
use Rattle.judge.proofs.coverage.Coverage.with_vector.Reads as coverage-with-vector
use Rattle.judge.proofs.coverage.Coverage.count.Reads as coverage-count
use Rattle.judge.proofs.covering.cover.Reads as cover
use Rattle.dropping.proofs.drop.Reads as drop
use Rattle.dropping.proofs.drop_records.Reads as drop-records
use Rattle.testsets.proofs.backward_set.Reads as backward-set
use Rattle.testsets.proofs.compact_set.Reads as compact-set
use Rattle.real_export.proofs.export.Reads as export
use Rattle.real_import.specs.Answers.{imported_values}
use Rattle.real_import.proofs.AnswerLaws.{told_imported-one}
use Rattle.real_import.proofs.import.Reads as import
use Rattle.job.specs.Answers.{job_values}
use Rattle.job.proofs.AnswerLaws.{told_job-one}
use Rattle.job.proofs.read_job.Reads as read-job
use Rattle.job.proofs.write_job.Reads as write-job
use Rattle.report_text.proofs.report.Reads as report

-- ---- the law

-- two that are the same value of the inputs are equal
pub same {ℓ} : {A : Type ℓ} {r s value : A} → r ≡ value → s ≡ value → r ≡ s
same p q = p ∙ sym q

-- and so are two answers that tell it, where different answers tell different things
pub one {ℓ κ} : {A : Type ℓ} {B : Type κ} (told : A → B) → ((r s : A) → told r ≡ told s → r ≡ s)
    → (r s : A) {value : B} → told r ≡ value → told s ≡ value → r ≡ s
one told different r s p q = different r s (same p q)

-- ---- what it says of a contract, of two calls whose inputs are equal: numbers, records, and what is lent as it is when the call begins

module _ {L : Type 0} {Inputs Result Exit : L → Type 0} (Post : (κs : L) → Inputs κs → Result κs → Exit κs → Type 0)
    (Equal : (κs : L) → Inputs κs → Inputs κs → Type 0) where
  -- two results that it allows are equal
  abbrev pub OneResult : Type 0
  OneResult = (κs : L) (a b : Inputs κs) → Equal κs a b → (r s : Result κs) (e f : Exit κs) → Post κs a r e → Post κs b s f → r ≡ s

  -- and so are two contents that it allows lent memory at exit
  abbrev pub OneResultAndMemory : ((κs : L) → Exit κs → Exit κs → Type 0) → Type 0
  OneResultAndMemory Same = (κs : L) (a b : Inputs κs) → Equal κs a b → (r s : Result κs) (e f : Exit κs) → Post κs a r e → Post κs b s f
      → (r ≡ s) × Same κs e f

-- ---- the list of public calls, in the order of crates.txt: each new call is one more entry

-- words
pub ones_one : OneResult ones.Post
    (λ κs (word, _) (word', _). word ≡ word')
ones_one κs a b equal r s e f p q = same p cc

pub lacking-one : OneResult lacking.Post
    (λ κs (mask, (word, _)) (mask', (word', _)). (mask ≡ mask') × (word ≡ word'))
lacking-one κs a b equal r s e f p q = same p cc

pub lone_zero-one : OneResult lone-zero.Post
    (λ κs (mask, (word, _)) (mask', (word', _)). (mask ≡ mask') × (word ≡ word'))
lone_zero-one κs a b equal r s e f p q = same p cc

-- refusals
pub number_one : OneResult number.Post (λ κs (refusal, _) (refusal', _). refusal ≡ refusal')
number_one κs a b equal r s e f p q = same p cc

pub place_one : OneResult place.Post (λ κs (refusal, _) (refusal', _). refusal ≡ refusal')
place_one κs a b equal r s e f p q = same p cc

pub refuse_when_one : OneResult refuse-when.Post
    (λ κs (broken, (refusal, _)) (broken', (refusal', _)). (broken ≡ broken') × (refusal ≡ refusal'))
refuse_when_one κs a b equal r s e f p q = one (told (λ _. [])) (told-one (λ _. []) (λ a b e. refl)) r s p cc

pub in_word-one : OneResult in_word_lem.Post
    (λ κs (number, _) (number', _). number ≡ number')
in_word-one κs a b equal r s e f p q = same p cc

-- circuit
pub forward-one : OneResult forward.Post
    (λ κs (lines, (gates, (level, (state, _)))) (lines', (gates', (level', (state', _)))).
    (lines ≡ lines') × (gates.now ≡ gates'.now) × (level ≡ level') × (state ≡ state'))
forward-one κs a b equal r s e f p q = one told_word told_word-one r s p cc

pub backward-one : OneResult backward.Post
    (λ κs (lines, (gates, (level, (state, _)))) (lines', (gates', (level', (state', _)))).
    (lines ≡ lines') × (gates.now ≡ gates'.now) × (level ≡ level') × (state ≡ state'))
backward-one κs a b equal r s e f p q = one told_word told_word-one r s p cc

-- simulator
pub faulty-run-one : OneResult faulty-run.Post
    (λ κs (lines, (gates, (vector, (fault, _)))) (lines', (gates', (vector', (fault', _)))).
    (lines ≡ lines') × (gates.now ≡ gates'.now) × (vector ≡ vector') × (fault ≡ fault'))
faulty-run-one κs a b equal r s e f p q = one told_word told_word-one r s p cc

pub catches_one : OneResult catches.Post
    (λ κs (lines, (gates, (vector, (fault, _)))) (lines', (gates', (vector', (fault', _)))).
    (lines ≡ lines') × (gates.now ≡ gates'.now) × (vector ≡ vector') × (fault ≡ fault'))
catches_one κs a b equal r s e f p q = one told_yes told_yes-one r s p cc

pub catches_multiple_one : OneResult catches-multiple.Post
    (λ κs (lines, (gates, (vector, (entries, _)))) (lines', (gates', (vector', (entries', _)))).
    (lines ≡ lines') × (gates.now ≡ gates'.now) × (vector ≡ vector') × (entries.now ≡ entries'.now))
catches_multiple_one κs a b equal r s e f p q = one told_yes told_yes-one r s p cc

pub test_for-one : OneResult test-for.Post
    (λ κs (lines, (gates, (fault, _))) (lines', (gates', (fault', _))). (lines ≡ lines') × (gates.now ≡ gates'.now) × (fault ≡ fault'))
test_for-one κs a b equal r s e f p q = one told_word told_word-one r s p cc

-- judge
pub judge_one : OneResult judge.Post
    (λ κs (lines, (gates, (vectors, (class, _)))) (lines', (gates', (vectors', (class', _)))).
    (lines ≡ lines') × (gates.now ≡ gates'.now) × (vectors.now ≡ vectors'.now) × (class ≡ class'))
judge_one κs a b equal r s e f p q = one (told verdict_values) (told-one verdict_values verdict_values-one) r s p cc

pub coverage_empty_one : OneResult coverage-empty.Post (λ κs a b. Unit {0})
coverage_empty_one κs a b equal r s e f p q = same p q

pub coverage_with_vector_one : OneResult coverage-with-vector.Post
    (λ κs (coverage, (lines, (gates, (vector, _)))) (coverage', (lines', (gates', (vector', _)))).
    (coverage ≡ coverage') × (lines ≡ lines') × (gates.now ≡ gates'.now) × (vector ≡ vector'))
coverage_with_vector_one κs a b equal r s e f p q =
    added-one r s (same p.0 cc) (same p.1 cc)

pub coverage_count_one : OneResult coverage-count.Post
    (λ κs (coverage, (lines, (gates, (class, _)))) (coverage', (lines', (gates', (class', _)))).
    (coverage ≡ coverage') × (lines ≡ lines') × (gates.now ≡ gates'.now) × (class ≡ class'))
coverage_count_one κs a b equal r s e f p q = one (told verdict_values) (told-one verdict_values verdict_values-one) r s p cc

pub cover_one : OneResult cover.Post
    (λ κs (lines, (gates, (vectors, (class, _)))) (lines', (gates', (vectors', (class', _)))).
    (lines ≡ lines') × (gates.now ≡ gates'.now) × (vectors.now ≡ vectors'.now) × (class ≡ class'))
cover_one κs a b equal r s e f p q = one (told verdict_values) (told-one verdict_values verdict_values-one) r s p cc

-- dropping
pub drop-one : OneResultAndMemory drop.Post
    (λ κs (lines, (gates, (vector, (list, _)))) (lines', (gates', (vector', (list', _)))).
    (lines ≡ lines') × (gates.now ≡ gates'.now) × (vector ≡ vector') × (list.now ≡ list'.now))
    (λ κs (_, (_, (_, (list-after, _)))) f. list-after.now ≡ f.1.1.1.0.now)
drop-one κs a b equal r s e f p q = (one told_word told_word-one r s p.0 cc, same p.1 cc)

pub drop_records_one : OneResultAndMemory drop-records.Post
    (λ κs (lines, (gates, (vector, (list, _)))) (lines', (gates', (vector', (list', _)))).
    (lines ≡ lines') × (gates.now ≡ gates'.now) × (vector ≡ vector') × (list.now ≡ list'.now))
    (λ κs (_, (_, (_, (list-after, _)))) f. list-after.now ≡ f.1.1.1.0.now)
drop_records_one κs a b equal r s e f p q = (one told_word told_word-one r s p.0 cc, same p.1 cc)

-- testsets
pub backward_set-one : OneResultAndMemory backward-set.Post
    (λ κs (lines, (gates, (room, _))) (lines', (gates', (room', _))). (lines ≡ lines') × (gates.now ≡ gates'.now) × (room.now ≡ room'.now))
    (λ κs (_, (_, (room-after, _))) f. room-after.now ≡ f.1.1.0.now)
backward_set-one κs a b equal r s e f p q = (one told_word told_word-one r s p.0 cc, same p.1 cc)

pub compact_set-one : OneResultAndMemory compact-set.Post
    (λ κs (lines, (gates, (room, _))) (lines', (gates', (room', _))). (lines ≡ lines') × (gates.now ≡ gates'.now) × (room.now ≡ room'.now))
    (λ κs (_, (_, (room-after, _))) f. room-after.now ≡ f.1.1.0.now)
compact_set-one κs a b equal r s e f p q = (one told_word told_word-one r s p.0 cc, same p.1 cc)

-- real_export
pub export_one : OneResultAndMemory export.Post
    (λ κs (lines, (gates, (out, _))) (lines', (gates', (out', _))). (lines ≡ lines') × (gates.now ≡ gates'.now) × (out.now ≡ out'.now))
    (λ κs (_, (_, (out-after, _))) f. out-after.now ≡ f.1.1.0.now)
export_one κs a b equal r s e f p q = (one told_word told_word-one r s p.0 cc, same p.1 cc)

-- real_import
pub import_one : OneResultAndMemory import.Post
    (λ κs (text, (gates, _)) (text', (gates', _)). (text.now ≡ text'.now) × (gates.now ≡ gates'.now))
    (λ κs (_, (gates-after, _)) f. gates-after.now ≡ f.1.0.now)
import_one κs a b equal r s e f p q = (one (told imported_values) told_imported-one r s p.0 cc, same p.1 cc)

-- job
pub read-job-one : OneResultAndMemory read-job.Post
    (λ κs (bytes, (gates, (vectors, _))) (bytes', (gates', (vectors', _))).
    (bytes.now ≡ bytes'.now) × (gates.now ≡ gates'.now) × (vectors.now ≡ vectors'.now))
    (λ κs (_, (gates-after, (vectors-after, _))) f. (gates-after.now ≡ f.1.0.now) × (vectors-after.now ≡ f.1.1.0.now))
read-job-one κs a b equal r s e f p q = (one (told job_values) told_job-one r s p.0 cc, (same p.1.0 cc, same p.1.1 cc))

pub write_job_one : OneResultAndMemory write-job.Post
    (λ κs (lines, (classes, (gates, (vectors, (out, _))))) (lines', (classes', (gates', (vectors', (out', _))))).
    (lines ≡ lines') × (classes ≡ classes')
    × (gates.now ≡ gates'.now) × (vectors.now ≡ vectors'.now) × (out.now ≡ out'.now))
    (λ κs (_, (_, (_, (_, (out-after, _))))) f. out-after.now ≡ f.1.1.1.1.0.now)
write_job_one κs a b equal r s e f p q = (one told_word told_word-one r s p.0 cc, same p.1 cc)

-- report_text
pub report_one : OneResultAndMemory report.Post
    (λ κs (bytes, (out, _)) (bytes', (out', _)). (bytes.now ≡ bytes'.now) × (out.now ≡ out'.now))
    (λ κs (_, (out-after, _)) f. out-after.now ≡ f.1.0.now)
report_one κs a b equal r s e f p q = (one told_word told_word-one r s p.0 cc, same p.1 cc)
