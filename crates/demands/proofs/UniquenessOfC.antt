-- The C calls: the contract of each allows one struct, and one final content of the memory that it was lent, for equal inputs.
use mathlib.Core.Path.{◌≡◌}
use mathlib.Core.List.{List, [], ◌∷◌}
use Prim.Native.Nat.{ℕ}
use Rattle.answers.specs.declared.Run.{Run}
use Rattle.answers.specs.declared.Catch.{Catch}
use Rattle.answers.specs.declared.Vector.{Vector}
use Rattle.answers.specs.declared.Count.{Count}
use Rattle.answers.specs.declared.verdicts.Judgement.{Judgement}
use Rattle.answers.specs.declared.jobs.Job.{Job}
use Rattle.answers.specs.declared.texts.Circuit.{Circuit}
use Rattle.nufsadeem.proofs.nuf_forward.Reads as forward
use Rattle.nufsadeem.proofs.nuf_backward.Reads as backward
use Rattle.nufsadeem.proofs.nuf_catches.Reads as catches
use Rattle.nufsadeem.proofs.nuf_catches_multiple.Reads as catches-multiple
use Rattle.nufsadeem.proofs.nuf_test_for.Reads as test-for
use Rattle.nufsadeem.proofs.nuf_backward_set.Reads as backward-set
use Rattle.nufsadeem.proofs.nuf_compact_set.Reads as compact-set
use Rattle.nufsadeem.proofs.nuf_drop.Reads as drop
use Rattle.nufsadeem.proofs.nuf_drop_records.Reads as drop-records
use Rattle.nufsadeem.proofs.judging.nuf_judge.Reads as judge
use Rattle.nufsadeem.proofs.judging.nuf_cover.Reads as cover
use Rattle.nufsadeem.proofs.jobs.nuf_read_job.Reads as read-job
use Rattle.nufsadeem.proofs.jobs.nuf_write_job.Reads as write-job
use Rattle.nufsadeem.proofs.jobs.nuf_report.Reads as report
use Rattle.nufsadeem.proofs.texts.nuf_export_real.Reads as export
use Rattle.nufsadeem.proofs.texts.nuf_import_real.Reads as import
use Rattle.demands.proofs.Uniqueness.{same, one, OneResult, OneResultAndMemory}

-- ---- structs whose fields are equal are equal

abbrev run_fields : Run → List ℕ
run_fields r = r.number ∷ r.place ∷ r.state ∷ []

run-one : (r s : Run) → run_fields r ≡ run_fields s → r ≡ s
run-one r s e =
    let number : r.number ≡ s.number = cc in
    let place : r.place ≡ s.place = cc in
    let state : r.state ≡ s.state = cc in
    λ i. record { number = number i; place = place i; state = state i }

abbrev catch_fields : Catch → List ℕ
catch_fields r = r.number ∷ r.place ∷ r.caught ∷ []

catch_one : (r s : Catch) → catch_fields r ≡ catch_fields s → r ≡ s
catch_one r s e =
    let number : r.number ≡ s.number = cc in
    let place : r.place ≡ s.place = cc in
    let caught : r.caught ≡ s.caught = cc in
    λ i. record { number = number i; place = place i; caught = caught i }

abbrev vector_fields : Vector → List ℕ
vector_fields r = r.number ∷ r.place ∷ r.vector ∷ []

vector_one : (r s : Vector) → vector_fields r ≡ vector_fields s → r ≡ s
vector_one r s e =
    let number : r.number ≡ s.number = cc in
    let place : r.place ≡ s.place = cc in
    let vector : r.vector ≡ s.vector = cc in
    λ i. record { number = number i; place = place i; vector = vector i }

abbrev count_fields : Count → List ℕ
count_fields r = r.number ∷ r.place ∷ r.count ∷ []

count-one : (r s : Count) → count_fields r ≡ count_fields s → r ≡ s
count-one r s e =
    let number : r.number ≡ s.number = cc in
    let place : r.place ≡ s.place = cc in
    let count : r.count ≡ s.count = cc in
    λ i. record { number = number i; place = place i; count = count i }

abbrev circuit_fields : Circuit → List ℕ
circuit_fields r = r.number ∷ r.place ∷ r.lines ∷ r.gates ∷ []

circuit-one : (r s : Circuit) → circuit_fields r ≡ circuit_fields s → r ≡ s
circuit-one r s e =
    let number : r.number ≡ s.number = cc in
    let place : r.place ≡ s.place = cc in
    let lines : r.lines ≡ s.lines = cc in
    let gates : r.gates ≡ s.gates = cc in
    λ i. record { number = number i; place = place i; lines = lines i; gates = gates i }

abbrev job_fields : Job → List ℕ
job_fields r = r.number ∷ r.place ∷ r.lines ∷ r.classes ∷ r.gates ∷ r.vectors ∷ []

job_one : (r s : Job) → job_fields r ≡ job_fields s → r ≡ s
job_one r s e =
    let number : r.number ≡ s.number = cc in
    let place : r.place ≡ s.place = cc in
    let lines : r.lines ≡ s.lines = cc in
    let classes : r.classes ≡ s.classes = cc in
    let gates : r.gates ≡ s.gates = cc in
    let vectors : r.vectors ≡ s.vectors = cc in
    λ i. record { number = number i; place = place i; lines = lines i; classes = classes i; gates = gates i; vectors = vectors i }

abbrev judgement_fields : Judgement → List ℕ
judgement_fields r = r.number ∷ r.place ∷ r.caught ∷ r.total ∷ r.complete
    ∷ r.first.class ∷ r.first.place ∷ r.first.line ∷ r.first.value ∷ []

judgement_one : (r s : Judgement) → judgement_fields r ≡ judgement_fields s → r ≡ s
judgement_one r s e =
    let number : r.number ≡ s.number = cc in
    let place : r.place ≡ s.place = cc in
    let caught : r.caught ≡ s.caught = cc in
    let total : r.total ≡ s.total = cc in
    let complete : r.complete ≡ s.complete = cc in
    let class : r.first.class ≡ s.first.class = cc in
    let at : r.first.place ≡ s.first.place = cc in
    let line : r.first.line ≡ s.first.line = cc in
    let value : r.first.value ≡ s.first.value = cc in
    λ i. record {
      number = number i;
      place = place i;
      caught = caught i;
      total = total i;
      complete = complete i;
      first = record { class = class i; place = at i; line = line i; value = value i };
    }

-- ---- the list of C calls

pub forward-one : OneResult forward.Post
    (λ κs (lines, (gates, (level, (state, _)))) (lines', (gates', (level', (state', _)))).
    (lines ≡ lines') × (gates.now ≡ gates'.now) × (level ≡ level') × (state ≡ state'))
forward-one κs a b equal r s e f p q = one run_fields run-one r s p cc

pub backward-one : OneResult backward.Post
    (λ κs (lines, (gates, (level, (state, _)))) (lines', (gates', (level', (state', _)))).
    (lines ≡ lines') × (gates.now ≡ gates'.now) × (level ≡ level') × (state ≡ state'))
backward-one κs a b equal r s e f p q = one run_fields run-one r s p cc

pub catches_one : OneResult catches.Post
    (λ κs (lines, (gates, (vector, (fault, _)))) (lines', (gates', (vector', (fault', _)))).
    (lines ≡ lines') × (gates.now ≡ gates'.now) × (vector ≡ vector') × (fault ≡ fault'))
catches_one κs a b equal r s e f p q = one catch_fields catch_one r s p cc

pub catches_multiple_one : OneResult catches-multiple.Post
    (λ κs (lines, (gates, (vector, (entries, _)))) (lines', (gates', (vector', (entries', _)))).
    (lines ≡ lines') × (gates.now ≡ gates'.now) × (vector ≡ vector') × (entries.now ≡ entries'.now))
catches_multiple_one κs a b equal r s e f p q = one catch_fields catch_one r s p cc

pub test_for-one : OneResult test-for.Post
    (λ κs (lines, (gates, (fault, _))) (lines', (gates', (fault', _))). (lines ≡ lines') × (gates.now ≡ gates'.now) × (fault ≡ fault'))
test_for-one κs a b equal r s e f p q = one vector_fields vector_one r s p cc

pub backward_set-one : OneResultAndMemory backward-set.Post
    (λ κs (lines, (gates, (room, _))) (lines', (gates', (room', _))). (lines ≡ lines') × (gates.now ≡ gates'.now) × (room.now ≡ room'.now))
    (λ κs (_, (_, (room-after, _))) f. room-after.now ≡ f.1.1.0.now)
backward_set-one κs a b equal r s e f p q = (one count_fields count-one r s p.0 cc, same p.1 cc)

pub compact_set-one : OneResultAndMemory compact-set.Post
    (λ κs (lines, (gates, (room, _))) (lines', (gates', (room', _))). (lines ≡ lines') × (gates.now ≡ gates'.now) × (room.now ≡ room'.now))
    (λ κs (_, (_, (room-after, _))) f. room-after.now ≡ f.1.1.0.now)
compact_set-one κs a b equal r s e f p q = (one count_fields count-one r s p.0 cc, same p.1 cc)

pub drop-one : OneResultAndMemory drop.Post
    (λ κs (lines, (gates, (vector, (list, _)))) (lines', (gates', (vector', (list', _)))).
    (lines ≡ lines') × (gates.now ≡ gates'.now) × (vector ≡ vector') × (list.now ≡ list'.now))
    (λ κs (_, (_, (_, (list-after, _)))) f. list-after.now ≡ f.1.1.1.0.now)
drop-one κs a b equal r s e f p q = (one count_fields count-one r s p.0 cc, same p.1 cc)

pub drop_records_one : OneResultAndMemory drop-records.Post
    (λ κs (lines, (gates, (vector, (list, _)))) (lines', (gates', (vector', (list', _)))).
    (lines ≡ lines') × (gates.now ≡ gates'.now) × (vector ≡ vector') × (list.now ≡ list'.now))
    (λ κs (_, (_, (_, (list-after, _)))) f. list-after.now ≡ f.1.1.1.0.now)
drop_records_one κs a b equal r s e f p q = (one count_fields count-one r s p.0 cc, same p.1 cc)

pub judge_one : OneResult judge.Post
    (λ κs (lines, (gates, (vectors, (class, _)))) (lines', (gates', (vectors', (class', _)))).
    (lines ≡ lines') × (gates.now ≡ gates'.now) × (vectors.now ≡ vectors'.now) × (class ≡ class'))
judge_one κs a b equal r s e f p q = one judgement_fields judgement_one r s p cc

pub cover_one : OneResult cover.Post
    (λ κs (lines, (gates, (vectors, (class, _)))) (lines', (gates', (vectors', (class', _)))).
    (lines ≡ lines') × (gates.now ≡ gates'.now) × (vectors.now ≡ vectors'.now) × (class ≡ class'))
cover_one κs a b equal r s e f p q = one judgement_fields judgement_one r s p cc

pub export_one : OneResultAndMemory export.Post
    (λ κs (lines, (gates, (out, _))) (lines', (gates', (out', _))). (lines ≡ lines') × (gates.now ≡ gates'.now) × (out.now ≡ out'.now))
    (λ κs (_, (_, (out-after, _))) f. out-after.now ≡ f.1.1.0.now)
export_one κs a b equal r s e f p q = (one count_fields count-one r s p.0 cc, same p.1 cc)

pub import_one : OneResultAndMemory import.Post
    (λ κs (text, (gates, _)) (text', (gates', _)). (text.now ≡ text'.now) × (gates.now ≡ gates'.now))
    (λ κs (_, (gates-after, _)) f. gates-after.now ≡ f.1.0.now)
import_one κs a b equal r s e f p q = (one circuit_fields circuit-one r s p.0 cc, same p.1 cc)

pub read-job-one : OneResultAndMemory read-job.Post
    (λ κs (bytes, (gates, (vectors, _))) (bytes', (gates', (vectors', _))).
    (bytes.now ≡ bytes'.now) × (gates.now ≡ gates'.now) × (vectors.now ≡ vectors'.now))
    (λ κs (_, (gates-after, (vectors-after, _))) f. (gates-after.now ≡ f.1.0.now) × (vectors-after.now ≡ f.1.1.0.now))
read-job-one κs a b equal r s e f p q = (one job_fields job_one r s p.0 cc, (same p.1.0 cc, same p.1.1 cc))

pub write_job_one : OneResultAndMemory write-job.Post
    (λ κs (lines, (classes, (gates, (vectors, (out, _))))) (lines', (classes', (gates', (vectors', (out', _))))).
    (lines ≡ lines') × (classes ≡ classes')
    × (gates.now ≡ gates'.now) × (vectors.now ≡ vectors'.now) × (out.now ≡ out'.now))
    (λ κs (_, (_, (_, (_, (out-after, _))))) f. out-after.now ≡ f.1.1.1.1.0.now)
write_job_one κs a b equal r s e f p q = (one count_fields count-one r s p.0 cc, same p.1 cc)

pub report_one : OneResultAndMemory report.Post
    (λ κs (bytes, (out, _)) (bytes', (out', _)). (bytes.now ≡ bytes'.now) × (out.now ≡ out'.now))
    (λ κs (_, (out-after, _)) f. out-after.now ≡ f.1.0.now)
report_one κs a b equal r s e f p q = (one count_fields count-one r s p.0 cc, same p.1 cc)
