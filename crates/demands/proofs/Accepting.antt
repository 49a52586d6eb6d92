-- Demand 1 once more, in the words of docs/SCOPE.md: each call answers exactly if what it is given is valid.
use Prim.Native.Nat.{ℕ, ◌+◌, ◌*◌, ◌^◌, ◌≤◌, ◌<◌}
use mathlib.Core.Path.{◌≡◌}
use mathlib.Core.Logic.{◌↔◌}
use mathlib.Core.List.{List}
use native.Mathlib.Nat.{le_trans}
use lib.ListN.{length}
use lib.Dec.{ltb}
use borrow.Author.Tests.{le-ltb}
use Rattle.refusals.specs.Answers.{told, told_word, told_yes}
use Rattle.basics.specs.Lists.{All}
use Rattle.refusals.specs.Tables.Told.{answered}
use Rattle.circuit.specs.declared.Gate.{Gate}
use Rattle.circuit.proofs.forward.Reads as forward
use Rattle.circuit.proofs.backward.Reads as backward
use Rattle.faults.specs.declared.Fault.{Fault}
use Rattle.simulator.proofs.faulty_run.Reads as faulty-run
use Rattle.simulator.proofs.catches.Reads as catches
use Rattle.multiple_faults.proofs.catches_multiple.Reads as catches-multiple
use Rattle.fault_test.proofs.test_for.Reads as test-for
use Rattle.judge.specs.Answers.{verdict_values}
use Rattle.judge.specs.Added.{told_added}
use Rattle.judge.proofs.judge.Reads as judge
use Rattle.judge.proofs.coverage.Coverage.with_vector.Reads as coverage-with-vector
use Rattle.judge.proofs.coverage.Coverage.count.Reads as coverage-count
use Rattle.judge.proofs.covering.cover.Reads as cover
use Rattle.dropping.proofs.drop.Reads as drop
use Rattle.dropping.proofs.drop_records.Reads as drop-records
use Rattle.testsets.proofs.backward_set.Reads as backward-set
use Rattle.testsets.proofs.compact_set.Reads as compact-set
use Rattle.real.specs.Export.{real_text}
use Rattle.real.specs.Reading.{reading}
use Rattle.real.specs.Reading.Reading.{circuit}
use Rattle.real_export.proofs.export.Reads as export
use Rattle.real_import.specs.Answers.{imported_values}
use Rattle.real_import.proofs.import.Reads as import
use Rattle.job.specs.Answers.{job_values}
use Rattle.job.proofs.read_job.Reads as read-job
use Rattle.job.proofs.write_job.Reads as write-job
use Rattle.report_text.specs.Report.{report_text}
use Rattle.report_text.specs.Rules.{report_rows}
use Rattle.report_text.proofs.ReportLaws.{report_fits}
use Rattle.report_text.proofs.report.Reads as report
use Rattle.demands.proofs.Machine.{Has, records, Multiple}
use Rattle.demands.proofs.Valid.{Valid}
use Rattle.demands.proofs.ValidRows.{one_rule}
use Rattle.demands.proofs.ValidCalls.{run_valid, catch_valid, test_valid, count_valid, judge_valid, vector_alone_valid, backward_valid}
use Rattle.demands.proofs.ValidCalls.{IsLog, compact_valid}
use Rattle.demands.proofs.ValidLists.{multiple_valid, drop_valid, drop_records_valid}
use Rattle.demands.proofs.ValidTexts.{export_valid, import_valid}
use Rattle.demands.proofs.ValidJobs.{ValidJob, write_valid, IsJob, read_valid}
use Rattle.demands.proofs.Jobs.{image_of}
use Rattle.demands.proofs.Answering.{Ended, Accepts, unrefused, accepts}
use Rattle.demands.proofs.Demand1 as refusing

-- ---- what is valid

-- a circuit, a state of it and one of its levels
abbrev pub RunTaken : ℕ → List ℕ → ℕ → ℕ → Type 0
RunTaken n words level x = (gs : List Gate) × Valid n words gs × (x < 2 ^ n) × (level ≤ length gs)

-- a circuit, a vector and a fault of it
abbrev pub CatchTaken : ℕ → List ℕ → ℕ → Fault → Type 0
CatchTaken n words x f = (gs : List Gate) × Valid n words gs × (x < 2 ^ n) × Has n gs f

-- a circuit, a vector and a multiple fault of it
abbrev pub MultipleTaken : ℕ → List ℕ → ℕ → List ℕ → Type 0
MultipleTaken n words x list = (gs : List Gate) × Valid n words gs × (x < 2 ^ n) × ((fs : List Fault) × (list ≡ records fs) × Multiple n gs fs)

-- a circuit and a fault of it
abbrev pub TestTaken : ℕ → List ℕ → Fault → Type 0
TestTaken n words f = (gs : List Gate) × Valid n words gs × Has n gs f

-- a circuit, a set of its vectors and a class
abbrev pub JudgeTaken : ℕ → List ℕ → List ℕ → ℕ → Type 0
JudgeTaken n words xs class =
    (gs : List Gate) × Valid n words gs × (length xs ≤ 2048) × All (λ x. x < 2 ^ n) xs × ((1 ≤ class) × (class ≤ 4))

-- a circuit, a vector and a list of its faults, four words each, or as records
abbrev pub DropTaken : ℕ → List ℕ → ℕ → List ℕ → Type 0
DropTaken n words x list = (gs : List Gate) × Valid n words gs × (x < 2 ^ n) × ((fs : List Fault) × (list ≡ records fs) × All (Has n gs) fs)

abbrev pub DropRecordsTaken : ℕ → List ℕ → ℕ → List Fault → Type 0
DropRecordsTaken n words x fs = (gs : List Gate) × Valid n words gs × (x < 2 ^ n) × All (Has n gs) fs

-- a circuit, and room for a vector a gate and two more
abbrev pub BackwardTaken : ℕ → List ℕ → ℕ → Type 0
BackwardTaken n words room = (gs : List Gate) × Valid n words gs × (length gs + 2 ≤ room)

-- a circuit of at most 12 lines, and room for 2 + floor(log2 S) vectors
abbrev pub CompactTaken : ℕ → List ℕ → ℕ → Type 0
CompactTaken n words room = (gs : List Gate) × Valid n words gs × ((n ≤ 12) × ((log : ℕ) × IsLog n gs log × (2 + log ≤ room)))

-- a circuit, and room for its text
abbrev pub ExportTaken : ℕ → List ℕ → ℕ → Type 0
ExportTaken n words room = (gs : List Gate) × Valid n words gs × (length (real_text n words) ≤ room)

-- a text that reads as a circuit, and room for its gates, three words each
abbrev pub ImportTaken : List ℕ → ℕ → Type 0
ImportTaken text room =
    (n : ℕ) × (words : List ℕ) × (reading text ≡ circuit n words) × ((gs : List Gate) × Valid n words gs × (3 * length gs ≤ room))

-- a job, and room for its image
abbrev pub WriteTaken : ℕ → ℕ → List ℕ → List ℕ → ℕ → Type 0
WriteTaken n classes words xs room =
    (gs : List Gate) × ValidJob n classes words xs gs × (length (image_of n classes (length gs) words xs) ≤ room)

-- ---- the calls

pub forward_takes : Accepts forward.Post (λ κs. told_word) (λ κs (lines, (gates, (level, (state, _)))). RunTaken lines gates.now level state)
forward_takes = accepts refusing.forward_refuses (λ κs a. run_valid _ _ _ _)

pub backward_takes : Accepts backward.Post (λ κs. told_word) (λ κs (lines, (gates, (level, (state, _)))). RunTaken lines gates.now level state)
backward_takes = accepts refusing.backward_refuses (λ κs a. run_valid _ _ _ _)

pub faulty_run_takes : Accepts faulty-run.Post (λ κs. told_word)
    (λ κs (lines, (gates, (vector, (fault, _)))). CatchTaken lines gates.now vector fault)
faulty_run_takes = accepts refusing.faulty_run_refuses (λ κs a. catch_valid _ _ _ _)

pub catches_takes : Accepts catches.Post (λ κs. told_yes) (λ κs (lines, (gates, (vector, (fault, _)))). CatchTaken lines gates.now vector fault)
catches_takes = accepts refusing.catches_refuses (λ κs a. catch_valid _ _ _ _)

pub catches_multiple_takes : Accepts catches-multiple.Post (λ κs. told_yes)
    (λ κs (lines, (gates, (vector, (entries, _)))). MultipleTaken lines gates.now vector entries.now)
catches_multiple_takes = accepts refusing.catches_multiple_refuses (λ κs a. multiple_valid _ _ _ _)

pub test_for_takes : Accepts test-for.Post (λ κs. told_word) (λ κs (lines, (gates, (fault, _))). TestTaken lines gates.now fault)
test_for_takes = accepts refusing.test_for_refuses (λ κs a. test_valid _ _ _)

pub judge_takes : Accepts judge.Post (λ κs. told verdict_values)
    (λ κs (lines, (gates, (vectors, (class, _)))). JudgeTaken lines gates.now vectors.now class)
judge_takes = accepts refusing.judge_refuses (λ κs a. judge_valid _ _ _ _)

pub cover_takes : Accepts cover.Post (λ κs. told verdict_values)
    (λ κs (lines, (gates, (vectors, (class, _)))). JudgeTaken lines gates.now vectors.now class)
cover_takes = accepts refusing.cover_refuses (λ κs a. judge_valid _ _ _ _)

pub with_vector_takes : Accepts coverage-with-vector.Post (λ κs. told_added)
    (λ κs (_, (lines, (gates, (vector, _)))). (gs : List Gate) × Valid lines gates.now gs × (vector < 2 ^ lines))
with_vector_takes = accepts refusing.coverage_with_vector_refuses (λ κs a. vector_alone_valid _ _ _)

pub count_takes : Accepts coverage-count.Post (λ κs. told verdict_values)
    (λ κs (_, (lines, (gates, (class, _)))). (gs : List Gate) × Valid lines gates.now gs × ((1 ≤ class) × (class ≤ 4)))
count_takes = accepts refusing.coverage_count_refuses (λ κs a. count_valid _ _ _)

pub drop_takes : Accepts drop.Post (λ κs. told_word) (λ κs (lines, (gates, (vector, (list, _)))). DropTaken lines gates.now vector list.now)
drop_takes = accepts refusing.drop_refuses (λ κs a. drop_valid _ _ _ _)

pub drop_records_takes : Accepts drop-records.Post (λ κs. told_word)
    (λ κs (lines, (gates, (vector, (list, _)))). DropRecordsTaken lines gates.now vector list.now)
drop_records_takes = accepts refusing.drop_records_refuses (λ κs a. drop_records_valid _ _ _ _)

pub backward_set_takes : Accepts backward-set.Post (λ κs. told_word)
    (λ κs (lines, (gates, (room, _))). BackwardTaken lines gates.now (length room.now))
backward_set_takes = accepts refusing.backward_set_refuses (λ κs a. backward_valid _ _ _)

pub compact_set_takes : Accepts compact-set.Post (λ κs. told_word)
    (λ κs (lines, (gates, (room, _))). CompactTaken lines gates.now (length room.now))
compact_set_takes = accepts refusing.compact_set_refuses (λ κs a. compact_valid _ _ _)

pub export_takes : Accepts export.Post (λ κs. told_word)
    (λ κs (lines, (gates, (out, _))). ExportTaken lines gates.now (length out.now))
export_takes = accepts refusing.export_refuses (λ κs a. export_valid _ _ _)

pub import_takes : Accepts import.Post (λ κs. told imported_values) (λ κs (text, (gates, _)). ImportTaken text.now (length gates.now))
import_takes = accepts refusing.import_refuses (λ κs a. import_valid _ _)

pub write_job_takes : Accepts write-job.Post (λ κs. told_word)
    (λ κs (lines, (classes, (gates, (vectors, (out, _))))). WriteTaken lines classes gates.now vectors.now (length out.now))
write_job_takes = accepts refusing.write_job_refuses (λ κs a. write_valid _ _ _ _ _)

-- bytes, however damaged, are taken exactly if they are the image of a job for which there is room
pub read_job_takes : (call : Ended read-job.Post)
    → let (bytes, (gates, (vectors, _))) = call.inputs in
    All (λ b. b < 256) bytes.now
    → ((values : List ℕ) × (told job_values call.result ≡ answered values)) ↔ IsJob bytes.now (length gates.now) (length vectors.now)
read_job_takes call all =
    let w = unrefused refusing.read_job_refuses call in
    let (bytes, (gates, (vectors, _))) = call.inputs in
    let v = read_valid bytes.now all (length gates.now) (length vectors.now) in
    (λ t. v.0 (w.0 t), λ j. w.1 (v.1 j))

-- and any bytes at all have a report, in a room of 100 bytes
pub report_takes_all : (call : Ended report.Post)
    → let (_, (out, _)) = call.inputs in
    100 ≤ length out.now → (values : List ℕ) × (told_word call.result ≡ answered values)
unfolding report_rows
report_takes_all call wide =
    let (lent, (out, _)) = call.inputs in
    let bytes : List ℕ = lent.now in
    let room : ℕ = length out.now in
    (unrefused refusing.report_refuses call).1
    ((one_rule (ltb room (length (report_text bytes))) 10 0).1 (le-ltb room (length (report_text bytes)) (le_trans (report_fits bytes) wide)))
