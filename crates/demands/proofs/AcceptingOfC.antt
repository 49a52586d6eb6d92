-- Demand 1 for the C calls, in the words of docs/SCOPE.md: the number is 0 exactly if what the call is given is valid.
use Prim.Native.Nat.{ℕ, ◌≤◌, ◌<◌}
use mathlib.Core.Path.{◌≡◌}
use mathlib.Core.Logic.{◌↔◌}
use mathlib.Core.List.{List}
use native.Mathlib.Nat.{le_trans}
use lib.ListN.{length}
use lib.Dec.{ltb}
use borrow.Author.Tests.{le-ltb}
use Rattle.basics.specs.Lists.{All}
use Rattle.nufsadeem.proofs.nuf_forward.Reads as forward
use Rattle.nufsadeem.proofs.nuf_backward.Reads as backward
use Rattle.nufsadeem.proofs.nuf_catches.Reads as catches
use Rattle.nufsadeem.proofs.nuf_catches_multiple.Reads as catches-multiple
use Rattle.nufsadeem.proofs.nuf_test_for.Reads as test-for
use Rattle.nufsadeem.proofs.nuf_backward_set.Reads as backward-set
use Rattle.nufsadeem.proofs.nuf_compact_set.Reads as compact-set
use Rattle.nufsadeem.proofs.nuf_drop.Reads as drop
use Rattle.nufsadeem.proofs.nuf_drop_records.Reads as drop-records
use Rattle.nufsadeem.proofs.judging.nuf_judge.Reads as judge
use Rattle.nufsadeem.proofs.judging.nuf_cover.Reads as cover
use Rattle.nufsadeem.proofs.jobs.nuf_read_job.Reads as read-job
use Rattle.nufsadeem.proofs.jobs.nuf_write_job.Reads as write-job
use Rattle.nufsadeem.proofs.jobs.nuf_report.Reads as report
use Rattle.nufsadeem.proofs.texts.nuf_export_real.Reads as export
use Rattle.nufsadeem.proofs.texts.nuf_import_real.Reads as import
use Rattle.report_text.specs.Report.{report_text}
use Rattle.report_text.specs.Rules.{report_rows}
use Rattle.report_text.proofs.ReportLaws.{report_fits}
use Rattle.demands.proofs.ValidRows.{one_rule}
use Rattle.demands.proofs.ValidCalls.{run_valid, catch_valid, test_valid, judge_valid, backward_valid, compact_valid}
use Rattle.demands.proofs.ValidLists.{multiple_valid, drop_valid, drop_records_valid}
use Rattle.demands.proofs.ValidTexts.{export_valid, import_valid}
use Rattle.demands.proofs.ValidJobs.{write_valid, IsJob, read_valid}
use Rattle.demands.proofs.Accepting.{RunTaken, CatchTaken, MultipleTaken, TestTaken, JudgeTaken, DropTaken, DropRecordsTaken}
use Rattle.demands.proofs.Accepting.{BackwardTaken, CompactTaken, ExportTaken, ImportTaken, WriteTaken}
use Rattle.demands.proofs.Answering.{Ended}
use Rattle.demands.proofs.InC.{AcceptsInC, unrefused_in_c, accepts_in_c}
use Rattle.demands.proofs.Demand1OfC as refusing

pub forward_takes : AcceptsInC forward.Post (λ κs r. r.number) (λ κs (lines, (gates, (level, (state, _)))). RunTaken lines gates.now level state)
forward_takes = accepts_in_c refusing.forward_refuses (λ κs a. run_valid _ _ _ _)

pub backward_takes : AcceptsInC backward.Post (λ κs r. r.number) (λ κs (lines, (gates, (level, (state, _)))). RunTaken lines gates.now level state)
backward_takes = accepts_in_c refusing.backward_refuses (λ κs a. run_valid _ _ _ _)

pub catches_takes : AcceptsInC catches.Post (λ κs r. r.number)
    (λ κs (lines, (gates, (vector, (fault, _)))). CatchTaken lines gates.now vector fault)
catches_takes = accepts_in_c refusing.catches_refuses (λ κs a. catch_valid _ _ _ _)

pub catches_multiple_takes : AcceptsInC catches-multiple.Post (λ κs r. r.number)
    (λ κs (lines, (gates, (vector, (entries, _)))). MultipleTaken lines gates.now vector entries.now)
catches_multiple_takes = accepts_in_c refusing.catches_multiple_refuses (λ κs a. multiple_valid _ _ _ _)

pub test_for_takes : AcceptsInC test-for.Post (λ κs r. r.number) (λ κs (lines, (gates, (fault, _))). TestTaken lines gates.now fault)
test_for_takes = accepts_in_c refusing.test_for_refuses (λ κs a. test_valid _ _ _)

pub judge_takes : AcceptsInC judge.Post (λ κs r. r.number)
    (λ κs (lines, (gates, (vectors, (class, _)))). JudgeTaken lines gates.now vectors.now class)
judge_takes = accepts_in_c refusing.judge_refuses (λ κs a. judge_valid _ _ _ _)

pub cover_takes : AcceptsInC cover.Post (λ κs r. r.number)
    (λ κs (lines, (gates, (vectors, (class, _)))). JudgeTaken lines gates.now vectors.now class)
cover_takes = accepts_in_c refusing.cover_refuses (λ κs a. judge_valid _ _ _ _)

pub drop_takes : AcceptsInC drop.Post (λ κs r. r.number) (λ κs (lines, (gates, (vector, (list, _)))). DropTaken lines gates.now vector list.now)
drop_takes = accepts_in_c refusing.drop_refuses (λ κs a. drop_valid _ _ _ _)

pub drop_records_takes : AcceptsInC drop-records.Post (λ κs r. r.number)
    (λ κs (lines, (gates, (vector, (list, _)))). DropRecordsTaken lines gates.now vector list.now)
drop_records_takes = accepts_in_c refusing.drop_records_refuses (λ κs a. drop_records_valid _ _ _ _)

pub backward_set_takes : AcceptsInC backward-set.Post (λ κs r. r.number)
    (λ κs (lines, (gates, (room, _))). BackwardTaken lines gates.now (length room.now))
backward_set_takes = accepts_in_c refusing.backward_set_refuses (λ κs a. backward_valid _ _ _)

pub compact_set_takes : AcceptsInC compact-set.Post (λ κs r. r.number)
    (λ κs (lines, (gates, (room, _))). CompactTaken lines gates.now (length room.now))
compact_set_takes = accepts_in_c refusing.compact_set_refuses (λ κs a. compact_valid _ _ _)

pub export_takes : AcceptsInC export.Post (λ κs r. r.number)
    (λ κs (lines, (gates, (out, _))). ExportTaken lines gates.now (length out.now))
export_takes = accepts_in_c refusing.export_refuses (λ κs a. export_valid _ _ _)

pub import_takes : AcceptsInC import.Post (λ κs r. r.number) (λ κs (text, (gates, _)). ImportTaken text.now (length gates.now))
import_takes = accepts_in_c refusing.import_refuses (λ κs a. import_valid _ _)

pub write_job_takes : AcceptsInC write-job.Post (λ κs r. r.number)
    (λ κs (lines, (classes, (gates, (vectors, (out, _))))). WriteTaken lines classes gates.now vectors.now (length out.now))
write_job_takes = accepts_in_c refusing.write_job_refuses (λ κs a. write_valid _ _ _ _ _)

pub read_job_takes : (call : Ended read-job.Post)
    → let (bytes, (gates, (vectors, _))) = call.inputs in
    All (λ b. b < 256) bytes.now → (call.result.number ≡ 0) ↔ IsJob bytes.now (length gates.now) (length vectors.now)
read_job_takes call all =
    let w = unrefused_in_c refusing.read_job_refuses call in
    let (bytes, (gates, (vectors, _))) = call.inputs in
    let v = read_valid bytes.now all (length gates.now) (length vectors.now) in
    (λ t. v.0 (w.0 t), λ j. w.1 (v.1 j))

pub report_takes_all : (call : Ended report.Post)
    → let (_, (out, _)) = call.inputs in
    100 ≤ length out.now → call.result.number ≡ 0
unfolding report_rows
report_takes_all call wide =
    let (lent, (out, _)) = call.inputs in
    let bytes : List ℕ = lent.now in
    let room : ℕ = length out.now in
    (unrefused_in_c refusing.report_refuses call).1
    ((one_rule (ltb room (length (report_text bytes))) 10 0).1 (le-ltb room (length (report_text bytes)) (le_trans (report_fits bytes) wide)))
