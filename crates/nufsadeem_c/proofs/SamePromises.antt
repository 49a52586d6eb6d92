-- What is linked promises just what `nufsadeem` does: of each call, what both contracts say of its inputs, its result and the memory that it leaves is one
-- and the same. So what is said of the calls of `nufsadeem`, in `demands` above all, holds of the exports.
use Rattle.std.proofs.Common.{◌≡◌, refl}
use Rattle.nufsadeem.proofs.nuf_forward.Reads as forward
use Rattle.nufsadeem_c.proofs.nuf_forward.Reads as forward-exported
use Rattle.nufsadeem.proofs.nuf_backward.Reads as backward
use Rattle.nufsadeem_c.proofs.nuf_backward.Reads as backward-exported
use Rattle.nufsadeem.proofs.nuf_catches.Reads as catches
use Rattle.nufsadeem_c.proofs.nuf_catches.Reads as catches-exported
use Rattle.nufsadeem.proofs.nuf_catches_multiple.Reads as catches-multiple
use Rattle.nufsadeem_c.proofs.nuf_catches_multiple.Reads as catches-multiple-exported
use Rattle.nufsadeem.proofs.nuf_test_for.Reads as test-for
use Rattle.nufsadeem_c.proofs.nuf_test_for.Reads as test-for-exported
use Rattle.nufsadeem.proofs.nuf_backward_set.Reads as backward-set
use Rattle.nufsadeem_c.proofs.nuf_backward_set.Reads as backward-set-exported
use Rattle.nufsadeem.proofs.nuf_compact_set.Reads as compact-set
use Rattle.nufsadeem_c.proofs.nuf_compact_set.Reads as compact-set-exported
use Rattle.nufsadeem.proofs.nuf_drop.Reads as drop
use Rattle.nufsadeem_c.proofs.nuf_drop.Reads as drop-exported
use Rattle.nufsadeem.proofs.nuf_drop_records.Reads as drop-records
use Rattle.nufsadeem_c.proofs.nuf_drop_records.Reads as drop-records-exported
use Rattle.nufsadeem.proofs.judging.nuf_judge.Reads as judge
use Rattle.nufsadeem_c.proofs.judging.nuf_judge.Reads as judge-exported
use Rattle.nufsadeem.proofs.judging.nuf_cover.Reads as cover
use Rattle.nufsadeem_c.proofs.judging.nuf_cover.Reads as cover-exported
use Rattle.nufsadeem.proofs.jobs.nuf_read_job.Reads as read-job
use Rattle.nufsadeem_c.proofs.jobs.nuf_read_job.Reads as read-job-exported
use Rattle.nufsadeem.proofs.jobs.nuf_write_job.Reads as write-job
use Rattle.nufsadeem_c.proofs.jobs.nuf_write_job.Reads as write-job-exported
use Rattle.nufsadeem.proofs.jobs.nuf_report.Reads as report
use Rattle.nufsadeem_c.proofs.jobs.nuf_report.Reads as report-exported
use Rattle.nufsadeem.proofs.texts.nuf_import_real.Reads as import-real
use Rattle.nufsadeem_c.proofs.texts.nuf_import_real.Reads as import-real-exported
use Rattle.nufsadeem.proofs.texts.nuf_export_real.Reads as export-real
use Rattle.nufsadeem_c.proofs.texts.nuf_export_real.Reads as export-real-exported

pub forward_same : forward-exported.Post ≡ forward.Post
forward_same = refl

pub backward_same : backward-exported.Post ≡ backward.Post
backward_same = refl

pub catches_same : catches-exported.Post ≡ catches.Post
catches_same = refl

pub catches_multiple_same : catches-multiple-exported.Post ≡ catches-multiple.Post
catches_multiple_same = refl

pub test_for_same : test-for-exported.Post ≡ test-for.Post
test_for_same = refl

pub backward_set_same : backward-set-exported.Post ≡ backward-set.Post
backward_set_same = refl

pub compact_set_same : compact-set-exported.Post ≡ compact-set.Post
compact_set_same = refl

pub drop_same : drop-exported.Post ≡ drop.Post
drop_same = refl

pub drop_records_same : drop-records-exported.Post ≡ drop-records.Post
drop_records_same = refl

pub judge_same : judge-exported.Post ≡ judge.Post
judge_same = refl

pub cover_same : cover-exported.Post ≡ cover.Post
cover_same = refl

pub read_job_same : read-job-exported.Post ≡ read-job.Post
read_job_same = refl

pub write_job_same : write-job-exported.Post ≡ write-job.Post
write_job_same = refl

pub report_same : report-exported.Post ≡ report.Post
report_same = refl

pub import_real_same : import-real-exported.Post ≡ import-real.Post
import_real_same = refl

pub export_real_same : export-real-exported.Post ≡ export-real.Post
export_real_same = refl
