-- Demand 1 for the C calls: the struct's `number` and `place` are those of the first broken rule, `number` is 0 exactly if none
-- is broken, and `place` is then 0; and a refusal leaves every lent list as it was.
use mathlib.Core.Path.{refl}
use mathlib.Core.List.{[], ◌∷◌}
use lib.ListN.{length}
use Rattle.circuit.specs.Rules.{circuit_set_rows, circuit_rows, set_rows, vector_rows, level_rows, run_rows}
use Rattle.faults.specs.Rules.{fault_rows}
use Rattle.simulator.specs.Rules.{catch_rows}
use Rattle.fault_test.specs.Rules.{test_rows}
use Rattle.multiple_faults.specs.Rules.{entries_rows, multiple_rows}
use Rattle.judge.specs.Rules.{class_rows, judge_rows}
use Rattle.judge.specs.Judging.{verdict}
use Rattle.dropping.specs.Rules.{record_rows, drop_rows, drop_records_rows}
use Rattle.testsets.specs.Rules.{backward_rows, compact_rows}
use Rattle.real_export.specs.Rules.{export_rows}
use Rattle.real_import.specs.Rules.{import_rows}
use Rattle.job.specs.Rules.{read_rows, write_rows, header_rows, content_rows}
use Rattle.report_text.specs.Rules.{report_rows}
use Rattle.nufsadeem.proofs.nuf_forward.Reads as forward
use Rattle.nufsadeem.proofs.nuf_backward.Reads as backward
use Rattle.nufsadeem.proofs.nuf_catches.Reads as catches
use Rattle.nufsadeem.proofs.nuf_catches_multiple.Reads as catches-multiple
use Rattle.nufsadeem.proofs.nuf_test_for.Reads as test-for
use Rattle.nufsadeem.proofs.nuf_backward_set.Reads as backward-set
use Rattle.nufsadeem.proofs.nuf_compact_set.Reads as compact-set
use Rattle.nufsadeem.proofs.nuf_drop.Reads as drop
use Rattle.nufsadeem.proofs.nuf_drop_records.Reads as drop-records
use Rattle.nufsadeem.proofs.judging.nuf_judge.Reads as judge
use Rattle.nufsadeem.proofs.judging.nuf_cover.Reads as cover
use Rattle.nufsadeem.proofs.jobs.nuf_read_job.Reads as read-job
use Rattle.nufsadeem.proofs.jobs.nuf_write_job.Reads as write-job
use Rattle.nufsadeem.proofs.jobs.nuf_report.Reads as report
use Rattle.nufsadeem.proofs.texts.nuf_export_real.Reads as export
use Rattle.nufsadeem.proofs.texts.nuf_import_real.Reads as import
use Rattle.demands.proofs.Refusing.{in_turn_lem, Leaves, refusal_leaves}
use Rattle.demands.proofs.InC.{RefusesInC, in_c}

-- ---- the calls, each with its table and the numbers of its rules in the order in which they are checked

pub forward_refuses : RefusesInC forward.Post (λ κs r. r.number) (λ κs r. r.place) (λ κs r. r.state ∷ [])
    (λ κs (lines, (gates, (level, (state, _)))). run_rows lines gates.now level state)
    (3 ∷ 5 ∷ 7 ∷ 8 ∷ 12 ∷ [])
unfolding run_rows level_rows circuit_set_rows circuit_rows vector_rows
forward_refuses = in_c 1 (λ κs a. refl) (in_turn_lem _ _ refl) refl (λ κs a r e p. (_, p))

pub backward_refuses : RefusesInC backward.Post (λ κs r. r.number) (λ κs r. r.place) (λ κs r. r.state ∷ [])
    (λ κs (lines, (gates, (level, (state, _)))). run_rows lines gates.now level state)
    (3 ∷ 5 ∷ 7 ∷ 8 ∷ 12 ∷ [])
unfolding run_rows level_rows circuit_set_rows circuit_rows vector_rows
backward_refuses = in_c 1 (λ κs a. refl) (in_turn_lem _ _ refl) refl (λ κs a r e p. (_, p))

pub catches_refuses : RefusesInC catches.Post (λ κs r. r.number) (λ κs r. r.place) (λ κs r. r.caught ∷ [])
    (λ κs (lines, (gates, (vector, (fault, _)))). catch_rows lines gates.now vector fault)
    (3 ∷ 5 ∷ 7 ∷ 8 ∷ 9 ∷ [])
unfolding catch_rows fault_rows circuit_set_rows circuit_rows vector_rows
catches_refuses = in_c 1 (λ κs a. refl) (in_turn_lem _ _ refl) refl (λ κs a r e p. (_, p))

pub catches_multiple_refuses : RefusesInC catches-multiple.Post (λ κs r. r.number) (λ κs r. r.place) (λ κs r. r.caught ∷ [])
    (λ κs (lines, (gates, (vector, (entries, _)))). multiple_rows lines gates.now vector entries.now)
    (3 ∷ 5 ∷ 7 ∷ 8 ∷ 9 ∷ 13 ∷ [])
unfolding multiple_rows entries_rows circuit_set_rows circuit_rows vector_rows
catches_multiple_refuses = in_c 1 (λ κs a. refl) (in_turn_lem _ _ refl) refl (λ κs a r e p. (_, p))

pub test_for_refuses : RefusesInC test-for.Post (λ κs r. r.number) (λ κs r. r.place) (λ κs r. r.vector ∷ [])
    (λ κs (lines, (gates, (fault, _))). test_rows lines gates.now fault)
    (3 ∷ 5 ∷ 7 ∷ 9 ∷ [])
unfolding test_rows fault_rows circuit_set_rows circuit_rows
test_for_refuses = in_c 1 (λ κs a. refl) (in_turn_lem _ _ refl) refl (λ κs a r e p. (_, p))

pub judge_refuses : RefusesInC judge.Post (λ κs r. r.number) (λ κs r. r.place)
    (λ κs r. r.caught ∷ r.total ∷ r.complete ∷ r.first.class ∷ r.first.place ∷ r.first.line ∷ r.first.value ∷ [])
    (λ κs (lines, (gates, (vectors, (class, _)))). judge_rows lines gates.now vectors.now class)
    (3 ∷ 5 ∷ 7 ∷ 8 ∷ 9 ∷ [])
unfolding judge_rows set_rows class_rows circuit_set_rows verdict
judge_refuses = in_c 7 (λ κs a. refl) (in_turn_lem _ _ refl) refl (λ κs a r e p. (_, p))

pub cover_refuses : RefusesInC cover.Post (λ κs r. r.number) (λ κs r. r.place)
    (λ κs r. r.caught ∷ r.total ∷ r.complete ∷ r.first.class ∷ r.first.place ∷ r.first.line ∷ r.first.value ∷ [])
    (λ κs (lines, (gates, (vectors, (class, _)))). judge_rows lines gates.now vectors.now class)
    (3 ∷ 5 ∷ 7 ∷ 8 ∷ 9 ∷ [])
unfolding judge_rows set_rows class_rows circuit_set_rows verdict
cover_refuses = in_c 7 (λ κs a. refl) (in_turn_lem _ _ refl) refl (λ κs a r e p. (_, p))

-- calls that are lent a list to write in

pub drop_refuses : RefusesInC drop.Post (λ κs r. r.number) (λ κs r. r.place) (λ κs r. r.count ∷ [])
    (λ κs (lines, (gates, (vector, (list, _)))). drop_rows lines gates.now vector list.now)
    (3 ∷ 5 ∷ 7 ∷ 8 ∷ 9 ∷ [])
unfolding drop_rows record_rows circuit_set_rows circuit_rows vector_rows
drop_refuses = in_c 1 (λ κs a. refl) (in_turn_lem _ _ refl) refl (λ κs a r e p. (_, p.0))

pub drop_leaves_lem : Leaves drop_refuses.refuses (λ κs (_, (_, (_, (list, _)))). list.now) (λ κs r (_, (_, (_, (list-after, _)))). list-after.now)
drop_leaves_lem = refusal_leaves _ (λ κs a r e p. p.1)

pub drop_records_refuses : RefusesInC drop-records.Post (λ κs r. r.number) (λ κs r. r.place) (λ κs r. r.count ∷ [])
    (λ κs (lines, (gates, (vector, (list, _)))). drop_records_rows lines gates.now vector list.now)
    (3 ∷ 5 ∷ 7 ∷ 8 ∷ 9 ∷ [])
unfolding drop_records_rows record_rows circuit_set_rows circuit_rows vector_rows
drop_records_refuses = in_c 1 (λ κs a. refl) (in_turn_lem _ _ refl) refl (λ κs a r e p. (_, p.0))

pub drop_records_leaves_lem : Leaves drop_records_refuses.refuses
    (λ κs (_, (_, (_, (list, _)))). list.now) (λ κs r (_, (_, (_, (list-after, _)))). list-after.now)
drop_records_leaves_lem = refusal_leaves _ (λ κs a r e p. p.1)

pub backward_set_refuses : RefusesInC backward-set.Post (λ κs r. r.number) (λ κs r. r.place) (λ κs r. r.count ∷ [])
    (λ κs (lines, (gates, (room, _))). backward_rows lines gates.now (length room.now))
    (3 ∷ 5 ∷ 7 ∷ 10 ∷ [])
unfolding backward_rows circuit_set_rows circuit_rows
backward_set_refuses = in_c 1 (λ κs a. refl) (in_turn_lem _ _ refl) refl (λ κs a r e p. (_, p.0))

pub backward_set_leaves_lem : Leaves backward_set_refuses.refuses
    (λ κs (_, (_, (room, _))). room.now) (λ κs r (_, (_, (room-after, _))). room-after.now)
backward_set_leaves_lem = refusal_leaves _ (λ κs a r e p. p.1)

pub compact_set_refuses : RefusesInC compact-set.Post (λ κs r. r.number) (λ κs r. r.place) (λ κs r. r.count ∷ [])
    (λ κs (lines, (gates, (room, _))). compact_rows lines gates.now (length room.now))
    (3 ∷ 5 ∷ 7 ∷ 11 ∷ 10 ∷ [])
unfolding compact_rows circuit_set_rows circuit_rows
compact_set_refuses = in_c 1 (λ κs a. refl) (in_turn_lem _ _ refl) refl (λ κs a r e p. (_, p.0))

pub compact_set_leaves_lem : Leaves compact_set_refuses.refuses (λ κs (_, (_, (room, _))). room.now) (λ κs r (_, (_, (room-after, _))). room-after.now)
compact_set_leaves_lem = refusal_leaves _ (λ κs a r e p. p.1)

pub export_refuses : RefusesInC export.Post (λ κs r. r.number) (λ κs r. r.place) (λ κs r. r.count ∷ [])
    (λ κs (lines, (gates, (out, _))). export_rows lines gates.now (length out.now))
    (3 ∷ 5 ∷ 7 ∷ 10 ∷ [])
unfolding export_rows circuit_set_rows circuit_rows
export_refuses = in_c 1 (λ κs a. refl) (in_turn_lem _ _ refl) refl (λ κs a r e p. (_, p.0))

pub export_leaves_lem : Leaves export_refuses.refuses (λ κs (_, (_, (out, _))). out.now) (λ κs r (_, (_, (out-after, _))). out-after.now)
export_leaves_lem = refusal_leaves _ (λ κs a r e p. p.1)

pub import_refuses : RefusesInC import.Post (λ κs r. r.number) (λ κs r. r.place) (λ κs r. r.lines ∷ r.gates ∷ [])
    (λ κs (text, (gates, _)). import_rows text.now (length gates.now))
    (15 ∷ 14 ∷ 3 ∷ 5 ∷ 7 ∷ 10 ∷ [])
unfolding import_rows circuit_set_rows circuit_rows
import_refuses = in_c 2 (λ κs a. refl) (in_turn_lem _ _ refl) refl (λ κs a r e p. (_, p.0))

pub import_leaves_lem : Leaves import_refuses.refuses (λ κs (_, (gates, _)). gates.now) (λ κs r (_, (gates-after, _)). gates-after.now)
import_leaves_lem = refusal_leaves _ (λ κs a r e p. p.1)

pub read_job_refuses : RefusesInC read-job.Post (λ κs r. r.number) (λ κs r. r.place)
    (λ κs r. r.lines ∷ r.classes ∷ r.gates ∷ r.vectors ∷ [])
    (λ κs (bytes, (gates, (vectors, _))). read_rows bytes.now (length gates.now) (length vectors.now))
    (1 ∷ 2 ∷ 3 ∷ 4 ∷ 5 ∷ 6 ∷ 7 ∷ 8 ∷ 10 ∷ [])
unfolding read_rows header_rows content_rows
read_job_refuses = in_c 4 (λ κs a. refl) (in_turn_lem _ _ refl) refl (λ κs a r e p. (_, p.0))

pub read_job_leaves_gates : Leaves read_job_refuses.refuses (λ κs (_, (gates, _)). gates.now) (λ κs r (_, (gates-after, _)). gates-after.now)
read_job_leaves_gates = refusal_leaves _ (λ κs a r e p. p.1.0)

pub read_job_leaves_vectors : Leaves read_job_refuses.refuses
    (λ κs (_, (_, (vectors, _))). vectors.now) (λ κs r (_, (_, (vectors-after, _))). vectors-after.now)
read_job_leaves_vectors = refusal_leaves _ (λ κs a r e p. p.1.1)

pub write_job_refuses : RefusesInC write-job.Post (λ κs r. r.number) (λ κs r. r.place) (λ κs r. r.count ∷ [])
    (λ κs (lines, (classes, (gates, (vectors, (out, _))))). write_rows lines classes gates.now vectors.now (length out.now))
    (3 ∷ 4 ∷ 5 ∷ 7 ∷ 8 ∷ 10 ∷ [])
unfolding write_rows content_rows
write_job_refuses = in_c 1 (λ κs a. refl) (in_turn_lem _ _ refl) refl (λ κs a r e p. (_, p.0))

pub write_job_leaves : Leaves write_job_refuses.refuses
    (λ κs (_, (_, (_, (_, (out, _))))). out.now) (λ κs r (_, (_, (_, (_, (out-after, _))))). out-after.now)
write_job_leaves = refusal_leaves _ (λ κs a r e p. p.1)

pub report_refuses : RefusesInC report.Post (λ κs r. r.number) (λ κs r. r.place) (λ κs r. r.count ∷ [])
    (λ κs (bytes, (out, _)). report_rows bytes.now (length out.now))
    (10 ∷ [])
unfolding report_rows
report_refuses = in_c 1 (λ κs a. refl) (in_turn_lem _ _ refl) refl (λ κs a r e p. (_, p.0))

pub report_leaves_lem : Leaves report_refuses.refuses (λ κs (_, (out, _)). out.now) (λ κs r (_, (out-after, _)). out-after.now)
report_leaves_lem = refusal_leaves _ (λ κs a r e p. p.1)
