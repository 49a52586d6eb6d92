-- Demand 1: each call answers or refuses; it refuses with number k and place p exactly if rule k is the first broken one, in the
-- order of `Refusing.order`, and p is its place; and a refusal leaves every lent byte, vector and record as it was.
use mathlib.Core.Path.{refl}
use mathlib.Core.List.{[], ◌∷◌, ◌++◌}
use lib.ListN.{length}
use Rattle.refusals.specs.Answers.{told, told_word, told_yes}
use Rattle.circuit.specs.Rules.{circuit_set_rows, circuit_rows, set_rows, vector_rows, level_rows, run_rows}
use Rattle.circuit.proofs.forward.Reads as forward
use Rattle.circuit.proofs.backward.Reads as backward
use Rattle.faults.specs.Rules.{fault_rows}
use Rattle.simulator.specs.Rules.{catch_rows}
use Rattle.fault_test.specs.Rules.{test_rows}
use Rattle.multiple_faults.specs.Rules.{entries_rows, multiple_rows}
use Rattle.simulator.proofs.faulty_run.Reads as faulty-run
use Rattle.simulator.proofs.catches.Reads as catches
use Rattle.multiple_faults.proofs.catches_multiple.Reads as catches-multiple
use Rattle.fault_test.proofs.test_for.Reads as test-for
use Rattle.judge.specs.Rules.{class_rows, judge_rows, count_rows}
use Rattle.judge.specs.Judging.{verdict}
use Rattle.judge.specs.Answers.{verdict_values}
use Rattle.judge.specs.Added.{told_added, handed_back}
use Rattle.judge.proofs.judge.Reads as judge
use Rattle.judge.proofs.coverage.Coverage.with_vector.Reads as coverage-with-vector
use Rattle.judge.proofs.coverage.Coverage.count.Reads as coverage-count
use Rattle.judge.proofs.covering.cover.Reads as cover
use Rattle.dropping.specs.Rules.{record_rows, drop_rows, drop_records_rows}
use Rattle.dropping.proofs.drop.Reads as drop
use Rattle.dropping.proofs.drop_records.Reads as drop-records
use Rattle.testsets.specs.Rules.{backward_rows, compact_rows}
use Rattle.testsets.proofs.backward_set.Reads as backward-set
use Rattle.testsets.proofs.compact_set.Reads as compact-set
use Rattle.real_export.specs.Rules.{export_rows}
use Rattle.real_export.proofs.export.Reads as export
use Rattle.real_import.specs.Rules.{import_rows}
use Rattle.real_import.specs.Answers.{imported_values}
use Rattle.real_import.proofs.import.Reads as import
use Rattle.job.specs.Rules.{read_rows, write_rows, header_rows, content_rows}
use Rattle.job.specs.Answers.{job_values}
use Rattle.job.proofs.read_job.Reads as read-job
use Rattle.job.proofs.write_job.Reads as write-job
use Rattle.report_text.specs.Rules.{report_rows}
use Rattle.report_text.proofs.report.Reads as report
use Rattle.demands.proofs.FirstBroken.{exactly}
use Rattle.demands.proofs.Refusing.{in_turn_lem, Refuses, Leaves, refusal_leaves}

-- ---- the calls, each with its table and the numbers of its rules in the order in which they are checked

-- circuit
pub forward_refuses : Refuses forward.Post (λ κs. told_word)
    (λ κs (lines, (gates, (level, (state, _)))). run_rows lines gates.now level state)
    (3 ∷ 5 ∷ 7 ∷ 8 ∷ 12 ∷ [])
unfolding run_rows level_rows circuit_set_rows circuit_rows vector_rows
forward_refuses = record { its_numbers = λ κs a. refl; in_order = in_turn_lem _ _ refl; exact = λ κs a r e p. (_, exactly _ _ _ p) }

pub backward_refuses : Refuses backward.Post (λ κs. told_word)
    (λ κs (lines, (gates, (level, (state, _)))). run_rows lines gates.now level state)
    (3 ∷ 5 ∷ 7 ∷ 8 ∷ 12 ∷ [])
unfolding run_rows level_rows circuit_set_rows circuit_rows vector_rows
backward_refuses = record { its_numbers = λ κs a. refl; in_order = in_turn_lem _ _ refl; exact = λ κs a r e p. (_, exactly _ _ _ p) }

-- simulator
pub faulty_run_refuses : Refuses faulty-run.Post (λ κs. told_word)
    (λ κs (lines, (gates, (vector, (fault, _)))). catch_rows lines gates.now vector fault)
    (3 ∷ 5 ∷ 7 ∷ 8 ∷ 9 ∷ [])
unfolding catch_rows fault_rows circuit_set_rows circuit_rows vector_rows
faulty_run_refuses = record { its_numbers = λ κs a. refl; in_order = in_turn_lem _ _ refl; exact = λ κs a r e p. (_, exactly _ _ _ p) }

pub catches_refuses : Refuses catches.Post (λ κs. told_yes)
    (λ κs (lines, (gates, (vector, (fault, _)))). catch_rows lines gates.now vector fault)
    (3 ∷ 5 ∷ 7 ∷ 8 ∷ 9 ∷ [])
unfolding catch_rows fault_rows circuit_set_rows circuit_rows vector_rows
catches_refuses = record { its_numbers = λ κs a. refl; in_order = in_turn_lem _ _ refl; exact = λ κs a r e p. (_, exactly _ _ _ p) }

pub catches_multiple_refuses : Refuses catches-multiple.Post (λ κs. told_yes)
    (λ κs (lines, (gates, (vector, (entries, _)))). multiple_rows lines gates.now vector entries.now)
    (3 ∷ 5 ∷ 7 ∷ 8 ∷ 9 ∷ 13 ∷ [])
unfolding multiple_rows entries_rows circuit_set_rows circuit_rows vector_rows
catches_multiple_refuses = record { its_numbers = λ κs a. refl; in_order = in_turn_lem _ _ refl; exact = λ κs a r e p. (_, exactly _ _ _ p) }

pub test_for_refuses : Refuses test-for.Post (λ κs. told_word)
    (λ κs (lines, (gates, (fault, _))). test_rows lines gates.now fault)
    (3 ∷ 5 ∷ 7 ∷ 9 ∷ [])
unfolding test_rows fault_rows circuit_set_rows circuit_rows
test_for_refuses = record { its_numbers = λ κs a. refl; in_order = in_turn_lem _ _ refl; exact = λ κs a r e p. (_, exactly _ _ _ p) }

-- judge
pub judge_refuses : Refuses judge.Post (λ κs. told verdict_values)
    (λ κs (lines, (gates, (vectors, (class, _)))). judge_rows lines gates.now vectors.now class)
    (3 ∷ 5 ∷ 7 ∷ 8 ∷ 9 ∷ [])
unfolding judge_rows set_rows class_rows circuit_set_rows verdict
judge_refuses = record { its_numbers = λ κs a. refl; in_order = in_turn_lem _ _ refl; exact = λ κs a r e p. (_, exactly _ _ _ p) }

pub coverage_with_vector_refuses : Refuses coverage-with-vector.Post (λ κs. told_added)
    (λ κs (_, (lines, (gates, (vector, _)))). circuit_rows lines gates.now ++ vector_rows lines vector)
    (3 ∷ 5 ∷ 7 ∷ 8 ∷ [])
unfolding circuit_set_rows circuit_rows vector_rows
coverage_with_vector_refuses = record { its_numbers = λ κs a. refl; in_order = in_turn_lem _ _ refl; exact = λ κs a r e p. (_, exactly _ _ _ p.0) }

-- its refusal hands the same coverage back
pub coverage_with_vector_leaves : Leaves coverage_with_vector_refuses (λ κs (coverage, _). coverage) (λ κs r e. handed_back r)
coverage_with_vector_leaves = refusal_leaves _ (λ κs a r e p. p.1)

pub coverage_count_refuses : Refuses coverage-count.Post (λ κs. told verdict_values)
    (λ κs (_, (lines, (gates, (class, _)))). count_rows lines gates.now class)
    (3 ∷ 5 ∷ 7 ∷ 9 ∷ [])
unfolding count_rows class_rows circuit_set_rows circuit_rows verdict
coverage_count_refuses = record { its_numbers = λ κs a. refl; in_order = in_turn_lem _ _ refl; exact = λ κs a r e p. (_, exactly _ _ _ p) }

pub cover_refuses : Refuses cover.Post (λ κs. told verdict_values)
    (λ κs (lines, (gates, (vectors, (class, _)))). judge_rows lines gates.now vectors.now class)
    (3 ∷ 5 ∷ 7 ∷ 8 ∷ 9 ∷ [])
unfolding judge_rows set_rows class_rows circuit_set_rows verdict
cover_refuses = record { its_numbers = λ κs a. refl; in_order = in_turn_lem _ _ refl; exact = λ κs a r e p. (_, exactly _ _ _ p) }

-- dropping
pub drop_refuses : Refuses drop.Post (λ κs. told_word)
    (λ κs (lines, (gates, (vector, (list, _)))). drop_rows lines gates.now vector list.now)
    (3 ∷ 5 ∷ 7 ∷ 8 ∷ 9 ∷ [])
unfolding drop_rows record_rows circuit_set_rows circuit_rows vector_rows
drop_refuses = record { its_numbers = λ κs a. refl; in_order = in_turn_lem _ _ refl; exact = λ κs a r e p. (_, exactly _ _ _ p.0) }

pub drop_leaves_lem : Leaves drop_refuses (λ κs (_, (_, (_, (list, _)))). list.now) (λ κs r (_, (_, (_, (list-after, _)))). list-after.now)
drop_leaves_lem = refusal_leaves _ (λ κs a r e p. p.1)

pub drop_records_refuses : Refuses drop-records.Post (λ κs. told_word)
    (λ κs (lines, (gates, (vector, (list, _)))). drop_records_rows lines gates.now vector list.now)
    (3 ∷ 5 ∷ 7 ∷ 8 ∷ 9 ∷ [])
unfolding drop_records_rows record_rows circuit_set_rows circuit_rows vector_rows
drop_records_refuses = record { its_numbers = λ κs a. refl; in_order = in_turn_lem _ _ refl; exact = λ κs a r e p. (_, exactly _ _ _ p.0) }

pub drop_records_leaves_lem : Leaves drop_records_refuses
    (λ κs (_, (_, (_, (list, _)))). list.now) (λ κs r (_, (_, (_, (list-after, _)))). list-after.now)
drop_records_leaves_lem = refusal_leaves _ (λ κs a r e p. p.1)

-- testsets
pub backward_set_refuses : Refuses backward-set.Post (λ κs. told_word)
    (λ κs (lines, (gates, (room, _))). backward_rows lines gates.now (length room.now))
    (3 ∷ 5 ∷ 7 ∷ 10 ∷ [])
unfolding backward_rows circuit_set_rows circuit_rows
backward_set_refuses = record { its_numbers = λ κs a. refl; in_order = in_turn_lem _ _ refl; exact = λ κs a r e p. (_, exactly _ _ _ p.0) }

pub backward_set_leaves_lem : Leaves backward_set_refuses (λ κs (_, (_, (room, _))). room.now) (λ κs r (_, (_, (room-after, _))). room-after.now)
backward_set_leaves_lem = refusal_leaves _ (λ κs a r e p. p.1)

pub compact_set_refuses : Refuses compact-set.Post (λ κs. told_word)
    (λ κs (lines, (gates, (room, _))). compact_rows lines gates.now (length room.now))
    (3 ∷ 5 ∷ 7 ∷ 11 ∷ 10 ∷ [])
unfolding compact_rows circuit_set_rows circuit_rows
compact_set_refuses = record { its_numbers = λ κs a. refl; in_order = in_turn_lem _ _ refl; exact = λ κs a r e p. (_, exactly _ _ _ p.0) }

pub compact_set_leaves_lem : Leaves compact_set_refuses (λ κs (_, (_, (room, _))). room.now) (λ κs r (_, (_, (room-after, _))). room-after.now)
compact_set_leaves_lem = refusal_leaves _ (λ κs a r e p. p.1)

-- real_export
pub export_refuses : Refuses export.Post (λ κs. told_word)
    (λ κs (lines, (gates, (out, _))). export_rows lines gates.now (length out.now))
    (3 ∷ 5 ∷ 7 ∷ 10 ∷ [])
unfolding export_rows circuit_set_rows circuit_rows
export_refuses = record { its_numbers = λ κs a. refl; in_order = in_turn_lem _ _ refl; exact = λ κs a r e p. (_, exactly _ _ _ p.0) }

pub export_leaves_lem : Leaves export_refuses (λ κs (_, (_, (out, _))). out.now) (λ κs r (_, (_, (out-after, _))). out-after.now)
export_leaves_lem = refusal_leaves _ (λ κs a r e p. p.1)

-- real_import
pub import_refuses : Refuses import.Post (λ κs. told imported_values)
    (λ κs (text, (gates, _)). import_rows text.now (length gates.now))
    (15 ∷ 14 ∷ 3 ∷ 5 ∷ 7 ∷ 10 ∷ [])
unfolding import_rows circuit_set_rows circuit_rows
import_refuses = record { its_numbers = λ κs a. refl; in_order = in_turn_lem _ _ refl; exact = λ κs a r e p. (_, exactly _ _ _ p.0) }

pub import_leaves_lem : Leaves import_refuses (λ κs (_, (gates, _)). gates.now) (λ κs r (_, (gates-after, _)). gates-after.now)
import_leaves_lem = refusal_leaves _ (λ κs a r e p. p.1)

-- job
pub read_job_refuses : Refuses read-job.Post (λ κs. told job_values)
    (λ κs (bytes, (gates, (vectors, _))). read_rows bytes.now (length gates.now) (length vectors.now))
    (1 ∷ 2 ∷ 3 ∷ 4 ∷ 5 ∷ 6 ∷ 7 ∷ 8 ∷ 10 ∷ [])
unfolding read_rows header_rows content_rows
read_job_refuses = record { its_numbers = λ κs a. refl; in_order = in_turn_lem _ _ refl; exact = λ κs a r e p. (_, exactly _ _ _ p.0) }

pub read_job_leaves_gates : Leaves read_job_refuses (λ κs (_, (gates, _)). gates.now) (λ κs r (_, (gates-after, _)). gates-after.now)
read_job_leaves_gates = refusal_leaves _ (λ κs a r e p. p.1.0)

pub read_job_leaves_vectors : Leaves read_job_refuses
    (λ κs (_, (_, (vectors, _))). vectors.now) (λ κs r (_, (_, (vectors-after, _))). vectors-after.now)
read_job_leaves_vectors = refusal_leaves _ (λ κs a r e p. p.1.1)

pub write_job_refuses : Refuses write-job.Post (λ κs. told_word)
    (λ κs (lines, (classes, (gates, (vectors, (out, _))))). write_rows lines classes gates.now vectors.now (length out.now))
    (3 ∷ 4 ∷ 5 ∷ 7 ∷ 8 ∷ 10 ∷ [])
unfolding write_rows content_rows
write_job_refuses = record { its_numbers = λ κs a. refl; in_order = in_turn_lem _ _ refl; exact = λ κs a r e p. (_, exactly _ _ _ p.0) }

pub write_job_leaves : Leaves write_job_refuses
    (λ κs (_, (_, (_, (_, (out, _))))). out.now) (λ κs r (_, (_, (_, (_, (out-after, _))))). out-after.now)
write_job_leaves = refusal_leaves _ (λ κs a r e p. p.1)

-- report_text: any bytes have a text, so the one rule is its room
pub report_refuses : Refuses report.Post (λ κs. told_word)
    (λ κs (bytes, (out, _)). report_rows bytes.now (length out.now))
    (10 ∷ [])
unfolding report_rows
report_refuses = record { its_numbers = λ κs a. refl; in_order = in_turn_lem _ _ refl; exact = λ κs a r e p. (_, exactly _ _ _ p.0) }

pub report_leaves_lem : Leaves report_refuses (λ κs (_, (out, _)). out.now) (λ κs r (_, (out-after, _)). out-after.now)
report_leaves_lem = refusal_leaves _ (λ κs a r e p. p.1)
