-- The rules of each call in words. `Asks call rules`: it refuses with number k and place p exactly if rule k is the first of them that is given, with
-- place p, and answers exactly if all are kept.
use lib.ListN.{length}
use Rattle.demands.proofs.RuleTables.{run_asked, catch_asked, multiple_asked, test_asked, judge_asked, add_asked, count_asked}
use Rattle.demands.proofs.RuleTables.{drop_asked, drop_records_asked, backward_set_asked, compact_set_asked, read_asked, write_asked, report_asked}
use Rattle.demands.proofs.RuleTables.{export_asked, import_asked}
use Rattle.demands.proofs.RuleTables.{run_spelled, catch_spelled, multiple_spelled, test_spelled, judge_spelled, add_spelled, count_spelled}
use Rattle.demands.proofs.RuleTables.{drop_spelled, drop_records_spelled, backward_set_spelled, compact_set_spelled}
use Rattle.demands.proofs.RuleTables.{read_spelled, write_spelled, report_spelled, export_spelled, import_spelled}
use Rattle.demands.proofs.RulesTold.{Asks, by_words}
use Rattle.demands.proofs.Demand1 as calls

-- circuit

pub forward_asks : Asks calls.forward_refuses (λ κs (lines, (gates, (level, (state, _)))). run_asked lines gates.now level state)
forward_asks = by_words calls.forward_refuses (λ κs a. run_spelled _ _ _ _)

pub backward_asks : Asks calls.backward_refuses (λ κs (lines, (gates, (level, (state, _)))). run_asked lines gates.now level state)
backward_asks = by_words calls.backward_refuses (λ κs a. run_spelled _ _ _ _)

-- simulator

pub faulty_run_asks : Asks calls.faulty_run_refuses (λ κs (lines, (gates, (vector, (fault, _)))). catch_asked lines gates.now vector fault)
faulty_run_asks = by_words calls.faulty_run_refuses (λ κs a. catch_spelled _ _ _ _)

pub catches_asks : Asks calls.catches_refuses (λ κs (lines, (gates, (vector, (fault, _)))). catch_asked lines gates.now vector fault)
catches_asks = by_words calls.catches_refuses (λ κs a. catch_spelled _ _ _ _)

pub catches_multiple_asks : Asks calls.catches_multiple_refuses
    (λ κs (lines, (gates, (vector, (entries, _)))). multiple_asked lines gates.now vector entries.now)
catches_multiple_asks = by_words calls.catches_multiple_refuses (λ κs a. multiple_spelled _ _ _ _)

pub test_for_asks : Asks calls.test_for_refuses (λ κs (lines, (gates, (fault, _))). test_asked lines gates.now fault)
test_for_asks = by_words calls.test_for_refuses (λ κs a. test_spelled _ _ _)

-- judge

pub judge_asks : Asks calls.judge_refuses (λ κs (lines, (gates, (vectors, (class, _)))). judge_asked lines gates.now vectors.now class)
judge_asks = by_words calls.judge_refuses (λ κs a. judge_spelled _ _ _ _)

pub coverage_with_vector_asks : Asks calls.coverage_with_vector_refuses (λ κs (_, (lines, (gates, (vector, _)))). add_asked lines gates.now vector)
coverage_with_vector_asks = by_words calls.coverage_with_vector_refuses (λ κs a. add_spelled _ _ _)

pub coverage_count_asks : Asks calls.coverage_count_refuses (λ κs (_, (lines, (gates, (class, _)))). count_asked lines gates.now class)
coverage_count_asks = by_words calls.coverage_count_refuses (λ κs a. count_spelled _ _ _)

pub cover_asks : Asks calls.cover_refuses (λ κs (lines, (gates, (vectors, (class, _)))). judge_asked lines gates.now vectors.now class)
cover_asks = by_words calls.cover_refuses (λ κs a. judge_spelled _ _ _ _)

-- dropping

pub drop_asks : Asks calls.drop_refuses (λ κs (lines, (gates, (vector, (list, _)))). drop_asked lines gates.now vector list.now)
drop_asks = by_words calls.drop_refuses (λ κs a. drop_spelled _ _ _ _)

pub drop_records_asks : Asks calls.drop_records_refuses
    (λ κs (lines, (gates, (vector, (list, _)))). drop_records_asked lines gates.now vector list.now)
drop_records_asks = by_words calls.drop_records_refuses (λ κs a. drop_records_spelled _ _ _ _)

-- testsets

pub backward_set_asks : Asks calls.backward_set_refuses (λ κs (lines, (gates, (room, _))). backward_set_asked lines gates.now (length room.now))
backward_set_asks = by_words calls.backward_set_refuses (λ κs a. backward_set_spelled _ _ _)

pub compact_set_asks : Asks calls.compact_set_refuses (λ κs (lines, (gates, (room, _))). compact_set_asked lines gates.now (length room.now))
compact_set_asks = by_words calls.compact_set_refuses (λ κs a. compact_set_spelled _ _ _)

-- real_export

pub export_asks : Asks calls.export_refuses (λ κs (lines, (gates, (out, _))). export_asked lines gates.now (length out.now))
export_asks = by_words calls.export_refuses (λ κs a. export_spelled _ _ _)

-- real_import

pub import_asks : Asks calls.import_refuses (λ κs (text, (gates, _)). import_asked text.now (length gates.now))
import_asks = by_words calls.import_refuses (λ κs a. import_spelled _ _)

-- job

pub read_job_asks : Asks calls.read_job_refuses
    (λ κs (bytes, (gates, (vectors, _))). read_asked bytes.now (length gates.now) (length vectors.now))
read_job_asks = by_words calls.read_job_refuses (λ κs a. read_spelled _ _ _)

pub write_job_asks : Asks calls.write_job_refuses
    (λ κs (lines, (classes, (gates, (vectors, (out, _))))). write_asked lines classes gates.now vectors.now (length out.now))
write_job_asks = by_words calls.write_job_refuses (λ κs a. write_spelled _ _ _ _ _)

-- report_text

pub report_asks : Asks calls.report_refuses (λ κs (bytes, (out, _)). report_asked bytes.now (length out.now))
report_asks = by_words calls.report_refuses (λ κs a. report_spelled _ _)
