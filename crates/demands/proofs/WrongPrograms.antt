-- The seven wrong programs. Each gives on a named input an answer that its call's contract rules out. What is promised there is found
-- by computing.
use Prim.Native.Nat.{ℕ}
use mathlib.Core.Path.{◌≡◌, refl, sym, ap, ◌∙◌}
use mathlib.Core.Logic.{◌≢◌}
use mathlib.Core.List.{List, [], ◌∷◌, ◌++◌}
use native.Mathlib.Omega.{arith}
use lib.ListN.{length, drop}
use Rattle.std.specs.Prelude.{Result, Ok, Err, Some, None}
use Rattle.refusals.specs.Answers.{told}
use Rattle.basics.specs.Lists.{up_from, keep, each, some}
use Rattle.basics.specs.Sums.{sum_from}
use Rattle.words.specs.Word.{bit, flip, force, all_on, all_ones, lines_on}
use Rattle.words.specs.WordOf.{word_of}
use Rattle.refusals.specs.Tables.{Told, first_of, after}
use Rattle.refusals.specs.Tables.Told.{answered}
use Rattle.refusals.specs.Places.{first_bad_from, in_word}
use Rattle.refusals.specs.declared.Refusal.{Refusal}
use Rattle.refusals.proofs.Clashes.{refused-answered}
use Rattle.circuit.specs.Gates.{gates_of, gate_at, no_gate}
use Rattle.circuit.specs.Controls.{is_control, touches, is_other}
use Rattle.circuit.specs.Runs.{fires, step, run}
use Rattle.circuit.specs.Rules.{bad_lines, bad_counts, bad_gate, first_bad_gate, first_bad_vector, circuit_set_rows, circuit_rows, set_rows, vector_rows}
use Rattle.simulator.specs.Faulty.{force_at, stuck_run, without, faulty, caught}
use Rattle.faults.specs.Rules.{is_stuck_at, is_gate, is_missing_gate, is_missing_control, is_extra_control, is_fault}
use Rattle.faults.specs.Records.{no_fault, faults_of, first_bad_record}
use Rattle.faults.specs.Sites.{sites, site_count}
use Rattle.faults.specs.declared.Fault.{Fault}
use Rattle.faults.specs.Classes.{fault_of, stuck_faults, class_faults, is_class}
use Rattle.judge.specs.Judging.{caught_by_some, uncaught_of, verdict}
use Rattle.judge.specs.Rules.{class_rows, judge_rows}
use Rattle.judge.specs.Answers.{verdict_values}
use Rattle.judge.proofs.judge.Reads as judge
use Rattle.judge.specs.declared.Verdict.{Verdict}
use Rattle.dropping.specs.Dropping.{uncaught, dropped, words_of}
use Rattle.dropping.specs.Rules.{bad_record, record_rows, drop_rows}
use Rattle.dropping.proofs.drop.Reads as drop-call
use Rattle.testsets.proofs.compact_set.Reads as compact-set
use Rattle.testsets.specs.Log2.{log2_in, log2}
use Rattle.testsets.specs.Sets.{score, best_of, best, picks, bound, compact_set}
use Rattle.testsets.specs.Rules.{compact_rows}
use Rattle.number_bytes.specs.Bytes.{number_at, words_at}
use Rattle.job.specs.Image.{lines_in, classes_in, gates_in, vectors_in, gate_words, vector_words}
use Rattle.job.specs.Rules.{bad_classes, bad_sizes, read_rows, header_rows, content_rows}
use Rattle.job.specs.Answers.{job_values}
use Rattle.job.proofs.read_job.Reads as read-job
use Rattle.demands.proofs.Answering.{Ended}
use Rattle.proved_samples.specs.Sample.{sample_words, sample_job}

-- ---- what is promised

-- the sample job, read into lists of 6 words and 3 vectors
abbrev pub promised_read : Told
promised_read = first_of (read_rows sample_job 6 3)
    (answered (lines_in sample_job ∷ classes_in sample_job ∷ gates_in sample_job ∷ vectors_in sample_job ∷ []))

pub read_is : promised_read ≡ answered (3 ∷ 15 ∷ 2 ∷ 3 ∷ [])
unfolding sample_job read_rows header_rows content_rows bad_lines bad_counts lines_in classes_in gates_in vectors_in gate_words vector_words
    number_at words_at bad_classes bad_sizes first_bad_gate first_bad_vector first_bad_from bad_gate is_control bit gates_of
read_is = refl

-- the verdict on a set for the stuck-at faults of the sample circuit
abbrev pub promised_verdict : List ℕ → Told
promised_verdict xs = first_of (judge_rows 3 sample_words xs 1) (verdict (caught_by_some (gates_of sample_words) xs) (class_faults 3 (gates_of sample_words) 1))

pub verdicts_are : (promised_verdict (0 ∷ 7 ∷ []) ≡ answered (14 ∷ 16 ∷ 0 ∷ 1 ∷ 1 ∷ 2 ∷ 0 ∷ []))
    × (promised_verdict (0 ∷ []) ≡ answered (8 ∷ 16 ∷ 0 ∷ 1 ∷ 0 ∷ 0 ∷ 0 ∷ []))
    × (promised_verdict (0 ∷ 3 ∷ 5 ∷ []) ≡ answered (16 ∷ 16 ∷ 1 ∷ 0 ∷ 0 ∷ 0 ∷ 0 ∷ []))
unfolding sample_words up_from keep each some bit flip force all_on all_ones lines_on word_of gates_of gate_at is_control touches step fires run force_at
    stuck_run faulty caught sites fault_of stuck_faults class_faults is_class caught_by_some verdict bad_lines bad_counts bad_gate first_bad_gate first_bad_vector
    circuit_set_rows set_rows class_rows judge_rows first_bad_from
verdicts_are = (refl, refl, refl)

-- a list of one record, gate 1 missing, after vector 3, which catches it
abbrev pub one_fault : List ℕ
one_fault = 2 ∷ 1 ∷ 0 ∷ 0 ∷ []

abbrev pub promised_list : List ℕ
promised_list = after (drop_rows 3 sample_words 3 one_fault) (words_of (dropped (gates_of sample_words) 3 (faults_of one_fault))) one_fault

pub list_is : promised_list ≡ 0 ∷ 0 ∷ 0 ∷ 0 ∷ []
unfolding sample_words bad_lines bad_counts is_other drop_rows record_rows circuit_set_rows circuit_rows vector_rows bad_record is_fault is_stuck_at is_gate
    is_missing_gate is_missing_control is_extra_control no_fault faults_of first_bad_record first_bad_gate first_bad_from bad_gate is_control bit flip all_on gates_of
    gate_at no_gate fires step run without faulty caught uncaught dropped words_of keep in_word
list_is = refl

-- it does not stay as it was
pub list_changes : {left : List ℕ} → left ≡ promised_list → left ≡ one_fault → ⊥
list_changes promise wrong =
    let same = sym wrong ∙ promise ∙ list_is in
    let z : ◌≡◌ {A = ℕ} 2 0 = cc in
    omega arith

-- a room of 5 words after the compact set of a circuit of 3 lines
abbrev pub room : List ℕ
room = 0 ∷ 0 ∷ 0 ∷ 0 ∷ 0 ∷ []

abbrev pub promised_room : List ℕ → List ℕ
promised_room words = after (compact_rows 3 words (length room))
    (compact_set 3 (gates_of words) ++ drop (length (compact_set 3 (gates_of words))) room) room

-- the sample circuit, and the circuit with no gate
pub rooms_are : (promised_room sample_words ≡ 0 ∷ 3 ∷ 5 ∷ 0 ∷ 0 ∷ []) × (promised_room [] ≡ 0 ∷ 7 ∷ 0 ∷ 0 ∷ 0 ∷ [])
unfolding sample_words up_from keep each some sum_from bit flip force all_on all_ones lines_on word_of gates_of gate_at is_control touches step fires run
    force_at stuck_run faulty caught sites fault_of stuck_faults caught_by_some uncaught_of log2_in log2 score best_of best picks site_count bound compact_set
    bad_lines bad_counts bad_gate first_bad_gate circuit_set_rows circuit_rows compact_rows first_bad_from
rooms_are = (refl, refl)

-- they differ, and the first does not begin with 0 twice
pub rooms_differ : {sample none : List ℕ} → sample ≡ promised_room sample_words → none ≡ promised_room [] → sample ≡ none → ⊥
rooms_differ sample none wrong =
    let same = sym rooms_are.0 ∙ sym sample ∙ wrong ∙ none ∙ rooms_are.1 in
    let z : ◌≡◌ {A = ℕ} 3 7 = cc in
    omega arith

pub picks_another : {sample rest : List ℕ} → sample ≡ promised_room sample_words → sample ≡ 0 ∷ 0 ∷ rest → ⊥
picks_another sample wrong =
    let same = sym wrong ∙ sample ∙ rooms_are.0 in
    let z : ◌≡◌ {A = ℕ} 0 3 = cc in
    omega arith

-- ---- the wrong programs

-- 1. a call that refuses all jobs: of the sample job, in lists of 6 words and 3 vectors, whatever number and place it tells
pub refuses_all_jobs : (call : Ended read-job.Post)
    → let (bytes, (gates, (vectors, _))) = call.inputs in
    (bytes.now ≡ sample_job) × (length gates.now ≡ 6) × (length vectors.now ≡ 3)
    → (refusal : Refusal) → call.result ≡ Err refusal → ⊥
refuses_all_jobs call asked refusal wrong =
    let p = call.promised.0 in
    let promise : told job_values call.result ≡ promised_read = cc in
    refused-answered (ap (told job_values) (sym wrong) ∙ promise ∙ read_is)

-- the judge is asked for the stuck-at faults of the sample circuit by a set
abbrev JudgedBy : List ℕ → Ended judge.Post → Type 0
JudgedBy xs call =
    let (lines, (gates, (vectors, (class, _)))) = call.inputs in
    (lines ≡ 3) × (gates.now ≡ sample_words) × (vectors.now ≡ xs) × (class ≡ 1)

judge_promise : (xs : List ℕ) (call : Ended judge.Post) → JudgedBy xs call → told verdict_values call.result ≡ promised_verdict xs
judge_promise xs call asked = let p = call.promised in cc

-- 2. a judge that says complete to all: of the set 0, 7, whatever numbers it tells
pub complete_to_all : (call : Ended judge.Post) → JudgedBy (0 ∷ 7 ∷ []) call → (number total : ℕ)
    → call.result ≡ Ok (record { caught = number; total = total; first = None }) → ⊥
complete_to_all call asked number total wrong =
    let answer = ap (told verdict_values) (sym wrong) ∙ judge_promise _ call asked ∙ verdicts_are.0 in
    let z : ◌≡◌ {A = ℕ} 0 1 = cc in
    omega arith

-- the compact set of a circuit of 3 lines is made in an empty room of 5 words
abbrev MadeFor : List ℕ → Ended compact-set.Post → Type 0
MadeFor words call =
    let (lines, (gates, (lent, _))) = call.inputs in
    (lines ≡ 3) × (gates.now ≡ words) × (lent.now ≡ room)

-- what it leaves in the room
abbrev room_after : Ended compact-set.Post → List ℕ
room_after call = let (_, (_, (room-after, _))) = call.exit in room-after.now

room_promise : (words : List ℕ) (call : Ended compact-set.Post) → MadeFor words call → room_after call ≡ promised_room words
room_promise words call asked = let p = call.promised.1 in cc

-- 3. a generator with one fixed set: whatever it leaves in the room, for the sample circuit and for that with no gate
pub one_fixed_set : (sample none : Ended compact-set.Post) → MadeFor sample_words sample → MadeFor [] none
    → (fixed : List ℕ) → room_after sample ≡ fixed → room_after none ≡ fixed → ⊥
one_fixed_set sample none made other fixed a b = rooms_differ (room_promise _ sample made) (room_promise _ none other) (a ∙ sym b)

-- 4. a dropper that changes nothing: of a list whose one fault the vector 3 catches
pub drops_nothing : (call : Ended drop-call.Post)
    → let (lines, (gates, (vector, (list, _)))) = call.inputs in
    let (_, (_, (_, (list-after, _)))) = call.exit in
    (lines ≡ 3) × (gates.now ≡ sample_words) × (vector ≡ 3) × (list.now ≡ one_fault) → list-after.now ≡ one_fault → ⊥
drops_nothing call asked wrong =
    let p = call.promised.1 in
    let (_, (_, (_, (list-after, _)))) = call.exit in
    let promise : list-after.now ≡ promised_list = cc in
    list_changes promise wrong

-- 5. a judge that looks at the first vector only: what is right of the set 0 is wrong of the set 0, 3, 5
pub first_vector_only : (one all : Ended judge.Post) → JudgedBy (0 ∷ []) one → JudgedBy (0 ∷ 3 ∷ 5 ∷ []) all
    → (r : Result Verdict Refusal) → one.result ≡ r → all.result ≡ r → ⊥
first_vector_only one all asked-one asked-all r first wrong =
    let same = sym verdicts_are.1 ∙ sym (judge_promise _ one asked-one) ∙ ap (told verdict_values) (first ∙ sym wrong) ∙ judge_promise _ all asked-all
    ∙ verdicts_are.2 in
    let z : ◌≡◌ {A = ℕ} 8 16 = cc in
    omega arith

-- 6. a picker that chooses well once and then repeats itself: 0 is the best first pick, and again 0 is wrong, whatever follows
pub repeats_itself : (call : Ended compact-set.Post) → MadeFor sample_words call → (rest : List ℕ) → room_after call ≡ 0 ∷ 0 ∷ rest → ⊥
repeats_itself call made rest wrong = picks_another (room_promise _ call made) wrong

-- 7. a made-up number caught: of the set 0, 7 any number but 14
pub made_up_number : (call : Ended judge.Post) → JudgedBy (0 ∷ 7 ∷ []) call
    → (number total : ℕ) (first : Fault) → number ≢ 14 → call.result ≡ Ok (record { caught = number; total = total; first = Some first }) → ⊥
made_up_number call asked number total first other wrong =
    let answer = ap (told verdict_values) (sym wrong) ∙ judge_promise _ call asked ∙ verdicts_are.0 in
    other cc
