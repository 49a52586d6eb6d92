-- The seven wrong programs as C calls: each gives on the same named input an answer that the contract of its C call rules out.
use Prim.Native.Nat.{ℕ}
use mathlib.Core.Path.{◌≡◌, sym, ap, ◌∙◌}
use mathlib.Core.Logic.{◌≢◌}
use mathlib.Core.List.{List, [], ◌∷◌}
use native.Mathlib.Omega.{arith}
use lib.ListN.{length}
use Rattle.proved_samples.specs.Sample.{sample_words, sample_job}
use Rattle.answers.specs.Fields.{fields}
use Rattle.answers.specs.declared.verdicts.Judgement.{Judgement}
use Rattle.nufsadeem.proofs.nuf_compact_set.Reads as compact-set
use Rattle.nufsadeem.proofs.nuf_drop.Reads as drop
use Rattle.nufsadeem.proofs.judging.nuf_judge.Reads as judge
use Rattle.nufsadeem.proofs.jobs.nuf_read_job.Reads as read-job
use Rattle.demands.proofs.Answering.{Ended}
use Rattle.demands.proofs.WrongPrograms.{promised_read, read_is, promised_verdict, verdicts_are, one_fault, promised_list, list_changes}
use Rattle.demands.proofs.WrongPrograms.{room, promised_room, rooms_differ, picks_another}

-- 1. a call that refuses all jobs: a number that is not 0 of the sample job
pub refuses_all_jobs : (call : Ended read-job.Post)
    → let (bytes, (gates, (vectors, _))) = call.inputs in
    (bytes.now ≡ sample_job) × (length gates.now ≡ 6) × (length vectors.now ≡ 3)
    → call.result.number ≢ 0 → ⊥
refuses_all_jobs call asked wrong =
    let r = call.result in
    let p = call.promised.0 in
    let promise : r.number ∷ r.place ∷ r.lines ∷ r.classes ∷ r.gates ∷ r.vectors ∷ [] ≡ fields 4 promised_read = cc in
    let told = promise ∙ ap (fields 4) read_is in
    wrong cc

-- the judge is asked for the stuck-at faults of the sample circuit by a set
abbrev JudgedBy : List ℕ → Ended judge.Post → Type 0
JudgedBy xs call =
    let (lines, (gates, (vectors, (class, _)))) = call.inputs in
    (lines ≡ 3) × (gates.now ≡ sample_words) × (vectors.now ≡ xs) × (class ≡ 1)

abbrev struct : Judgement → List ℕ
struct r = r.number ∷ r.place ∷ r.caught ∷ r.total ∷ r.complete ∷ r.first.class ∷ r.first.place ∷ r.first.line ∷ r.first.value ∷ []

judge_promise : (xs : List ℕ) (call : Ended judge.Post) → JudgedBy xs call → struct call.result ≡ fields 7 (promised_verdict xs)
judge_promise xs call asked = let p = call.promised in cc

-- 2. a judge that says complete to all: of the set 0, 7
pub complete_to_all : (call : Ended judge.Post) → JudgedBy (0 ∷ 7 ∷ []) call → call.result.complete ≡ 1 → ⊥
complete_to_all call asked wrong =
    let told = judge_promise _ call asked ∙ ap (fields 7) verdicts_are.0 in
    let z : call.result.complete ≡ 0 = cc in
    omega arith

-- the compact set of a circuit of 3 lines is made in an empty room of 5 words
abbrev MadeFor : List ℕ → Ended compact-set.Post → Type 0
MadeFor words call =
    let (lines, (gates, (lent, _))) = call.inputs in
    (lines ≡ 3) × (gates.now ≡ words) × (lent.now ≡ room)

-- what it leaves in the room
abbrev room_after : Ended compact-set.Post → List ℕ
room_after call = let (_, (_, (room-after, _))) = call.exit in room-after.now

room_promise : (words : List ℕ) (call : Ended compact-set.Post) → MadeFor words call → room_after call ≡ promised_room words
room_promise words call asked = let p = call.promised.1 in cc

-- 3. a generator with one fixed set: whatever it leaves in the room, for the sample circuit and for that with no gate
pub one_fixed_set : (sample none : Ended compact-set.Post) → MadeFor sample_words sample → MadeFor [] none
    → (fixed : List ℕ) → room_after sample ≡ fixed → room_after none ≡ fixed → ⊥
one_fixed_set sample none made other fixed a b = rooms_differ (room_promise _ sample made) (room_promise _ none other) (a ∙ sym b)

-- 4. a dropper that changes nothing: of a list whose one fault the vector 3 catches
pub drops_nothing : (call : Ended drop.Post)
    → let (lines, (gates, (vector, (list, _)))) = call.inputs in
    let (_, (_, (_, (list-after, _)))) = call.exit in
    (lines ≡ 3) × (gates.now ≡ sample_words) × (vector ≡ 3) × (list.now ≡ one_fault) → list-after.now ≡ one_fault → ⊥
drops_nothing call asked wrong =
    let p = call.promised.1 in
    let (_, (_, (_, (list-after, _)))) = call.exit in
    let promise : list-after.now ≡ promised_list = cc in
    list_changes promise wrong

-- 5. a judge that looks at the first vector only: the number that is right of the set 0 is wrong of the set 0, 3, 5
pub first_vector_only : (one all : Ended judge.Post) → JudgedBy (0 ∷ []) one → JudgedBy (0 ∷ 3 ∷ 5 ∷ []) all
    → one.result.caught ≡ all.result.caught → ⊥
first_vector_only one all asked-one asked-all wrong =
    let first = judge_promise _ one asked-one ∙ ap (fields 7) verdicts_are.1 in
    let whole = judge_promise _ all asked-all ∙ ap (fields 7) verdicts_are.2 in
    let a : one.result.caught ≡ 8 = cc in
    let b : all.result.caught ≡ 16 = cc in
    omega arith

-- 6. a picker that chooses well once and then repeats itself: 0 is the best first pick, and again 0 is wrong, whatever follows
pub repeats_itself : (call : Ended compact-set.Post) → MadeFor sample_words call → (rest : List ℕ) → room_after call ≡ 0 ∷ 0 ∷ rest → ⊥
repeats_itself call made rest wrong = picks_another (room_promise _ call made) wrong

-- 7. a made-up number caught: of the set 0, 7 any number but 14
pub made_up_number : (call : Ended judge.Post) → JudgedBy (0 ∷ 7 ∷ []) call → call.result.caught ≢ 14 → ⊥
made_up_number call asked wrong = let told = judge_promise _ call asked ∙ ap (fields 7) verdicts_are.0 in wrong cc
