-- The rules of each C call in words: what its number and its place are, exactly.
use Prim.Native.Nat.{ℕ}
use mathlib.Core.Path.{◌≡◌, refl, sym, ◌∙◌}
use mathlib.Core.Logic.{◌↔◌, ◌≢◌}
use mathlib.Core.List.{List}
use lib.ListN.{length}
use Rattle.refusals.specs.Tables.{Row}
use Rattle.demands.proofs.RuleTables.{run_asked, catch_asked, multiple_asked, test_asked, judge_asked, drop_asked}
use Rattle.demands.proofs.RuleTables.{drop_records_asked, backward_set_asked, compact_set_asked, read_asked, write_asked, report_asked}
use Rattle.demands.proofs.RuleTables.{export_asked, import_asked}
use Rattle.demands.proofs.RuleTables.{run_spelled, catch_spelled, multiple_spelled, test_spelled, judge_spelled, drop_spelled}
use Rattle.demands.proofs.RuleTables.{drop_records_spelled, backward_set_spelled, compact_set_spelled}
use Rattle.demands.proofs.RuleTables.{read_spelled, write_spelled, report_spelled, export_spelled, import_spelled}
use Rattle.demands.proofs.RulesTold.{Asked, GivenFirst, AllKept, Asks, by_words}
use Rattle.demands.proofs.Demand1OfC as calls
use Rattle.demands.proofs.InC.{RefusesInC, tells_refusal, tells_answer}

-- what is told of a struct is said of its number and its place
module _ {L : Type 0} {Inputs Result Exit : L → Type 0} {Post : (κs : L) → Inputs κs → Result κs → Exit κs → Type 0}
    {number place : (κs : L) → Result κs → ℕ} {values : (κs : L) → Result κs → List ℕ} {rows : (κs : L) → Inputs κs → List Row}
    {ks : List ℕ} {asked : (κs : L) → Inputs κs → List Asked} (call : RefusesInC Post number place values rows ks)
    (rules : Asks call.refuses asked) where
  -- they are k and p, where k is not 0, exactly if rule k is the first that is given, with place p
  pub of_struct : (k : ℕ) → k ≢ 0 → (κs : L) (a : Inputs κs) (r : Result κs) (e : Exit κs) → Post κs a r e
      → (p : ℕ) → ((number κs r ≡ k) × (place κs r ≡ p)) ↔ GivenFirst (asked κs a) k p
  of_struct k some κs a r e post p =
      let told = tells_refusal (number κs r) (place κs r) (values κs r) k p in (
        λ w. (rules.refuses κs a r e post k p).0 (told.1 (w.0, w.1, λ z. some (sym w.0 ∙ z))),
        λ w. let v = told.0 ((rules.refuses κs a r e post k p).1 w) in (v.0, v.1),
      )

  -- the number is 0 exactly if all are kept
  pub number_none : (κs : L) (a : Inputs κs) (r : Result κs) (e : Exit κs) → Post κs a r e → (number κs r ≡ 0) ↔ AllKept (asked κs a)
  number_none κs a r e post = (
    λ z. (rules.answers κs a r e post).0 (values κs r, (tells_answer (number κs r) (place κs r) (values κs r) (values κs r)).1 (z, refl)),
    λ w.
        let t = (rules.answers κs a r e post).1 w in
        ((tells_answer (number κs r) (place κs r) (values κs r) t.0).0 t.1).0,
  )

-- circuit

pub forward_asks : Asks (calls.forward_refuses).refuses (λ κs (lines, (gates, (level, (state, _)))). run_asked lines gates.now level state)
forward_asks = by_words (calls.forward_refuses).refuses (λ κs a. run_spelled _ _ _ _)

pub backward_asks : Asks (calls.backward_refuses).refuses (λ κs (lines, (gates, (level, (state, _)))). run_asked lines gates.now level state)
backward_asks = by_words (calls.backward_refuses).refuses (λ κs a. run_spelled _ _ _ _)

-- simulator

pub catches_asks : Asks (calls.catches_refuses).refuses (λ κs (lines, (gates, (vector, (fault, _)))). catch_asked lines gates.now vector fault)
catches_asks = by_words (calls.catches_refuses).refuses (λ κs a. catch_spelled _ _ _ _)

pub catches_multiple_asks : Asks (calls.catches_multiple_refuses).refuses
    (λ κs (lines, (gates, (vector, (entries, _)))). multiple_asked lines gates.now vector entries.now)
catches_multiple_asks = by_words (calls.catches_multiple_refuses).refuses (λ κs a. multiple_spelled _ _ _ _)

pub test_for_asks : Asks (calls.test_for_refuses).refuses (λ κs (lines, (gates, (fault, _))). test_asked lines gates.now fault)
test_for_asks = by_words (calls.test_for_refuses).refuses (λ κs a. test_spelled _ _ _)

-- judge

pub judge_asks : Asks (calls.judge_refuses).refuses (λ κs (lines, (gates, (vectors, (class, _)))). judge_asked lines gates.now vectors.now class)
judge_asks = by_words (calls.judge_refuses).refuses (λ κs a. judge_spelled _ _ _ _)

pub cover_asks : Asks (calls.cover_refuses).refuses (λ κs (lines, (gates, (vectors, (class, _)))). judge_asked lines gates.now vectors.now class)
cover_asks = by_words (calls.cover_refuses).refuses (λ κs a. judge_spelled _ _ _ _)

-- dropping

pub drop_asks : Asks (calls.drop_refuses).refuses (λ κs (lines, (gates, (vector, (list, _)))). drop_asked lines gates.now vector list.now)
drop_asks = by_words (calls.drop_refuses).refuses (λ κs a. drop_spelled _ _ _ _)

pub drop_records_asks : Asks (calls.drop_records_refuses).refuses
    (λ κs (lines, (gates, (vector, (list, _)))). drop_records_asked lines gates.now vector list.now)
drop_records_asks = by_words (calls.drop_records_refuses).refuses (λ κs a. drop_records_spelled _ _ _ _)

-- testsets

pub backward_set_asks : Asks (calls.backward_set_refuses).refuses
    (λ κs (lines, (gates, (room, _))). backward_set_asked lines gates.now (length room.now))
backward_set_asks = by_words (calls.backward_set_refuses).refuses (λ κs a. backward_set_spelled _ _ _)

pub compact_set_asks : Asks (calls.compact_set_refuses).refuses
    (λ κs (lines, (gates, (room, _))). compact_set_asked lines gates.now (length room.now))
compact_set_asks = by_words (calls.compact_set_refuses).refuses (λ κs a. compact_set_spelled _ _ _)

-- real_export

pub export_asks : Asks (calls.export_refuses).refuses (λ κs (lines, (gates, (out, _))). export_asked lines gates.now (length out.now))
export_asks = by_words (calls.export_refuses).refuses (λ κs a. export_spelled _ _ _)

-- real_import

pub import_asks : Asks (calls.import_refuses).refuses (λ κs (text, (gates, _)). import_asked text.now (length gates.now))
import_asks = by_words (calls.import_refuses).refuses (λ κs a. import_spelled _ _)

-- job

pub read_job_asks : Asks (calls.read_job_refuses).refuses
    (λ κs (bytes, (gates, (vectors, _))). read_asked bytes.now (length gates.now) (length vectors.now))
read_job_asks = by_words (calls.read_job_refuses).refuses (λ κs a. read_spelled _ _ _)

pub write_job_asks : Asks (calls.write_job_refuses).refuses
    (λ κs (lines, (classes, (gates, (vectors, (out, _))))). write_asked lines classes gates.now vectors.now (length out.now))
write_job_asks = by_words (calls.write_job_refuses).refuses (λ κs a. write_spelled _ _ _ _ _)

-- report_text

pub report_asks : Asks (calls.report_refuses).refuses (λ κs (bytes, (out, _)). report_asked bytes.now (length out.now))
report_asks = by_words (calls.report_refuses).refuses (λ κs a. report_spelled _ _)
