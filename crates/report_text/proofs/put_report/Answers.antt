-- `report_text::put_report` meets its contract: what is read is refused, and has the refusal's line, or is the job whose text is put. Assumes nothing.
use Rattle.std.proofs.Common.{ℕ, ◌*◌, ◌≡◌, ap, sym, ◌∙◌, arith, List, Result, Ok, length-take-le, replicate}
use lib.ListN.{length-replicate}
use Rattle.refusals.specs.Answers.{told}
use Rattle.refusals.specs.declared.Refusal.{Refusal}
use Rattle.circuit.specs.Limits.{most_gates, most_vectors}
use Rattle.job.specs.declared.Job.{Job}
use Rattle.job.specs.Answers.{job_values}
use Rattle.job.specs.Promises.{read_tells, read_leaves_gates, read_leaves_vectors}
use Rattle.text.proofs.WritingLaws.{fits_as, put_alike}
use Rattle.report_text.proofs.ReportLaws.{JobRead, job_read, job_sound, job_text_lem, report_refused}
use Rattle.report_text.proofs.put_report.Goals as goal

-- the job that was read, out of arrays of noughts
read : (r : Result Job Refusal) (bytes gates vectors : List ℕ) (job : Job) → r ≡ Ok job
    → (told job_values r ≡ read_tells bytes (replicate (3 * most_gates) 0) (replicate most_vectors 0))
    × ((gates ≡ read_leaves_gates bytes (replicate (3 * most_gates) 0) (replicate most_vectors 0))
    × (vectors ≡ read_leaves_vectors bytes (replicate (3 * most_gates) 0) (replicate most_vectors 0)))
    → JobRead bytes gates vectors job.lines job.classes job.gates job.vectors
read r bytes gates vectors job is answer =
    job_read r bytes (replicate (3 * most_gates) 0) (replicate most_vectors 0) gates vectors job.lines job.classes job.gates job.vectors is answer
    (length-replicate {A = ℕ} (3 * most_gates) 0) (length-replicate {A = ℕ} most_vectors 0)

pub put_refused-requires : goal.put_refused-requires
put_refused-requires c =
    fits_as (sym (report_refused _ _ _ _ _ _ (omega arith) (omega arith) (ap (told job_values) (sym c.in-Err.is) ∙ c.read_job.ensures.0))) c.requires

pub slice_bounds-gates-end : goal.slice_bounds-gates-end
slice_bounds-gates-end c = let k = read _ _ _ _ _ c.in-Ok.is c.read_job.ensures in omega (arith, c.gate_words.ensures)

pub slice_bounds-circuit-end : goal.slice_bounds-circuit-end
slice_bounds-circuit-end c =
    let k = read _ _ _ _ _ c.in-Ok.is c.read_job.ensures in
    sym (length-take-le _ _ (omega (arith, c.gate_words.ensures)))

pub invariant_of-circuit : goal.invariant_of-circuit
invariant_of-circuit c =
    let k = job_sound _ _ _ _ _ _ _ (read _ _ _ _ _ c.in-Ok.is c.read_job.ensures) in
    record { sound = rw c.gate_words.ensures k.0 }

pub slice_bounds-vectors-end : goal.slice_bounds-vectors-end
slice_bounds-vectors-end c = let k = read _ _ _ _ _ c.in-Ok.is c.read_job.ensures in omega arith

pub slice_bounds-put_job-end : goal.slice_bounds-put_job-end
slice_bounds-put_job-end c =
    let k = read _ _ _ _ _ c.in-Ok.is c.read_job.ensures in
    sym (length-take-le _ _ (omega arith))

pub put_job-requires : goal.put_job-requires
put_job-requires c =
    let k = read _ _ _ _ _ c.in-Ok.is c.read_job.ensures in record {
      vectors_fit = (job_sound _ _ _ _ _ _ _ k).1;
      room = rw c.gate_words.ensures (fits_as (sym (job_text_lem _ _ _ _ _ _ _ k)) c.requires);
    }

pub returns-in-Err : goal.returns-in-Err
returns-in-Err c =
    put_alike (report_refused _ _ _ _ _ _ (omega arith) (omega arith) (ap (told job_values) (sym c.in-Err.is) ∙ c.read_job.ensures.0))
    c.put_refused.ensures

pub returns-in-Ok : goal.returns-in-Ok
returns-in-Ok c =
    let k = read _ _ _ _ _ c.in-Ok.is c.read_job.ensures in
    put_alike (job_text_lem _ _ _ _ _ _ _ k) (rw c.gate_words.ensures at c.put_job.ensures)
