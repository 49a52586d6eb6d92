-- Different answers tell different things.
use Rattle.std.proofs.Common.{◌≡◌, ℕ, Result}
use Rattle.refusals.specs.declared.Refusal.{Refusal}
use Rattle.refusals.specs.Answers.{told}
use Rattle.refusals.proofs.OneAnswer.{told-one}
use Rattle.job.specs.Answers.{job_values}
use Rattle.job.specs.declared.Job.{Job}

abbrev job_of : ℕ → ℕ → ℕ → ℕ → Job
job_of n k d m = record { lines = n; classes = k; gates = d; vectors = m }

values-one : (a b : Job) → job_values a ≡ job_values b → a ≡ b
values-one a b e =
    let same : job_of a.lines a.classes a.gates a.vectors ≡ job_of b.lines b.classes b.gates b.vectors = cc in same

pub told_job-one : (r s : Result Job Refusal) → told job_values r ≡ told job_values s → r ≡ s
told_job-one r s e = told-one job_values values-one r s e
