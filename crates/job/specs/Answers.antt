-- What reading a job tells.
use Rattle.std.specs.Prelude.{ℕ, List, [], ◌∷◌}
use Rattle.job.specs.Image.{lines_in, classes_in, gates_in, vectors_in}
use Rattle.job.specs.declared.Job.{Job}

-- the lines, the classes wanted, the number of gates and the number of vectors
abbrev pub job_values : Job → List ℕ
job_values job = job.lines ∷ job.classes ∷ job.gates ∷ job.vectors ∷ []

-- the job that the header of an image says
abbrev pub job_in : List ℕ → Job
job_in bytes = record { lines = lines_in bytes; classes = classes_in bytes; gates = gates_in bytes; vectors = vectors_in bytes }
