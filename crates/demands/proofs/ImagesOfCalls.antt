-- The calls that write and read jobs, of the library and of C, are a writer and a reader each, so that the theorems on images hold of them.
use Prim.Native.Nat.{ℕ}
use mathlib.Core.List.{List, [], ◌∷◌}
use Rattle.refusals.specs.Answers.{told, told_word}
use Rattle.refusals.specs.Tables.{Told}
use Rattle.job.specs.Answers.{job_values}
use Rattle.job.proofs.read_job.Reads as read-job
use Rattle.job.proofs.write_job.Reads as write-job
use Rattle.answers.specs.Fields.{fields}
use Rattle.nufsadeem.proofs.jobs.nuf_read_job.Reads as nuf-read-job
use Rattle.nufsadeem.proofs.jobs.nuf_write_job.Reads as nuf-write-job
use Rattle.demands.proofs.Answering.{Ended}
use Rattle.demands.proofs.ImagesPromised.{Writer, Reader, plainly, by_fields}

pub write_job_writes : Writer
write_job_writes = record {
  Call = Ended write-job.Post;
  lines = λ call. let (lines, _) = call.inputs in lines;
  classes = λ call. let (_, (classes, _)) = call.inputs in classes;
  gates = λ call. let (_, (_, (gates, _))) = call.inputs in gates.now;
  vectors = λ call. let (_, (_, (_, (vectors, _)))) = call.inputs in vectors.now;
  room = λ call. let (_, (_, (_, (_, (out, _))))) = call.inputs in out.now;
  left = λ call. let (_, (_, (_, (_, (out-after, _))))) = call.exit in out-after.now;
  Saying = Told;
  tell = λ told. told;
  answering = plainly;
  said = λ call. told_word call.result;
  promise = λ call. call.promised;
}

pub read_job_reads : Reader
read_job_reads = record {
  Call = Ended read-job.Post;
  bytes = λ call. let (bytes, _) = call.inputs in bytes.now;
  gate_room = λ call. let (_, (gates, _)) = call.inputs in gates.now;
  vector_room = λ call. let (_, (_, (vectors, _))) = call.inputs in vectors.now;
  gates = λ call. let (_, (gates-after, _)) = call.exit in gates-after.now;
  vectors = λ call. let (_, (_, (vectors-after, _))) = call.exit in vectors-after.now;
  Saying = Told;
  tell = λ told. told;
  answering = plainly;
  said = λ call. told job_values call.result;
  promise = λ call. call.promised;
}

pub nuf_write_job_writes : Writer
nuf_write_job_writes = record {
  Call = Ended nuf-write-job.Post;
  lines = λ call. let (lines, _) = call.inputs in lines;
  classes = λ call. let (_, (classes, _)) = call.inputs in classes;
  gates = λ call. let (_, (_, (gates, _))) = call.inputs in gates.now;
  vectors = λ call. let (_, (_, (_, (vectors, _)))) = call.inputs in vectors.now;
  room = λ call. let (_, (_, (_, (_, (out, _))))) = call.inputs in out.now;
  left = λ call. let (_, (_, (_, (_, (out-after, _))))) = call.exit in out-after.now;
  Saying = List ℕ;
  tell = fields 1;
  answering = by_fields 1;
  said = λ call. let r = call.result in r.number ∷ r.place ∷ r.count ∷ [];
  promise = λ call. call.promised;
}

pub nuf_read_job_reads : Reader
nuf_read_job_reads = record {
  Call = Ended nuf-read-job.Post;
  bytes = λ call. let (bytes, _) = call.inputs in bytes.now;
  gate_room = λ call. let (_, (gates, _)) = call.inputs in gates.now;
  vector_room = λ call. let (_, (_, (vectors, _))) = call.inputs in vectors.now;
  gates = λ call. let (_, (gates-after, _)) = call.exit in gates-after.now;
  vectors = λ call. let (_, (_, (vectors-after, _))) = call.exit in vectors-after.now;
  Saying = List ℕ;
  tell = fields 4;
  answering = by_fields 4;
  said = λ call. let r = call.result in r.number ∷ r.place ∷ r.lines ∷ r.classes ∷ r.gates ∷ r.vectors ∷ [];
  promise = λ call. call.promised;
}
