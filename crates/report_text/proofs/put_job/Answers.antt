-- `report_text::put_job` meets its contract: the line of the job and the lines of its classes stand side by side. Assumes nothing.
use Rattle.std.proofs.Common.{false, sym, ◌∙◌, ◌≡◌, ◌/◌, [], ◌∷◌, length, ap}
use Rattle.circuit.proofs.GateLaws.{gates_count}
use Rattle.text.proofs.WritingLaws.{put_then, fits_first, fits_then, fits_as, put_alike}
use Rattle.report_text.specs.Parts.{numbers_line}
use Rattle.report_text.proofs.ReportLaws.{job_line_lem, job_parts}
use Rattle.report_text.proofs.put_job.Goals as goal

pub put_line-requires : goal.put_line-requires
put_line-requires c =
    let a = c.args in
    let circuit = a.circuit.now in
    let d : length circuit.gates.now / 3 ≡ c.depth.result = sym (c.depth.ensures ∙ gates_count circuit.gates.now) in
    fits_as (sym (job_line_lem circuit.lines circuit.gates.now a.vectors.now)
    ∙ ap (λ k. numbers_line 74 (circuit.lines ∷ k ∷ length a.vectors.now ∷ []) false) d)
    (fits_first _ (fits_as (sym (job_parts circuit.lines a.classes circuit.gates.now a.vectors.now)) c.requires.room))

pub put_classes-requires : goal.put_classes-requires
put_classes-requires c =
    let a = c.args in
    let circuit = a.circuit.now in
    let d : length circuit.gates.now / 3 ≡ c.depth.result = sym (c.depth.ensures ∙ gates_count circuit.gates.now) in
    let lined = put_alike (ap (λ k. numbers_line 74 (circuit.lines ∷ k ∷ length a.vectors.now ∷ []) false) (sym d)
    ∙ job_line_lem circuit.lines circuit.gates.now a.vectors.now) c.put_line.ensures in
    fits_then (fits_as (sym (job_parts circuit.lines a.classes circuit.gates.now a.vectors.now)) c.requires.room) lined

pub returns : goal.returns
returns c =
    let a = c.args in
    let circuit = a.circuit.now in
    let d : length circuit.gates.now / 3 ≡ c.depth.result = sym (c.depth.ensures ∙ gates_count circuit.gates.now) in
    let lined = put_alike (ap (λ k. numbers_line 74 (circuit.lines ∷ k ∷ length a.vectors.now ∷ []) false) (sym d)
    ∙ job_line_lem circuit.lines circuit.gates.now a.vectors.now) c.put_line.ensures in
    put_alike (job_parts circuit.lines a.classes circuit.gates.now a.vectors.now) (put_then lined c.put_classes.ensures)
