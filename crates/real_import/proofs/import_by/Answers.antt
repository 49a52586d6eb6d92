-- `real_import::import_by` meets its contract: what the text is read as decides, a faulty line by its number, a circuit by its rules.
-- Assumes nothing.
use Rattle.std.proofs.lemmas.Result.{err_from_is_err_and}
use Rattle.real.specs.Reading.{reading}
use Rattle.real.proofs.NumberLaws.{faulty_by}
use Rattle.real_import.proofs.ResultLaws.{answers-faulty}
use Rattle.real_import.proofs.import_by.Goals as goal

pub returns-in_err-form : goal.returns-in_err-form
returns-in_err-form c =
    let (x, is_x, same) = err_from_is_err_and c.from_residual.result c.from_residual.ensures.1 in
    let t = c.in_err-form.ensures in
    rw (is_x, same) (answers-faulty (reading c.args.text.now) _ c.args.gates.now t (faulty_by c.args.text.now _ t.line t.faulty_there))
