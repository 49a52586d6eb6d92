-- `real_import::answer` meets its contract: what the check tells is what the call tells, and the gates that are held are the words that
-- were read. Assumes nothing.
use Rattle.std.proofs.Common.{ap, arith, length}
use Rattle.std.proofs.lemmas.Result.{err_from_is_err_and}
use Rattle.real_import.proofs.HoldLaws.{room_fits, words_are}
use Rattle.real_import.proofs.ResultLaws.{answers-refused, answers-circuit}
use Rattle.real_import.proofs.answer.Goals as goal

pub returns-in_err-circuit : goal.returns-in_err-circuit
returns-in_err-circuit c words h =
    let a = c.args in
    let (x, is_x, same) = err_from_is_err_and c.from_residual.result c.from_residual.ensures.1 in
    rw (is_x, same) (answers-refused a.form.lines a.form.gates a.own.now words a.gates.now _ (c.in_err-circuit.ensures.rules words h))

pub store-requires : goal.store-requires
store-requires c =
    let a = c.args in
    let (words, h) = c.requires.1 in
    let e = c.in_ok-circuit.ensures.rules words h in
    let fits = room_fits a.form.lines a.form.gates (length a.gates.now) a.own.now words h e c.requires.0 in
    let same = words_are a.form.lines a.form.gates (length a.gates.now) a.own.now words h e c.requires.0 in
    omega (arith, fits, h.whole, ap length same, ap length c.in_ok-circuit.ensures.circuit.1)

pub returns : goal.returns
returns c words h =
    let a = c.args in
    rw c.store.ensures
    (answers-circuit a.form.lines a.form.gates a.own.now words a.gates.now h (c.in_ok-circuit.ensures.rules words h) c.requires.0
    c.in_ok-circuit.circuit c.in_ok-circuit.ensures.circuit _ c.depth.ensures)
