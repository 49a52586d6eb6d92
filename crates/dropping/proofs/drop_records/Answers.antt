-- `dropping::drop_records` meets its contract: the check is the whole table, and what passes it is a list of faults of the circuit. Assumes nothing.
use Rattle.std.specs.Prelude.{[], ◌∷◌, length}
use Rattle.std.proofs.Common.{ap, ◌∙◌}
use Rattle.std.proofs.lemmas.Result.{err_from_is_err_and}
use Rattle.refusals.specs.Tables.Told.{answered}
use Rattle.refusals.specs.Places.{in_word}
use Rattle.refusals.proofs.Tables.{fine_all, after-fine}
use Rattle.circuit.specs.Gates.{gates_of}
use Rattle.dropping.specs.Dropping.{uncaught, dropped}
use Rattle.dropping.specs.Rules.{drop_records_rows}
use Rattle.dropping.proofs.RuleLaws.{drop_records_ok, faults_in, refused_call}
use Rattle.dropping.proofs.drop_records.Goals as goal

pub returns-in_err-circuit : goal.returns-in_err-circuit
unfolding drop_records_rows
returns-in_err-circuit c =
    let a = c.args in
    let handed = err_from_is_err_and c.from_residual.result c.from_residual.ensures.1 in
    refused_call (drop_records_rows a.lines a.gates.now a.vector a.list.now) _ _ _ handed c.in_err-circuit.ensures.rules

pub uncaught_to_front-requires : goal.uncaught_to_front-requires
unfolding drop_records_rows
uncaught_to_front-requires c =
    let a = c.args in
    let ok = drop_records_ok a.lines a.gates.now a.vector a.list.now c.in_ok-circuit.ensures.rules in
    faults_in c.in_ok-circuit.circuit a.list.now c.in_ok-circuit.ensures.circuit ok.faults

pub returns : goal.returns
unfolding drop_records_rows
returns c =
    let a = c.args in
    let rows = drop_records_rows a.lines a.gates.now a.vector a.list.now in
    let passed = c.in_ok-circuit.ensures.rules in
    let same = c.in_ok-circuit.ensures.circuit.1 in
    let left = c.uncaught_to_front.ensures in (
      ap (λ number. answered (number ∷ [])) (c.in_word.ensures ∙ ap in_word left.left ∙ ap (λ words. in_word (length (uncaught (gates_of words) a.vector a.list.now))) same)
          ∙ fine_all rows _ passed,
      left.list ∙ ap (λ words. dropped (gates_of words) a.vector a.list.now) same ∙ after-fine rows _ _ passed,
    )
