-- `dropping::drop` meets its contract: the check is the whole table, and what passes it is a list of faults of the circuit. Assumes nothing.
use Rattle.std.specs.Prelude.{[], ◌∷◌, length}
use Rattle.std.proofs.Common.{◌≡◌, ap, sym, ◌∙◌, ◌*◌, arith}
use Rattle.std.proofs.lemmas.Result.{err_from_is_err_and}
use Rattle.refusals.specs.Tables.Told.{answered}
use Rattle.refusals.specs.Places.{in_word}
use Rattle.refusals.proofs.Tables.{fine_all, after-fine}
use Rattle.circuit.specs.Gates.{gates_of}
use Rattle.faults.specs.Records.{faults_of, first_bad_record}
use Rattle.faults.proofs.RecordLaws.{records_count}
use Rattle.dropping.specs.Dropping.{uncaught, dropped, words_of}
use Rattle.dropping.specs.Rules.{drop_rows}
use Rattle.dropping.proofs.PlainLaws.{numbers_faults}
use Rattle.dropping.proofs.RuleLaws.{drop_ok, faults_in, refused_call}
use Rattle.dropping.proofs.drop.Goals as goal

pub returns-in_err-circuit : goal.returns-in_err-circuit
unfolding drop_rows first_bad_record
returns-in_err-circuit c =
    let a = c.args in
    let handed = err_from_is_err_and c.from_residual.result c.from_residual.ensures.1 in
    refused_call (drop_rows a.lines a.gates.now a.vector a.list.now) _ _ _ handed c.in_err-circuit.ensures.rules

pub uncaught_to_front-requires : goal.uncaught_to_front-requires
unfolding drop_rows first_bad_record
uncaught_to_front-requires c =
    let a = c.args in
    let ok = drop_ok a.lines a.gates.now a.vector a.list.now c.in_ok-circuit.ensures.rules in
    faults_in c.in_ok-circuit.circuit (faults_of a.list.now) c.in_ok-circuit.ensures.circuit ok.faults

pub returns : goal.returns
unfolding drop_rows first_bad_record
returns c =
    let a = c.args in
    let fs = faults_of a.list.now in
    let rows = drop_rows a.lines a.gates.now a.vector a.list.now in
    let passed = c.in_ok-circuit.ensures.rules in
    let same = c.in_ok-circuit.ensures.circuit.1 in
    let left = c.uncaught_to_front.ensures in
    let ok = drop_ok a.lines a.gates.now a.vector a.list.now passed in
    let list = c.uncaught_to_front.new.list in
    let whole : length list ≡ 4 * length (faults_of list) = omega (arith, records_count list, ok.whole, c.uncaught_to_front.auto.list) in (
      ap (λ number. answered (number ∷ [])) (c.in_word.ensures ∙ ap in_word left.left ∙ ap (λ words. in_word (length (uncaught (gates_of words) a.vector fs))) same)
          ∙ fine_all rows _ passed,
      sym (numbers_faults list whole) ∙ ap words_of (left.list ∙ ap (λ words. dropped (gates_of words) a.vector fs) same)
          ∙ after-fine rows _ _ passed,
    )
