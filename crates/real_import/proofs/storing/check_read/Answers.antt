-- `real_import::storing::check_read` meets its contract: each test is the row's, the gates that are held being those that were read wherever
-- rules 3 and 5 let them be looked at. Assumes nothing.
use Rattle.std.proofs.Common.{ℕ, ◌*◌, ◌≡◌, sym, ap, ◌∙◌, Bool, false, List, [], length, take, length-take-le, arith}
use Rattle.std.proofs.lemmas.Result.{err_from_is_err_and}
use Rattle.basics.specs.Choice.{choice}
use Rattle.refusals.specs.Tables.{Told, first_of}
use Rattle.refusals.specs.Tables.Told.{refused}
use Rattle.refusals.specs.Answers.{fine}
use Rattle.refusals.specs.Places.{in_word}
use Rattle.refusals.proofs.OneAnswer.{handed_on}
use Rattle.refusals.proofs.Tables.{fine_row}
use Rattle.circuit.specs.Rules.{bad_lines, bad_counts, circuit_rows}
use Rattle.circuit.proofs.RuleLaws.{counts_right}
use Rattle.real_import.proofs.HoldLaws.{rule_3, rule_5, rule_7, rule_10}
use Rattle.real_import.proofs.storing.check_read.Goals as goal

-- what the test of rule 3 tells, of the lines as they were read
lines_told : (n m : ℕ) (b : Bool) (t : Told) → m ≡ in_word n → b ≡ bad_lines m → t ≡ choice b (refused 3 0) fine
    → t ≡ choice (bad_lines (in_word n)) (refused 3 0) fine
lines_told n m b t e f g = g ∙ ap (λ x. choice x (refused 3 0) fine) (f ∙ ap bad_lines e)

few : (n m : ℕ) (b : Bool) → m ≡ in_word n → b ≡ bad_lines m → fine ≡ choice b (refused 3 0) fine → bad_lines (in_word n) ≡ false
few n m b e f g = (fine_row (bad_lines (in_word n)) 3 0 fine (lines_told n m b fine e f g)).0

counts : (d : ℕ) (b : Bool) → b ≡ bad_counts d 0 → fine ≡ choice b (refused 5 0) fine → bad_counts d 0 ≡ false
counts d b f g = sym f ∙ (fine_row b 5 0 fine g).0

-- what the check of the circuit tells
told : (n m : ℕ) (words : List ℕ) (t : Told) → m ≡ in_word n → t ≡ first_of (circuit_rows m words) fine
    → t ≡ first_of (circuit_rows (in_word n) words) fine
told n m words t e f = f ∙ ap (λ k. first_of (circuit_rows k words) fine) e

pub returns-in_err-refuse_when-clause-rules : goal.returns-in_err-refuse_when-clause-rules
returns-in_err-refuse_when-clause-rules c words h =
    let a = c.args in
    handed_on (λ _. []) (err_from_is_err_and c.from_residual.result c.from_residual.ensures.1)
    ∙ rule_3 a.form.lines a.form.gates a.room a.own.now words h _ _
    (lines_told a.form.lines _ _ _ c.in_word-lines.ensures c.bad_lines.ensures c.in_err-refuse_when.ensures)

pub returns-in_err-refuse_when-2-clause-rules : goal.returns-in_err-refuse_when-2-clause-rules
returns-in_err-refuse_when-2-clause-rules c words h =
    let a = c.args in
    handed_on (λ _. []) (err_from_is_err_and c.from_residual-in_err-refuse_when-2.result c.from_residual-in_err-refuse_when-2.ensures.1)
    ∙ rule_5 a.form.lines a.form.gates a.room a.own.now words h
    (few a.form.lines _ _ c.in_word-lines.ensures c.bad_lines.ensures c.in_ok-refuse_when.ensures) _ _
    (c.in_err-refuse_when-2.ensures ∙ ap (λ b. choice b (refused 5 0) fine) c.bad_counts.ensures)

pub overflow_mul-form : goal.overflow_mul-form
overflow_mul-form c =
    let a = c.args in
    omega (arith, (counts_right a.form.gates 0 (counts a.form.gates _ c.bad_counts.ensures c.in_ok-refuse_when-2.ensures)).0)

pub slice_bounds-check_circuit-end : goal.slice_bounds-check_circuit-end
slice_bounds-check_circuit-end c =
    let a = c.args in
    let fit = (counts_right a.form.gates 0 (counts a.form.gates _ c.bad_counts.ensures c.in_ok-refuse_when-2.ensures)).0 in
    sym (length-take-le (3 * a.form.gates) a.own.now (omega (arith, c.requires, fit)))

pub returns-in_err-circuit-clause-rules : goal.returns-in_err-circuit-clause-rules
returns-in_err-circuit-clause-rules c words h =
    let a = c.args in
    handed_on (λ _. []) (err_from_is_err_and c.from_residual-in_err-circuit.result c.from_residual-in_err-circuit.ensures.1)
    ∙ rule_7 a.form.lines a.form.gates a.room a.own.now words h
    (few a.form.lines _ _ c.in_word-lines.ensures c.bad_lines.ensures c.in_ok-refuse_when.ensures)
    (counts a.form.gates _ c.bad_counts.ensures c.in_ok-refuse_when-2.ensures) c.requires _ _
    (told a.form.lines _ (take (3 * a.form.gates) a.own.now) _ c.in_word-lines.ensures c.in_err-circuit.ensures.rules)

pub returns-in_err-refuse_when-3-clause-rules : goal.returns-in_err-refuse_when-3-clause-rules
returns-in_err-refuse_when-3-clause-rules c words h =
    let a = c.args in
    handed_on (λ _. []) (err_from_is_err_and c.from_residual-in_err-refuse_when-3.result c.from_residual-in_err-refuse_when-3.ensures.1)
    ∙ rule_10 a.form.lines a.form.gates a.room a.own.now words h
    (few a.form.lines _ _ c.in_word-lines.ensures c.bad_lines.ensures c.in_ok-refuse_when.ensures)
    (counts a.form.gates _ c.bad_counts.ensures c.in_ok-refuse_when-2.ensures) c.requires _ _
    (told a.form.lines _ (take (3 * a.form.gates) a.own.now) _ c.in_word-lines.ensures c.in_ok-circuit.ensures.rules)
    (ap length c.in_ok-circuit.ensures.circuit.1) c.in_err-refuse_when-3.ensures

pub returns-clause-rules : goal.returns-clause-rules
returns-clause-rules c words h =
    let a = c.args in
    rule_10 a.form.lines a.form.gates a.room a.own.now words h
    (few a.form.lines _ _ c.in_word-lines.ensures c.bad_lines.ensures c.in_ok-refuse_when.ensures)
    (counts a.form.gates _ c.bad_counts.ensures c.in_ok-refuse_when-2.ensures) c.requires _ _
    (told a.form.lines _ (take (3 * a.form.gates) a.own.now) _ c.in_word-lines.ensures c.in_ok-circuit.ensures.rules)
    (ap length c.in_ok-circuit.ensures.circuit.1) c.in_ok-refuse_when-3.ensures
