-- `circuit::rules::check_circuit_set` meets its contract: its checks are the rows of the table, and a circuit that breaks none is sound. Assumes nothing.
use Rattle.std.proofs.Common.{sym, ◌∙◌}
use Rattle.refusals.proofs.Tables.{fine_row}
use Rattle.circuit.proofs.RuleLaws.{sound_rows}
use Rattle.circuit.proofs.rules.check_circuit_set.Goals as goal

pub invariant_of-result : goal.invariant_of-result
invariant_of-result c =
    let a = c.args in
    let lines = sym c.bad_lines.ensures ∙ (fine_row _ _ _ _ c.in_ok-refuse_when.ensures).0 in
    let counts = sym c.bad_counts.ensures ∙ (fine_row _ _ _ _ c.in_ok-refuse_when-2.ensures).0 in
    record { sound = sound_rows a.lines a.gates.now a.vectors lines counts c.in_ok-check_gates.ensures }
