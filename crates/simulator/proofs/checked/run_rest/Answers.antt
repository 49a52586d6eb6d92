-- `simulator::checked::run_rest` meets its contract: the last level comes after all gates. Assumes nothing.
use mathlib.Core.Path.{◌≡◌, ◌∙◌}
use lib.ListN.{length}
use Rattle.circuit.specs.Gates.{gates_of}
use Rattle.circuit.proofs.RunLaws.{onward_rest}
use Rattle.simulator.proofs.checked.run_rest.Goals as goal

pub returns : goal.returns
returns c =
    let a = c.args in
    let last : c.level.result.0 ≡ length (gates_of a.circuit.now.gates.now) = c.level.ensures ∙ c.depth.ensures in
    c.run_onward.ensures ∙ rw last (onward_rest (gates_of a.circuit.now.gates.now) a.level.0 a.state)
