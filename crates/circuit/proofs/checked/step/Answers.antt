-- `circuit::checked::step` meets its contract: the test, as a number, is shifted to the target and flips it where the gate fires. Assumes nothing.
use mathlib.Core.Path.{ap, ◌∙◌}
use Rattle.basics.specs.Choice.{choice}
use Rattle.words.specs.Word.{flip}
use Rattle.words.proofs.Coded.{flip_shl_when}
use Rattle.circuit.specs.Runs.{step}
use borrow.Author.Rules.{rules}
use Rattle.circuit.proofs.checked.step.Goals as goal

pub returns : goal.returns
unfolding step
returns c =
    flip_shl_when c.fires.result c.args.state c.args.gate.target (search rules)
    ∙ ap (λ b. choice b (flip c.args.state c.args.gate.target) c.args.state) c.fires.ensures
