-- `circuit::checked::gate_at` meets its contract: the list has three words for each of its gates. Assumes nothing.
use Rattle.circuit.proofs.GateLaws.{gate_words}
use borrow.Author.Rules.{rules}
use Rattle.circuit.proofs.checked.gate_at.Goals as goal

pub returns : goal.returns
returns c = gate_words _ _ _ (search rules) (search rules)
