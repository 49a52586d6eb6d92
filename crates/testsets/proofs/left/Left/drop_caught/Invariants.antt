-- `testsets::left::Left::drop_caught` meets its contract: each turn takes from the words of one level what the vector catches there, and the last
-- level comes after the loop. Assumes nothing.
use Rattle.std.proofs.Common.{◌≡◌, bit_and}
use Rattle.words.specs.WordOf.{lacking}
use Rattle.circuit.specs.Checked.{gates_in}
use Rattle.circuit.specs.Runs.{forward}
use Rattle.testsets.proofs.Changes.{Changed}
use Rattle.testsets.proofs.left.Left.drop_caught.Given as goal

abbrev pub invariant-loop-i : goal.invariant-loop-i
invariant-loop-i l =
    (l.self.circuit ≡ l.circuit) × (l.state ≡ forward (gates_in l.circuit) l.i l.vector)
    × Changed (λ k w. lacking w (forward (gates_in l.circuit) k l.vector)) l.i l.initial.self.at_0 l.self.at_0
    × Changed (λ k w. bit_and w (forward (gates_in l.circuit) k l.vector)) l.i l.initial.self.at_1 l.self.at_1
