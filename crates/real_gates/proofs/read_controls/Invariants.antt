-- `real_gates::read_controls` meets its contract: each turn reads one word as a line of the mask. Assumes nothing.
use Rattle.text_words.specs.Words.{words_of}
use Rattle.real_gates.specs.Names.{names_in}
use Rattle.real_gates.proofs.ControlLaws.{Reading}
use Rattle.real_gates.proofs.read_controls.Given as goal

abbrev pub invariant-loop : goal.invariant-loop
invariant-loop l = Reading (names_in l.names) (words_of l.initial.left.rest.now) (words_of l.left.rest.now) l.mask l.counter
