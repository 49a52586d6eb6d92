-- `real_export::writing::put_names` meets its contract: each turn puts the name of the lowest line that is left. Assumes nothing.
use Rattle.real_export.proofs.PartLaws.{Naming}
use Rattle.real_export.proofs.writing.put_names.Given as goal

abbrev pub invariant-loop : goal.invariant-loop
invariant-loop l = Naming l.initial.out l.at l.word l.counter l.out l.end-2 l.left
