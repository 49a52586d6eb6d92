-- `number_bytes::checked::put_words` meets its contract: each turn stores the bytes of one word more. Assumes nothing.
use Rattle.std.proofs.Common.{◌≡◌, take}
use Rattle.std.proofs.lemmas.List.Edits.{sets}
use Rattle.basics.specs.Lists.{each}
use Rattle.number_bytes.specs.Bytes.{bytes_of}
use Rattle.number_bytes.proofs.checked.put_words.Given as goal

abbrev pub invariant-loop-i : goal.invariant-loop-i
invariant-loop-i l = l.out ≡ sets l.initial.out l.at (each (bytes_of 4) (take l.i l.words))
