-- `real_gates::keys::key` meets its contract: each turn puts one byte below the key of the bytes after it. Assumes nothing.
use Rattle.real_gates.proofs.KeyLaws.{Keying}
use Rattle.real_gates.proofs.keys.key.Given as goal

abbrev pub invariant-loop-byte : goal.invariant-loop-byte
invariant-loop-byte l = Keying l.word l.byte-iterator.iter.rest.now l.key
