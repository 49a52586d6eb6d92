-- `number_bytes::checked::read_words` meets its contract: each turn stores one word more. Assumes nothing.
use Rattle.std.proofs.Common.{◌≡◌, take}
use Rattle.number_bytes.specs.Bytes.{words_at}
use Rattle.number_bytes.proofs.checked.read_words.Given as goal

abbrev pub invariant-loop-i : goal.invariant-loop-i
invariant-loop-i l = take l.i l.out ≡ words_at l.i l.bytes l.at
