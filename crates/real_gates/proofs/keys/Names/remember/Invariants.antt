-- `Names::remember` meets its contract: each turn stores the key of the next name, until none is left or no room. Assumes nothing.
use Rattle.std.proofs.Common.{◌≡◌, length, ◌+◌}
use Rattle.text_words.specs.Words.{words_of}
use Rattle.real_gates.proofs.KeyLaws.{Keyed}
use Rattle.real_gates.proofs.keys.Names.remember.Given as goal

abbrev pub invariant-loop-i : goal.invariant-loop-i
invariant-loop-i l = (l.i-iterator.iter.count + l.i-iterator.n ≡ length l.room)
    × Keyed (words_of l.line) (words_of l.i-iterator.iter.iter.rest.now) l.room l.i-iterator.iter.count
