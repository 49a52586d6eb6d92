-- The iterator over the words of a line, as lemmas on chains take it: what it gives is the words.
use Rattle.std.proofs.Common.{◌≡◌, ℕ, List}
use Rattle.std.specs.Iterator.{YieldsFirstRef}
use Rattle.std.proofs.lemmas.Iterator.{YieldsList}
use Rattle.std.proofs.lemmas.Iterator.Consumers.{YieldsList-from_first}
use Rattle.text_words.specs.Words.{words_of}
use Rattle.text_words.specs.declared.runs.Words.{Words}

pub words_road : {s : Words} (words : List (List ℕ)) → words_of s.rest.now ≡ words
    → YieldsList (YieldsFirstRef (λ (t : Words). words_of t.rest.now)) (λ w. w.now) s words
words_road {s} words e = YieldsList-from_first (λ w. w.now) (λ t. words_of t.rest.now) {s = s} words e
