-- Laws of words: what was joined is split again.
use Prim.Native.Nat.{ℕ}
use mathlib.Core.Path.{◌≡◌, refl, ap, ◌∙◌}
use mathlib.Core.Bool.{true, false, not}
use mathlib.Core.List.{List, [], ◌∷◌, ◌++◌}
use borrow.Author.Tests.{not-true}
use Rattle.basics.proofs.Tests.{and_both, choice-true, choice-false}
use Rattle.text.specs.Texts.{every}
use Rattle.text_words.specs.Words.{in_front, is_blank, word_ends, words_of}
use Rattle.text_words.specs.Runs.{is_ink}

-- one byte: a blank, the last of a word, another of a word
pub blank_passed : (b : ℕ) (rest : List ℕ) → is_blank b ≡ true → words_of (b ∷ rest) ≡ words_of rest
unfolding words_of
blank_passed b rest h = choice-true h _ _

pub word_closed : (b : ℕ) (rest : List ℕ) → is_blank b ≡ false → word_ends rest ≡ true → words_of (b ∷ rest) ≡ (b ∷ []) ∷ words_of rest
unfolding words_of
word_closed b rest h e = choice-false h _ _ ∙ choice-true e _ _

pub word_on : (b : ℕ) (rest : List ℕ) → is_blank b ≡ false → word_ends rest ≡ false → words_of (b ∷ rest) ≡ in_front b (words_of rest)
unfolding words_of
word_on b rest h e = choice-false h _ _ ∙ choice-false e _ _

-- blanks in front mean nothing
pub blanks_first : (bs rest : List ℕ) → every is_blank bs ≡ true → words_of (bs ++ rest) ≡ words_of rest
unfolding every
blanks_first [] rest h = refl
blanks_first (b ∷ bs) rest h =
    let w = and_both (is_blank b) (every is_blank bs) h in
    blank_passed b (bs ++ rest) w.0 ∙ blanks_first bs rest w.1

-- a word in front is the first
pub word_first : (b : ℕ) (w rest : List ℕ) → every is_ink (b ∷ w) ≡ true → word_ends rest ≡ true
    → words_of ((b ∷ w) ++ rest) ≡ (b ∷ w) ∷ words_of rest
unfolding every word_ends in_front
word_first b [] rest h e = word_closed b rest (not-true (is_blank b) (and_both (not (is_blank b)) true h).0) e
word_first b (c ∷ w) rest h e =
    let t = and_both (not (is_blank b)) (every is_ink (c ∷ w)) h in
    let u = and_both (not (is_blank c)) (every is_ink w) t.1 in
    word_on b ((c ∷ w) ++ rest) (not-true (is_blank b) t.0) (not-true (is_blank c) u.0) ∙ ap (in_front b) (word_first c w rest t.1 e)
