-- Laws of runs of bytes of one kind, and the lines and words that they make.
use Rattle.std.proofs.Common.{ℕ, suc, ◌+◌, ◌-◌, ◌<◌, ◌≤◌, ◌≡◌, refl, ap, ◌∙◌, Bool, false}
use Rattle.std.proofs.Common.{not, List, [], ◌∷◌, ◌++◌, length, take, drop, get_or, nat_lt, Some, None, arith}
use Rattle.std.specs.List.{position, position_or_len}
use Rattle.std.specs.Option.{unwrap_or}
use Rattle.std.proofs.lemmas.Bool.{ltb-true, ltb-false, not-true}
use Rattle.std.proofs.lemmas.List.{drop_more, take-append-drop, length-take, length-drop}
use Rattle.std.proofs.lemmas.List.Sums.{prefix_len-le-length, passes_at_first}
use Rattle.basics.proofs.Tests.{by_test}
use Rattle.text_words.specs.Words.{in_front, is_blank, word_ends, words_of}
use Rattle.text_words.specs.Runs.{is_ink, IsFirstWord}
use Rattle.text_words.proofs.WordLaws.{blank_passed, word_closed, word_on}

-- ---- what `position` finds

module _ (p : ℕ → Bool) (xs : List ℕ) where
  pub found_some : (i : ℕ) → position p xs ≡ Some i → (i ≡ position_or_len p xs) × (i < length xs)
  found_some i = by_test (nat_lt (position_or_len p xs) (length xs))
      (λ e f. let h : Some (position_or_len p xs) ≡ Some i = rw e at f in let k : i ≡ position_or_len p xs = cc in (k, rw k (ltb-true _ _ e)))
      (λ e f. let h : None ≡ Some i = rw e at f in absurd cc)

  pub found_none : position p xs ≡ None → length xs ≤ position_or_len p xs
  found_none = by_test (nat_lt (position_or_len p xs) (length xs))
      (λ e f. let h : Some (position_or_len p xs) ≡ None = rw e at f in absurd cc)
      (λ e f. ltb-false _ _ e)

  pub found_or : unwrap_or (position p xs) (length xs) ≡ position_or_len p xs
  found_or = let most = prefix_len-le-length (λ x. not (p x)) xs in by_test (nat_lt (position_or_len p xs) (length xs))
      (λ e. rw e)
      (λ e. let past = ltb-false _ _ e in rw e (omega arith))

-- ---- words

in_front-most : (b n : ℕ) (ts : List (List ℕ)) → length ts ≤ n → length (in_front b ts) ≤ suc n
unfolding in_front
in_front-most b n [] h = omega arith
in_front-most b n (t ∷ ts) h = omega arith

-- a line has at most as many words as bytes
pub words_most : (line : List ℕ) → length (words_of line) ≤ length line
unfolding words_of
words_most [] = omega arith
words_most (b ∷ rest) = let most = words_most rest in by_test (is_blank b)
    (λ e. rw e (omega arith))
    (λ e. by_test (word_ends rest) (λ f. rw (e, f) (omega arith)) (λ f. rw (e, f) (in_front-most b (length rest) (words_of rest) most)))

-- a line from its first ink on has the same words
pub blanks_gone : (line : List ℕ) → words_of line ≡ words_of (drop (position_or_len is_ink line) line)
blanks_gone [] = refl
blanks_gone (b ∷ rest) = by_test (is_blank b)
    (λ e. let k : 1 + position_or_len is_ink rest ≡ suc (position_or_len is_ink rest) = omega arith in
    blank_passed b rest e ∙ blanks_gone rest ∙ rw (e, k))
    (λ e. rw e)

-- ink, and what follows it up to the next blank, is a word
pub word_of_ink : (b : ℕ) (rest : List ℕ) → is_blank b ≡ false
    → words_of (b ∷ rest) ≡ (b ∷ take (position_or_len is_blank rest) rest) ∷ words_of (drop (position_or_len is_blank rest) rest)
unfolding word_ends in_front
word_of_ink b [] h = word_closed b [] h refl
word_of_ink b (c ∷ rest) h =
    let n = position_or_len is_blank rest in
    let k : 1 + n ≡ suc n = omega arith in
    by_test (is_blank c)
    (λ e. word_closed b (c ∷ rest) h e ∙ rw e)
    (λ e. word_on b (c ∷ rest) h e ∙ ap (in_front b) (word_of_ink c rest e) ∙ rw (e, k))

-- two parts of a line, the second up to its end, are the end of the line
parts_end : (line : List ℕ) (from end : ℕ) → from ≤ length line → take end (drop from line) ++ drop end (drop from line)
    ≡ drop (length line - (length (take end (drop from line)) + length (drop end (drop from line)))) line
parts_end line from end fits =
    let ink = drop from line in
    take-append-drop end ink
    ∙ ap (λ n. drop n line) (omega (arith, length-take end ink, length-drop end ink, length-drop from line))

ink_first : (b : ℕ) (rest : List ℕ) → is_blank b ≡ false → (end : ℕ) → end ≡ position_or_len is_blank (b ∷ rest)
    → IsFirstWord (b ∷ rest) (take end (b ∷ rest)) (drop end (b ∷ rest))
ink_first b rest h end e =
    let n = position_or_len is_blank rest in
    let k : end ≡ suc n = rw h at e ∙ omega arith in
    let most = prefix_len-le-length (λ x. not (is_blank x)) rest in
    rw k (record {
      split = word_of_ink b rest h;
      some = omega arith;
      within = omega (arith, length-take n rest, length-drop n rest);
      ends = parts_end (b ∷ rest) 0 (suc n) (omega arith);
    })

-- the first ink and the next blank bound the first word
pub first_word : (line : List ℕ) (from : ℕ) → from ≡ position_or_len is_ink line → from < length line → (end : ℕ)
    → end ≡ position_or_len is_blank (drop from line) → IsFirstWord line (take end (drop from line)) (drop end (drop from line))
first_word line from start some end e =
    let ink : drop from line ≡ get_or line from 0 ∷ drop (from + 1) line = drop_more line from 0 some in
    let no_blank : is_blank (get_or line from 0) ≡ false =
    not-true _ (rw start (passes_at_first is_ink line 0 (omega arith))) in
    let w : IsFirstWord (drop from line) (take end (drop from line)) (drop end (drop from line)) =
    rw ink (ink_first _ _ no_blank end (e ∙ ap (position_or_len is_blank) ink)) in
    record {
      split = blanks_gone line ∙ rw (← start) w.split;
      some = w.some;
      within = let s = w.within in omega (arith, length-drop from line);
      ends = parts_end line from end (omega arith);
    }
