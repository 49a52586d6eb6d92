-- The first line of a text, the first word of a line, and the place of a text among some.
use Rattle.std.specs.Prelude.{ℕ, ◌+◌, ◌-◌, ◌<◌, ◌≤◌, ◌≡◌, Bool, not, Option, MatchOption, List, ◌∷◌, ◌++◌, length, take, drop, eqb}
use Rattle.text.specs.Texts.{place}
use Rattle.text_words.specs.Words.{lines_of, is_blank, words_of}

-- no LF; no blank
abbrev pub in_line : ℕ → Bool
in_line b = not (eqb b 10)

abbrev pub is_ink : ℕ → Bool
is_ink b = not (is_blank b)

-- a text's first line, without its end, and what follows it: the line starts the text, and what follows is the end of the text
pub record IsFirstLine (text line rest : List ℕ) : Type 0 where
  pub split : lines_of text ≡ line ∷ lines_of rest
  pub within : length line + length rest ≤ length text
  pub shorter : length rest < length text
  pub starts : line ≡ take (length line) text
  pub ends : rest ≡ drop (length text - length rest) text

-- a line's first word, and what follows it: the two, one after the other, are the end of the line
pub record IsFirstWord (line word rest : List ℕ) : Type 0 where
  pub split : words_of line ≡ word ∷ words_of rest
  pub some : 1 ≤ length word
  pub within : length word + length rest ≤ length line
  pub ends : word ++ rest ≡ drop (length line - (length word + length rest)) line

-- a slice stands in a text, between two parts of it
pub record IsPart (text slice : List ℕ) : Type 0 where
  pub front : List ℕ
  pub back : List ℕ
  pub whole : text ≡ front ++ (slice ++ back)

-- the place of the first of some texts that is the same as a text, or none
abbrev pub IsPlace : List (List ℕ) → List ℕ → Option ℕ → Type 0
IsPlace texts t found = MatchOption found (place texts t ≡ length texts) (λ i. (i ≡ place texts t) × (i < length texts))
