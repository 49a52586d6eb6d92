-- The lines of a text and the words of a line.
use Rattle.std.specs.Prelude.{ℕ, Bool, true, ◌&&◌, ◌||◌, List, [], ◌∷◌, eqb}
use Rattle.basics.specs.Choice.{choice}
use Rattle.text.specs.Texts.{begins}

-- a byte put in front of the first of some texts; where there is none it is one
unfoldable pub in_front : ℕ → List (List ℕ) → List (List ℕ)
in_front b [] = (b ∷ []) ∷ []
in_front b (t ∷ ts) = (b ∷ t) ∷ ts

-- a line ends with LF (10) or CR LF (13, 10), which are no part of it; the last may lack its end
unfoldable pub lines_of : List ℕ → List (List ℕ)
lines_of [] = []
lines_of (b ∷ rest) =
    choice (eqb b 10) ([] ∷ lines_of rest)
    (choice (eqb b 13 && begins (eqb 10) rest) (lines_of rest) (in_front b (lines_of rest)))

-- a space or a tab
unfoldable pub is_blank : ℕ → Bool
is_blank b = eqb b 32 || eqb b 9

-- nothing or a blank comes next
unfoldable pub word_ends : List ℕ → Bool
word_ends [] = true
word_ends (b ∷ rest) = is_blank b

-- a word is a run of bytes that are no blanks
unfoldable pub words_of : List ℕ → List (List ℕ)
words_of [] = []
words_of (b ∷ rest) =
    choice (is_blank b) (words_of rest)
    (choice (word_ends rest) ((b ∷ []) ∷ words_of rest) (in_front b (words_of rest)))
