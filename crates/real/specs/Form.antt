-- The .real form, line by line: what may stand in each stage of a text.
use Rattle.std.specs.Prelude.{ℕ, ◌+◌, ◌-◌, ◌^◌, Bool, true, false, not, ◌&&◌, ◌||◌, List, [], ◌∷◌, ◌++◌, length, take, get_or, eqb, leb}
use Rattle.basics.specs.Choice.{choice}
use Rattle.basics.specs.Lists.{keep}
use Rattle.text.specs.Texts.{ascii, every, begins, same, among, distinct, place}
use Rattle.text_words.specs.Words.{words_of}
use Rattle.text.specs.Decimal.{decimal, is_digit, is_number}

-- a word of a line: bytes, never none
abbrev pub Word : Type 0
Word = List ℕ

-- which line is due, and what was read so far
pub data Stage : Type 0 where
  -- .version
  start : Stage
  -- .numvars
  versioned : Stage
  -- .variables; the number as it is written
  counted : Word → Stage
  -- .begin or an optional part; the names, and the parts that may come
  named : List Word → List Word → Stage
  -- a gate or .end; the names
  begun : List Word → Stage
  -- nothing
  done : List Word → Stage

-- a line leads to a stage, adds the words of a gate, or is refused by a number
pub data Step : Type 0 where
  goes : Stage → Step
  adds : List ℕ → Stage → Step
  stops : ℕ → Step

abbrev pub when : Bool → Stage → Step
when test stage = choice test (goes stage) (stops 14)

unfoldable pub is_letter : ℕ → Bool
is_letter b = (leb 65 b && leb b 90) || (leb 97 b && leb b 122)

-- a letter, a digit or an underscore (95)
abbrev pub is_name_byte : ℕ → Bool
is_name_byte b = is_letter b || (is_digit b || eqb b 95)

-- at most 8 such bytes
unfoldable pub is_name : Word → Bool
is_name word = every is_name_byte word && leb (length word) 8

unfoldable pub optional_parts : List Word
optional_parts = ascii ".inputs" ∷ ascii ".outputs" ∷ ascii ".garbage" ∷ ascii ".constants" ∷ []

-- one word of n hyphens
unfoldable pub is_constants : ℕ → List Word → Bool
is_constants n words = eqb (length words) 1 && (eqb (length (get_or words 0 [])) n && every (eqb 45) (get_or words 0 []))

-- the target is named last
unfoldable pub controls_of : List Word → List Word
controls_of words = take (length words - 1) words

unfoldable pub target_of : List Word → Word
target_of words = get_or words (length words - 1) []

-- t with the number of names; each declared, no control twice
unfoldable pub is_gate : List Word → Word → List Word → Bool
is_gate names token words =
    (leb 1 (length words) && same token (ascii "t" ++ decimal (length words)))
    && (every (λ w. among w names) words && distinct (controls_of words))

-- the lines of some names as a mask; the first name is line 0
unfoldable pub mask_of : List Word → List Word → ℕ
mask_of names [] = 0
mask_of names (w ∷ words) = 2 ^ place names w + mask_of names words

unfoldable pub gate_of : List Word → List Word → List ℕ
gate_of names words = mask_of names (controls_of words) ∷ 0 ∷ place names (target_of words) ∷ []

-- a line of a first word and more
unfoldable pub next : Stage → Word → List Word → Step
next start word more = when (same word (ascii ".version")) versioned
next versioned word more =
    when (same word (ascii ".numvars") && (eqb (length more) 1 && is_number (get_or more 0 []))) (counted (get_or more 0 []))
next (counted number) word more =
    when (same word (ascii ".variables") && (every is_name more && (distinct more && same number (decimal (length more))))) (named more optional_parts)
next (named names parts) word more =
    choice (same word (ascii ".begin") && eqb (length more) 0) (goes (begun names))
    (when (among word parts && (not (same word (ascii ".constants")) || is_constants (length names) more))
    (named names (keep (λ p. not (same p word)) parts)))
next (begun names) word more =
    choice (same word (ascii ".end") && eqb (length more) 0) (goes (done names))
    (choice (is_gate names word more) (adds (gate_of names more) (begun names)) (stops 14))
next (done names) word more = stops 14

-- a gate is due
abbrev pub gate_due : Stage → Bool
gate_due start = false
gate_due versioned = false
gate_due (counted number) = false
gate_due (named names parts) = false
gate_due (begun names) = true
gate_due (done names) = false

-- a word that begins with another letter than t (116)
unfoldable pub is_other : Word → Bool
is_other word = begins (λ b. is_letter b && not (eqb b 116)) word

-- a tab, a space or a visible byte
unfoldable pub is_plain : ℕ → Bool
is_plain b = eqb b 9 || (leb 32 b && leb b 126)

-- a line with its words: blank lines and those that start with # (35) are skipped; 15 before 14
unfoldable pub step_with : Stage → List ℕ → List Word → Step
step_with stage line [] = goes stage
step_with stage line (word ∷ more) =
    choice (begins (eqb 35) word) (goes stage)
    (choice (gate_due stage && is_other word) (stops 15)
    (choice (every is_plain line) (next stage word more) (stops 14)))

unfoldable pub step_of : Stage → List ℕ → Step
step_of stage line = step_with stage line (words_of line)
