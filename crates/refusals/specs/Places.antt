-- The place of the first bad entry of a list, counted from 1, and 0 where none is bad.
use Rattle.std.specs.Prelude.{ℕ, suc, ◌-◌, ◌^◌, min, Bool, Option, Some, None, List, [], ◌∷◌, eqb}
use Rattle.basics.specs.Choice.{choice}

-- `place` is the place of the list's first entry; words that are left over after the last whole entry are one more bad one
unfoldable pub first_bad_from {ℓ} : {A : Type ℓ} → (A → Bool) → Bool → ℕ → List A → ℕ
first_bad_from bad leftOver place [] = choice leftOver place 0
first_bad_from bad leftOver place (a ∷ rest) = choice (bad a) place (first_bad_from bad leftOver (suc place) rest)

abbrev pub first_bad {ℓ} : {A : Type ℓ} → (A → Bool) → Bool → List A → ℕ
first_bad bad leftOver entries = first_bad_from bad leftOver 1 entries

-- a place as code has it, where 0 is none
abbrev pub some_place : ℕ → Option ℕ
some_place place = choice (eqb place 0) None (Some place)

-- a place or a number of entries as a word can tell it: what no word holds, in a list of 2 ^ 32 entries or more, is told as the largest word
unfoldable pub in_word : ℕ → ℕ
in_word number = min number (2 ^ 32 - 1)
