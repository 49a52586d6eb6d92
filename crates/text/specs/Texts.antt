-- Texts as bytes: quoted texts, the same text, and a text among others.
use Rattle.std.specs.Prelude.{ℕ, suc, Bool, true, false, not, ◌&&◌, List, [], ◌∷◌, eqb}
use Prim.Native.Char.{code}
use Prim.Native.String.{String}
use Prim.Native.String as string
use Rattle.basics.specs.Choice.{choice}
use Rattle.basics.specs.Lists.{some}

-- the bytes of a quoted text
unfoldable pub ascii : String → List ℕ
ascii string.[] = []
ascii (string.◌∷◌ c rest) = code c ∷ ascii rest

-- every entry passes a test
unfoldable pub every {ℓ} : {A : Type ℓ} → (A → Bool) → List A → Bool
every p [] = true
every p (a ∷ rest) = p a && every p rest

-- a text that begins with a byte of some kind
unfoldable pub begins : (ℕ → Bool) → List ℕ → Bool
begins p [] = false
begins p (b ∷ rest) = p b

unfoldable pub same : List ℕ → List ℕ → Bool
same [] [] = true
same [] (c ∷ u) = false
same (b ∷ t) [] = false
same (b ∷ t) (c ∷ u) = eqb b c && same t u

unfoldable pub among : List ℕ → List (List ℕ) → Bool
among t us = some (same t) us

-- no text stands twice
unfoldable pub distinct : List (List ℕ) → Bool
distinct [] = true
distinct (t ∷ us) = not (among t us) && distinct us

-- how many stand before the first that is the same; the number of all where none is
unfoldable pub place : List (List ℕ) → List ℕ → ℕ
place [] t = 0
place (u ∷ us) t = choice (same u t) 0 (suc (place us t))
