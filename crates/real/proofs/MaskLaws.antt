-- Laws of masks: the mask of the names of the lines that are on is the mask.
use Prim.Native.Nat.{ℕ, zero, suc, ◌+◌, ◌-◌, ◌*◌, ◌/◌, ◌%◌, ◌^◌, ◌<◌}
use mathlib.Core.Path.{◌≡◌, refl, ap, ◌∙◌}
use mathlib.Core.List.{List, [], ◌∷◌, ◌++◌, map}
use native.Mathlib.Omega.{arith}
use native.Mathlib.Numerals.{add-one}
use native.Mathlib.Nat.{mod-one, div-one, mod-lt, mod-eq_of_lt}
use lib.ListN.{length, take, get_or, length-append, length-map}
use lib.Seq.{take_at, get_or_at}
use lib.Pow.{mod-mod-pow, field}
use lib.Dec.{eqb}
use Rattle.basics.specs.Choice.{choice}
use Rattle.basics.specs.Lists.{up_from, keep, All}
use Rattle.words.specs.Word.{bit, lines_on}
use Rattle.words.proofs.Bits.{half_on}
use Rattle.real.specs.Form.{mask_of, controls_of, target_of}
use Rattle.real.specs.Export.{name_of}
use Rattle.real.proofs.NameLaws.{place_of}

-- the sum of the lines' words
pub powers : List ℕ → ℕ
powers [] = 0
powers (j ∷ js) = 2 ^ j + powers js

one_more : (b j : ℕ) (l : List ℕ) → b < 2 → powers (choice (eqb b 1) (j ∷ l) l) ≡ b * 2 ^ j + powers l
unfolding powers
one_more zero j l h = omega arith
one_more (suc zero) j l h = omega arith
one_more (suc (suc b)) j l h = absurd (omega arith)

-- the lowest of k + 1 digits, and the rest
low_digit : (x k : ℕ) → x % 2 ^ suc k ≡ x % 2 + 2 * (x / 2 % 2 ^ k)
low_digit x k =
    let m : x % 2 ^ (k + 1) % 2 ≡ x % 2 = mod-mod-pow x k 1 in
    let f : x % 2 ^ (k + 1) / 2 ≡ x / 2 % 2 ^ k = field x k 1 in
    rw (← add-one k) (omega arith)

-- the lines from a on, of them k, make the k digits above the a lowest
on_digits : (w a k : ℕ) → powers (keep (λ j. eqb (bit w j) 1) (up_from a k)) ≡ 2 ^ a * (w / 2 ^ a % 2 ^ k)
unfolding keep up_from bit powers
on_digits w a zero = rw (mod-one (w / 2 ^ a)) (omega arith)
on_digits w a (suc k) =
    one_more (w / 2 ^ a % 2) a (keep (λ j. eqb (w / 2 ^ j % 2) 1) (up_from (suc a) k)) (mod-lt (w / 2 ^ a) (omega arith))
    ∙ rw (on_digits w (suc a) k, low_digit (w / 2 ^ a) k, half_on w a)
    (spread (2 ^ a) (w / 2 ^ a % 2) (w / 2 ^ suc a % 2 ^ k) (2 ^ suc a) (omega arith))
  where
    spread : (p b r q : ℕ) → q ≡ 2 * p → b * p + q * r ≡ p * (b + 2 * r)
    spread p b r q e = rw e (omega arith)

pub powers_lines : (n w : ℕ) → w < 2 ^ n → powers (lines_on n w) ≡ w
unfolding lines_on
powers_lines n w h = on_digits w 0 n ∙ rw (div-one w, mod-eq_of_lt h) (omega arith)

-- names of lines below n make the lines' words
mask_powers : (n : ℕ) (js : List ℕ) → All (λ j. j < n) js → mask_of (map name_of (up_from 0 n)) (map name_of js) ≡ powers js
unfolding mask_of powers
mask_powers n [] h = refl
mask_powers n (j ∷ js) h = rw (place_of n j h.0, mask_powers n js h.1)

pub mask_of_lem : (n w : ℕ) → w < 2 ^ n → All (λ j. j < n) (lines_on n w) → mask_of (map name_of (up_from 0 n)) (map name_of (lines_on n w)) ≡ w
mask_of_lem n w h all = mask_powers n (lines_on n w) all ∙ powers_lines n w h

-- ---- the target is named last

map-append : (js ks : List ℕ) → map name_of (js ++ ks) ≡ map name_of js ++ map name_of ks
map-append [] ks = refl
map-append (j ∷ js) ks = ap (λ t. name_of j ∷ t) (map-append js ks)

pub length_snoc : (js : List ℕ) (t : ℕ) → length (map name_of (js ++ (t ∷ []))) ≡ suc (length js)
length_snoc js t = length-map (js ++ (t ∷ [])) name_of ∙ length-append js (t ∷ []) ∙ omega arith

pub controls_of_lem : (js : List ℕ) (t : ℕ) → controls_of (map name_of (js ++ (t ∷ []))) ≡ map name_of js
unfolding controls_of
controls_of_lem js t =
    let l = length_snoc js t in
    let e : length (map name_of js) ≡ length (map name_of (js ++ (t ∷ []))) - 1 = length-map js name_of ∙ omega arith in
    ap (take (length (map name_of (js ++ (t ∷ []))) - 1)) (map-append js (t ∷ [])) ∙ take_at (map name_of js) (name_of t ∷ []) _ e

pub target_of_lem : (js : List ℕ) (t : ℕ) → target_of (map name_of (js ++ (t ∷ []))) ≡ name_of t
unfolding target_of
target_of_lem js t =
    let l = length_snoc js t in
    let e : length (map name_of js) ≡ length (map name_of (js ++ (t ∷ []))) - 1 = length-map js name_of ∙ omega arith in
    ap (λ ws. get_or ws (length (map name_of (js ++ (t ∷ []))) - 1) []) (map-append js (t ∷ [])) ∙ get_or_at (map name_of js) (name_of t) [] [] _ e
