-- A number and its bytes say the same: numbers and words, both ways.
use Rattle.std.specs.Prelude.{◌≡◌, refl, ℕ, zero, suc, ◌+◌, ◌*◌, ◌/◌, ◌%◌, ◌^◌, ◌<◌, ◌≤◌, List, [], ◌∷◌, ◌++◌, length, take, drop}
use Rattle.std.proofs.Common.{ap, ap₂, sym, ◌∙◌, arith, pow-suc, append_assoc, get_or, drop-cons}
use Rattle.std.proofs.Math.Seq.{drop-drop}
use Rattle.std.proofs.Math.ListN.{take-append-drop}
use Rattle.basics.specs.Lists.{each, All}
use Rattle.basics.proofs.All.{all_at}
use Rattle.number_bytes.specs.Bytes.{bytes_of, number_at, words_at}
use Rattle.number_bytes.proofs.ByteLaws.{number_skip, length_bytes}

-- ---- past other bytes

words_skip : (count : ℕ) (pre bytes : List ℕ) (k : ℕ) → words_at count (pre ++ bytes) (length pre + k) ≡ words_at count bytes k
unfolding words_at
words_skip zero pre bytes k = refl
words_skip (suc count) pre bytes k =
    let e : length pre + k + 4 ≡ length pre + (k + 4) = omega arith in
    ap₂ ◌∷◌ (number_skip 4 pre bytes k) (ap (words_at count (pre ++ bytes)) e ∙ words_skip count pre bytes (k + 4))

-- ---- written, then read

pub bytes_number : (width x : ℕ) (rest : List ℕ) → x < 256 ^ width → number_at width (bytes_of width x ++ rest) 0 ≡ x
unfolding bytes_of number_at
bytes_number zero x rest h = omega arith
bytes_number (suc width) x rest h =
    let one = number_skip width (x % 256 ∷ []) (bytes_of width (x / 256) ++ rest) 0 in
    let more = bytes_number width (x / 256) rest (omega (arith, pow-suc 256 width)) in
    omega arith

pub words_front : (words rest : List ℕ) → All (λ w. w < 256 ^ 4) words → words_at (length words) (each (bytes_of 4) words ++ rest) 0 ≡ words
unfolding words_at each
words_front [] rest h = refl
words_front (w ∷ words) rest h =
    let more : List ℕ = each (bytes_of 4) words ++ rest in
    let e : 0 + 4 ≡ length (bytes_of 4 w) + 0 = omega (arith, length_bytes 4 w) in
    rw (append_assoc (bytes_of 4 w) (each (bytes_of 4) words) rest)
    (ap₂ ◌∷◌ (bytes_number 4 w more h.0) (ap (words_at (length words) (bytes_of 4 w ++ more)) e ∙ words_skip (length words) (bytes_of 4 w) more 0
    ∙ words_front words rest h.1))

pub words_there : (pre words rest : List ℕ) (at : ℕ) → length pre ≡ at → All (λ w. w < 256 ^ 4) words
    → words_at (length words) (pre ++ (each (bytes_of 4) words ++ rest)) at ≡ words
words_there pre words rest at e h =
    let f : at ≡ length pre + 0 = omega arith in
    ap (words_at (length words) (pre ++ (each (bytes_of 4) words ++ rest))) f
    ∙ words_skip (length words) pre (each (bytes_of 4) words ++ rest) 0
    ∙ words_front words rest h

-- ---- read, then written

-- every entry is a byte
abbrev pub Bytes : List ℕ → Type 0
Bytes bytes = All (λ b. b < 256) bytes

byte_low : (b r : ℕ) → b < 256 → (b + 256 * r) % 256 ≡ b
byte_low b r h = omega arith

byte_rest : (b r : ℕ) → b < 256 → (b + 256 * r) / 256 ≡ r
byte_rest b r h = omega arith

pub number_bytes : (width : ℕ) (bytes : List ℕ) (at : ℕ) → Bytes bytes → at + width ≤ length bytes
    → bytes_of width (number_at width bytes at) ≡ take width (drop at bytes)
unfolding bytes_of number_at
number_bytes zero bytes at w h = refl
number_bytes (suc width) bytes at w h =
    let b = all_at (λ x. x < 256) bytes at 0 (omega arith) w in
    rw (
      drop-cons bytes at 0 (omega arith),
      byte_low (get_or bytes at 0) (number_at width bytes (suc at)) b,
      byte_rest (get_or bytes at 0)
          (number_at width bytes (suc at)) b,
    )
    (ap (λ l. get_or bytes at 0 ∷ l) (number_bytes width bytes (suc at) w (omega arith)))

-- the bytes of a number, and those after it
pub number_on : (width : ℕ) (bytes : List ℕ) (at : ℕ) → Bytes bytes → at + width ≤ length bytes
    → bytes_of width (number_at width bytes at) ++ drop (at + width) bytes ≡ drop at bytes
number_on width bytes at w h =
    ap₂ ◌++◌ (number_bytes width bytes at w h) (sym (drop-drop width at bytes)) ∙ take-append-drop width (drop at bytes)

pub words_on : (count : ℕ) (bytes : List ℕ) (at end : ℕ) → Bytes bytes → at + 4 * count ≡ end → end ≤ length bytes
    → each (bytes_of 4) (words_at count bytes at) ++ drop end bytes ≡ drop at bytes
unfolding words_at each
words_on zero bytes at end w e h = let f : end ≡ at = omega arith in ap (λ i. drop i bytes) f
words_on (suc count) bytes at end w e h =
    append_assoc (bytes_of 4 (number_at 4 bytes at)) (each (bytes_of 4) (words_at count bytes (at + 4))) (drop end bytes)
    ∙ ap (λ r. bytes_of 4 (number_at 4 bytes at) ++ r) (words_on count bytes (at + 4) end w (omega arith) h)
    ∙ number_on 4 bytes at w (omega arith)
