-- Laws of numbers as bytes: what code makes of them, one at a time and word for word.
use Rattle.std.specs.Prelude.{◌≡◌, refl, ℕ, zero, suc, ◌+◌, ◌-◌, ◌*◌, ◌/◌, ◌%◌, ◌≤◌, ◌<◌, List, [], ◌∷◌, ◌++◌, length, take, drop}
use Rattle.std.specs.Int.{w32, to_le_bytes, from_le_bytes}
use Rattle.std.proofs.Common.{ap, ap₂, sym, ◌∙◌, arith, add-one, append_assoc, append-nil, get_or, replicate, drop-cons}
use Rattle.std.proofs.Math.ListN.{set}
use Rattle.std.proofs.Math.Seq.{take-suc, take-suc-set, drop-drop, length-take-le, get_or-append-add}
use Rattle.std.proofs.lemmas.List.Edits.{sets, sets-eq}
use borrow.Rule.Slice.PartMut.{put_mid}
use Rattle.basics.specs.Lists.{each}
use Rattle.basics.proofs.Lists.{length-each}
use Rattle.basics.proofs.PutLaws.{sets-append}
use Rattle.number_bytes.specs.Bytes.{bytes_of, number_at, words_at}

-- ---- numbers read

-- past other bytes
pub number_skip : (width : ℕ) (pre bytes : List ℕ) (k : ℕ) → number_at width (pre ++ bytes) (length pre + k) ≡ number_at width bytes k
unfolding number_at
number_skip zero pre bytes k = refl
number_skip (suc width) pre bytes k =
    let e : suc (length pre + k) ≡ length pre + suc k = omega arith in
    ap₂ (λ a b. a + 256 * b) (get_or-append-add pre bytes k 0) (ap (number_at width (pre ++ bytes)) e ∙ number_skip width pre bytes (suc k))

number_zeros : (width : ℕ) → number_at width (replicate width 0) 0 ≡ 0
unfolding number_at
number_zeros zero = refl
number_zeros (suc width) = let rest = number_skip width (0 ∷ []) (replicate width 0) 0 in omega (arith, number_zeros width)

-- bytes that are padded with zeros make the number that they make
padded : (width n : ℕ) (bytes : List ℕ) (at : ℕ) → width ≤ n → at + width ≤ length bytes
    → number_at n (take width (drop at bytes) ++ drop width (replicate n 0)) 0 ≡ number_at width bytes at
unfolding number_at
padded zero n bytes at h l = number_zeros n
padded (suc width) zero bytes at h l = absurd (omega arith)
padded (suc width) (suc n) bytes at h l =
    let rest = take width (drop (suc at) bytes) ++ drop width (replicate n 0) in
    rw (drop-cons bytes at 0 (omega arith))
    (ap (λ r. get_or bytes at 0 + 256 * r)
    (number_skip n (get_or bytes at 0 ∷ []) rest 0 ∙ padded width n bytes (suc at) (omega arith) (omega arith)))

four_read : (bytes : List ℕ) → from_le_bytes w32 bytes ≡ number_at 4 bytes 0
unfolding number_at
four_read bytes = omega arith

-- so many bytes copied to the front of four zeros
pub number_read : (width : ℕ) (bytes copied : List ℕ) (at : ℕ) → width ≤ 4 → at + width ≤ length bytes
    → copied ≡ take (at + width - at) (drop at bytes)
    → from_le_bytes w32 (copied ++ drop width (replicate 4 0)) ≡ number_at width bytes at
number_read width bytes copied at h l e =
    let n : at + width - at ≡ width = omega arith in
    rw (e, n) (four_read (take width (drop at bytes) ++ drop width (replicate 4 0)) ∙ padded width 4 bytes at h l)

-- ---- numbers written

pub length_bytes : (width x : ℕ) → length (bytes_of width x) ≡ width
unfolding bytes_of
length_bytes zero x = refl
length_bytes (suc width) x = ap suc (length_bytes width (x / 256))

-- the lower bytes of a number
lower_bytes : (width n x : ℕ) → width ≤ n → take width (bytes_of n x) ≡ bytes_of width x
unfolding bytes_of
lower_bytes zero n x h = refl
lower_bytes (suc width) zero x h = absurd (omega arith)
lower_bytes (suc width) (suc n) x h = ap (λ r. x % 256 ∷ r) (lower_bytes width n (x / 256) (omega arith))

four_written : (x : ℕ) → to_le_bytes w32 x ≡ bytes_of 4 x
unfolding bytes_of
four_written x =
    let two : x / 256 / 256 ≡ x / 65536 = omega arith in
    let three : x / 65536 / 256 ≡ x / 16777216 = omega arith in
    rw (two, three)

-- the lower bytes copied over as many
pub number_written : (width : ℕ) (out copied four : List ℕ) (at x : ℕ) → width ≤ 4 → at + width ≤ length out
    → four ≡ to_le_bytes w32 x → copied ≡ take width four → put_mid at (at + width - at) out copied ≡ sets out at (bytes_of width x)
number_written width out copied four at x h l e d =
    let lower : copied ≡ bytes_of width x = d ∙ ap (take width) (e ∙ four_written x) ∙ lower_bytes width 4 x h in
    let n : at + width - at ≡ width = omega arith in
    let stored = rw (length_bytes width x) at (sets-eq (bytes_of width x) out at (omega (arith, length_bytes width x))) in
    rw (lower, n, drop-drop width at out) (sym (stored ∙ append_assoc (take at out) (bytes_of width x) (drop (at + width) out)))

-- ---- words, one a turn

pub length-words : (count : ℕ) (bytes : List ℕ) (at : ℕ) → length (words_at count bytes at) ≡ count
unfolding words_at
length-words zero bytes at = refl
length-words (suc count) bytes at = ap suc (length-words count bytes (at + 4))

words_more : (count : ℕ) (bytes : List ℕ) (at : ℕ)
    → words_at (suc count) bytes at ≡ words_at count bytes at ++ number_at 4 bytes (at + 4 * count) ∷ []
unfolding words_at
words_more zero bytes at = let e : at + 4 * 0 ≡ at = omega arith in rw e
words_more (suc count) bytes at =
    let e : at + 4 + 4 * count ≡ at + 4 * suc count = omega arith in
    ap (λ r. number_at 4 bytes at ∷ r) (words_more count bytes (at + 4) ∙ rw e)

pub words_read : (out bytes : List ℕ) (at i word : ℕ) → i < length out → take i out ≡ words_at i bytes at → word ≡ number_at 4 bytes (at + 4 * i)
    → take (i + 1) (set out i word) ≡ words_at (i + 1) bytes at
words_read out bytes at i word h e d = rw (add-one i, take-suc-set out i word h, e, d) (sym (words_more i bytes at))

each-append : (f : ℕ → List ℕ) (xs ys : List ℕ) → each f (xs ++ ys) ≡ each f xs ++ each f ys
unfolding each
each-append f [] ys = refl
each-append f (x ∷ xs) ys = ap (λ r. f x ++ r) (each-append f xs ys) ∙ sym (append_assoc (f x) (each f xs) (each f ys))

pub words_put : (out words : List ℕ) (at i : ℕ) → i < length words
    → sets (sets out at (each (bytes_of 4) (take i words))) (at + 4 * i) (bytes_of 4 (get_or words i 0))
    ≡ sets out at (each (bytes_of 4) (take (i + 1) words))
unfolding each
words_put out words at i h =
    let front = each (bytes_of 4) (take i words) in
    let long = length-each (bytes_of 4) 4 (length_bytes 4) (take i words) in
    let last : each (bytes_of 4) (get_or words i 0 ∷ []) ≡ bytes_of 4 (get_or words i 0) = append-nil _ in
    rw (add-one i, take-suc words i 0 h, each-append (bytes_of 4) (take i words) (get_or words i 0 ∷ []), last)
    (sets-append out at (at + 4 * i) front (bytes_of 4 (get_or words i 0)) (omega (arith, length-take-le i words (omega arith))))
