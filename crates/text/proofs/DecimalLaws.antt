-- Numbers in decimal: a number's text reads back as that number, has digits alone and no zero in front, and is no other number's.
use Prim.Native.Nat.{ℕ, zero, suc, ◌+◌, ◌-◌, ◌*◌, ◌/◌, ◌%◌, ◌≤◌, ◌<◌}
use mathlib.Core.Path.{◌≡◌, refl, sym, ap, ◌∙◌}
use mathlib.Core.Bool.{Bool, true, false, not}
use mathlib.Core.List.{List, [], ◌∷◌, ◌++◌}
use native.Mathlib.Omega.{arith}
use lib.ListN.{length, length-append}
use lib.Dec.{eqb}
use borrow.Author.Tests.{le-leb, ne_eqb}
use Rattle.basics.proofs.Tests.{and-true, or_left, or_right}
use Rattle.text.specs.Texts.{every, begins}
use Rattle.text.specs.Decimal.{digit, decimal, is_digit, is_number}
use Rattle.text.proofs.EveryLaws.{every_append}
use Rattle.text.proofs.TextLaws.{decimal_small, decimal-more, by_digits}

-- ---- read back

-- the number that a text of digits makes, read from its front: ten times what is read so far, and the next digit
abbrev read_on : ℕ → List ℕ → ℕ
read_on sofar [] = sofar
read_on sofar (byte ∷ rest) = read_on (10 * sofar + (byte - 48)) rest

abbrev pub read_number : List ℕ → ℕ
read_number text = read_on 0 text

read_last : (text : List ℕ) (sofar d : ℕ) → read_on sofar (text ++ (digit d ∷ [])) ≡ 10 * read_on sofar text + d
unfolding digit
read_last [] sofar d = omega arith
read_last (byte ∷ rest) sofar d = read_last rest (10 * sofar + (byte - 48)) d

-- The decimal of a number reads back as that number.
pub read-decimal : (x : ℕ) → read_number (decimal x) ≡ x
unfolding digit
read-decimal = by_digits (λ x. read_number (decimal x) ≡ x)
    (λ x h. rw (decimal_small x h) (omega arith))
    (λ x h e. rw (decimal-more x h) (read_last (decimal (x / 10)) 0 (x % 10) ∙ omega (arith, e)))

-- Two numbers that have the same decimal are equal.
pub decimal-one : (x y : ℕ) → decimal x ≡ decimal y → x ≡ y
decimal-one x y e = sym (read-decimal x) ∙ ap read_number e ∙ read-decimal y

-- ---- digits alone, at least one

pub decimal-some : (x : ℕ) → 1 ≤ length (decimal x)
decimal-some = by_digits (λ x. 1 ≤ length (decimal x))
    (λ x h. rw (decimal_small x h) (omega arith))
    (λ x h e. rw (decimal-more x h, length-append (decimal (x / 10)) (digit (x % 10) ∷ [])) (omega arith))

digit-is : (d : ℕ) → d < 10 → is_digit (digit d) ≡ true
unfolding is_digit digit
digit-is d h = and-true (le-leb 48 (48 + d) (omega arith)) (le-leb (48 + d) 57 (omega arith))

pub all_digits : (x : ℕ) → every is_digit (decimal x) ≡ true
unfolding every
all_digits = by_digits (λ x. every is_digit (decimal x) ≡ true)
    (λ x h. rw (decimal_small x h) (and-true (digit-is x h) refl))
    (λ x h e. rw (decimal-more x h)
    (every_append is_digit (decimal (x / 10)) (digit (x % 10) ∷ []) e (and-true (digit-is (x % 10) (omega arith)) refl)))

-- ---- no zero in front

begins-append : (p : ℕ → Bool) (t u : List ℕ) → 1 ≤ length t → begins p (t ++ u) ≡ begins p t
unfolding begins
begins-append p [] u h = absurd (omega arith)
begins-append p (b ∷ t) u h = refl

pub no_zero_in_front : (x : ℕ) → 1 ≤ x → begins (eqb 48) (decimal x) ≡ false
unfolding begins digit
no_zero_in_front = by_digits (λ x. 1 ≤ x → begins (eqb 48) (decimal x) ≡ false)
    (λ x h k. rw (decimal_small x h) (ne_eqb 48 (48 + x) (λ z. omega arith)))
    (λ x h e k. rw (decimal-more x h)
    (begins-append (eqb 48) (decimal (x / 10)) (digit (x % 10) ∷ []) (decimal-some (x / 10)) ∙ e (omega arith)))

-- A number's decimal is of the form of a number.
pub number_of : (x : ℕ) → is_number (decimal x) ≡ true
unfolding is_number
number_of zero = and-true (all_digits 0) (or_right (not (begins (eqb 48) (decimal 0))) (rw (decimal_small 0 (omega arith))))
number_of (suc x) = and-true (all_digits (suc x)) (or_left (eqb (length (decimal (suc x))) 1) (ap not (no_zero_in_front (suc x) (omega arith))))
