-- Laws of words joined: a line is 1 in a join where it is 1 in one of the two, and in a meet where it is in both.
use Rattle.std.proofs.Common.{ℕ, ◌%◌, ◌/◌, ◌^◌, ◌≡◌, sym, ap, ◌∙◌, ◌&&◌, ◌||◌, bit_and, bit_or, eqb}
use lib.Bits.{and_comm, or_shr, or_mod}
use Rattle.basics.specs.Lists.{up_from, keep}
use Rattle.basics.proofs.Lists.{keep-cong, keep-keep}
use Rattle.words.specs.Word.{bit, lines_on}
use Rattle.words.proofs.Bits.{by_bit, bit-and}

pub bit-or : (a b j : ℕ) → bit (bit_or a b) j ≡ bit_or (bit a j) (bit b j)
unfolding bit
bit-or a b j = ap (λ x. x % 2) (or_shr a b j) ∙ or_mod (a / 2 ^ j) (b / 2 ^ j) 1

pub on_or : (a b j : ℕ) → eqb (bit (bit_or a b) j) 1 ≡ (eqb (bit a j) 1 || eqb (bit b j) 1)
on_or a b j =
    ap (λ v. eqb v 1) (bit-or a b j)
    ∙ by_bit a j (λ p. by_bit b j (λ q. rw (p, q)) (λ q. rw (p, q))) (λ p. by_bit b j (λ q. rw (p, q)) (λ q. rw (p, q)))

pub on_and : (a b j : ℕ) → eqb (bit (bit_and a b) j) 1 ≡ (eqb (bit a j) 1 && eqb (bit b j) 1)
on_and a b j =
    ap (λ v. eqb v 1) (bit-and a b j)
    ∙ by_bit a j (λ p. rw p) (λ p. by_bit b j (λ q. rw (p, q)) (λ q. rw (p, q)))

-- the lines of both are those of the one that are in the other
pub lines_and : (n a b : ℕ) → lines_on n (bit_and a b) ≡ keep (λ j. eqb (bit a j) 1) (lines_on n b)
unfolding lines_on
lines_and n a b =
    keep-cong (λ j. ap (λ w. eqb (bit w j) 1) (and_comm a b) ∙ on_and b a j) (up_from 0 n)
    ∙ sym (keep-keep (λ j. eqb (bit b j) 1) (λ j. eqb (bit a j) 1) (up_from 0 n))
