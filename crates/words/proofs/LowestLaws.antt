-- The lowest line of a word that is 1, as code finds it: by the zeros below it.
use Rattle.std.proofs.Common.{ℕ, zero, suc, ◌+◌, ◌/◌, ◌%◌, ◌^◌, ◌<◌, ◌≡◌, sym, ◌∙◌, ◌≢◌, div-one, add-zero, arith, eqb, get_or}
use lib.Count.{count_trailing_zeros}
use Rattle.basics.specs.Lists.{up_from, keep}
use Rattle.basics.proofs.Tests.{by_equal}
use Rattle.words.specs.Word.{bit, lines_on}
use Rattle.words.proofs.Bits.{half_on}

odd : (m : ℕ) → m % 2 ≢ 0 → m % 2 ≡ 1
odd m d = omega arith

-- below k there is a line that is 1, unless the word is 0
trailing_lt : (k m : ℕ) → m < 2 ^ k → m ≢ 0 → count_trailing_zeros k m < k
unfolding count_trailing_zeros
trailing_lt zero m h d = absurd (d (omega arith))
trailing_lt (suc k) m h d = by_equal (m % 2) 0
    (λ e. rw e (let r = trailing_lt k (m / 2) (omega arith) (λ z. d (omega arith)) in omega arith))
    (λ o. rw (odd m o) (omega arith))

first_on : (w a k : ℕ) → count_trailing_zeros k (w / 2 ^ a) < k
    → get_or (keep (λ j. eqb (bit w j) 1) (up_from a k)) 0 0 ≡ a + count_trailing_zeros k (w / 2 ^ a)
unfolding keep up_from bit count_trailing_zeros
first_on w a zero h = absurd (omega arith)
first_on w a (suc k) h = by_equal (w / 2 ^ a % 2) 0
    (λ e.
    let g : suc (count_trailing_zeros k (w / 2 ^ a / 2)) < suc k = rw e at h in
    let l : count_trailing_zeros k (w / 2 ^ a / 2) < k = omega arith in
    let low : count_trailing_zeros k (w / 2 ^ suc a) < k = rw (half_on w a) at l in
    let next : suc a + count_trailing_zeros k (w / 2 ^ suc a) ≡ a + suc (count_trailing_zeros k (w / 2 ^ suc a)) = omega arith in
    rw (e, half_on w a) (first_on w (suc a) k low ∙ next))
    (λ o. rw (odd (w / 2 ^ a) o) (sym (add-zero a)))

pub lowest_line : (w : ℕ) → w < 2 ^ 32 → w ≢ 0 → count_trailing_zeros 32 w ≡ get_or (lines_on 32 w) 0 0
unfolding lines_on
lowest_line w h d = sym (first_on w 0 32 (rw (div-one w) (trailing_lt 32 w h d)) ∙ rw (div-one w) (omega arith))
