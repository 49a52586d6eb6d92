-- Laws of one line: inverted, and forced.
use Rattle.std.proofs.Common.{ℕ, ◌+◌, ◌-◌, ◌^◌, ◌≤◌, ◌<◌, ◌≡◌, sym, ap, ◌∙◌, ◌↔◌, ◌≢◌, arith, bit_and, bit_xor, eqb, eq-eqb, ne_eqb}
use lib.Pow.{pow-lt}
use lib.Bits.{and_zero_l, and_zero_r, xor_disjoint, xor_lt, xor_zero_r}
use Rattle.basics.proofs.Tests.{by_test, by_equal}
use Rattle.words.specs.Word.{bit, flip, force}
use Rattle.words.proofs.Bits.{bit_le, bit-and, bit-xor, bit-xor-one, bit_of_zero, bit-one-line, bit_other_line, word_ext_all}

pub bit-flip-same : (s j : ℕ) → bit (flip s j) j ≡ 1 - bit s j
unfolding flip
bit-flip-same s j = bit-xor s (2 ^ j) j ∙ ap (bit_xor (bit s j)) (bit-one-line j) ∙ bit-xor-one s j

pub bit_flip_other : (s j k : ℕ) → j ≢ k → bit (flip s j) k ≡ bit s k
unfolding flip
bit_flip_other s j k d = bit-xor s (2 ^ j) k ∙ ap (bit_xor (bit s k)) (bit_other_line j k d) ∙ xor_zero_r (bit s k)

pub flip-flip : (s j : ℕ) → flip (flip s j) j ≡ s
flip-flip s j = word_ext_all (flip (flip s j) j) s (λ k. by_equal j k
    (λ e. rw (← e) (omega (arith, bit-flip-same (flip s j) j, bit-flip-same s j, bit_le s j)))
    (λ d. bit_flip_other (flip s j) j k d ∙ bit_flip_other s j k d))

-- a line that is 0 is added
pub flip-adds : (s j : ℕ) → bit s j ≡ 0 → flip s j ≡ s + 2 ^ j
unfolding flip
flip-adds s j e = xor_disjoint s (2 ^ j) (word_ext_all (bit_and s (2 ^ j)) 0 apart)
  where
    apart : (k : ℕ) → bit (bit_and s (2 ^ j)) k ≡ bit 0 k
    apart k = rw (bit-and s (2 ^ j) k, bit_of_zero k)
        (by_equal j k (λ q. rw (← q, e) (and_zero_l (bit (2 ^ j) j))) (λ d. rw (bit_other_line j k d) (and_zero_r (bit s k))))

pub flip-lt : (n s j : ℕ) → s < 2 ^ n → j < n → flip s j < 2 ^ n
unfolding flip
flip-lt n s j h l = xor_lt n s (2 ^ j) h (pow-lt l)

pub flip_differs : (s j : ℕ) → flip s j ≢ s
flip_differs s j e = omega (arith, bit-flip-same s j, bit_le s j, ap (λ x. bit x j) e)

pub bit-force-same : (s j v : ℕ) → v ≤ 1 → bit (force s j v) j ≡ v
unfolding force
bit-force-same s j v h = by_equal (bit s j) v
    (λ e. rw (eq-eqb (bit s j) v e) e)
    (λ d. rw (ne_eqb (bit s j) v d) (omega (arith, bit-flip-same s j, bit_le s j)))

pub bit_force_other : (s j v k : ℕ) → j ≢ k → bit (force s j v) k ≡ bit s k
unfolding force
bit_force_other s j v k d = by_test (eqb (bit s j) v) (λ t. rw t) (λ t. rw t (bit_flip_other s j k d))

pub force-lt : (n s j v : ℕ) → s < 2 ^ n → j < n → force s j v < 2 ^ n
unfolding force
force-lt n s j v h l = by_test (eqb (bit s j) v) (λ t. rw t h) (λ t. rw t (flip-lt n s j h l))

-- forcing a line changes the word exactly where the line had the other value
pub force_same_iff : (s j v : ℕ) → v ≤ 1 → (force s j v ≡ s) ↔ (bit s j ≡ v)
unfolding force
force_same_iff s j v h = (
  λ e. sym (ap (λ x. bit x j) e) ∙ bit-force-same s j v h,
  λ e. rw (eq-eqb (bit s j) v e),
)

-- a line that has not the value is inverted
pub force_other : (s j v : ℕ) → bit s j ≢ v → force s j v ≡ flip s j
unfolding force
force_other s j v d = rw (ne_eqb (bit s j) v d)

-- two lines are inverted, or one forced and the other inverted, in either order
flip_swap : (s j k : ℕ) → k ≢ j → flip (flip s j) k ≡ flip (flip s k) j
flip_swap s j k d = word_ext_all (flip (flip s j) k) (flip (flip s k) j) (λ i. by_equal j i
    (λ e. rw (← e, bit_flip_other (flip s j) k j d, bit-flip-same s j, bit-flip-same (flip s k) j, bit_flip_other s k j d))
    (λ a. rw (bit_flip_other (flip s k) j i a) (by_equal k i
    (λ e. rw (← e) (bit-flip-same (flip s j) k ∙ ap (λ b. 1 - b) (bit_flip_other s j k (λ q. d (sym q))) ∙ sym (bit-flip-same s k)))
    (λ b. bit_flip_other (flip s j) k i b ∙ bit_flip_other s j i a ∙ sym (bit_flip_other s k i b)))))

pub force-flip : (s j v k : ℕ) → k ≢ j → flip (force s j v) k ≡ force (flip s k) j v
unfolding force
force-flip s j v k d = rw (bit_flip_other s k j d) (by_test (eqb (bit s j) v) (λ t. rw t) (λ t. rw t (flip_swap s j k d)))
