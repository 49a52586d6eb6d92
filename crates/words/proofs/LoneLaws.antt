-- Laws of the lone zero of a mask, as code finds it: the lines that a word lacks of the mask, where they are one.
use Rattle.std.specs.Prelude.{ℕ, ◌^◌, ◌<◌, ◌≡◌, refl, ◌≢◌, true, false, ◌&&◌, bit_and, bit_xor, length, eqb}
use Rattle.std.proofs.Common.{zero-le, sym, ap, ◌∙◌, arith, eq-eqb, ne_eqb, eqb-true}
use mathlib.Core.Logic.{by_cases}
use native.Mathlib.Decide.{dec_le}
use lib.Bits.{xor_lt, and_le_r}
use lib.Count.{ones}
use Rattle.std.proofs.lemmas.Bool.{eqb-false}
use Rattle.std.specs.Int.{is_power_of_two}
use Rattle.basics.proofs.Tests.{by_test, by_equal, bool_ext, and-true, and_both}
use Rattle.basics.proofs.KeptCounts.{kept_two, kept_one}
use Rattle.words.specs.Word.{bit, force, all_on, lines_on}
use Rattle.words.specs.WordOf.{word_of, lacking, lone_zero}
use Rattle.words.proofs.Bits.{by_bit, bit-and, bit-xor}
use Rattle.words.proofs.Lines.{bit-force-same, bit_force_other}
use Rattle.words.proofs.LineLists.{on_below}
use Rattle.words.proofs.Masks.{all_on_iff}
use Rattle.words.proofs.Counts.{ones_lines_below}
use Rattle.words.proofs.WordOfLaws.{word_is, word_of_none}

-- two lines that are 1 are the same where one line is
one_line : (n w j k : ℕ) → length (lines_on n w) ≡ 1 → j < n → bit w j ≡ 1 → k < n → bit w k ≡ 1 → j ≡ k
unfolding lines_on
one_line n w j k e jn jo kn ko = by_equal j k (λ q. q) (λ d. absurd (by_cases (dec_le j k)
    (λ l. omega (arith, kept_two (λ i. eqb (bit w i) 1) 0 n j k (eq-eqb (bit w j) 1 jo) (eq-eqb (bit w k) 1 ko) zero-le (omega arith) (omega arith)))
    (λ l. omega
    (arith, kept_two (λ i. eqb (bit w i) 1) 0 n k j (eq-eqb (bit w k) 1 ko) (eq-eqb (bit w j) 1 jo) zero-le (omega arith) (omega arith)))))

-- one line where no other is 1
line-one : (n w j : ℕ) → j < n → bit w j ≡ 1 → ((k : ℕ) → j ≢ k → bit w k ≢ 1) → length (lines_on n w) ≡ 1
unfolding lines_on
line-one n w j jn jo h = kept_one (λ i. eqb (bit w i) 1) 0 n j (eq-eqb (bit w j) 1 jo) zero-le (omega arith) (λ k d. ne_eqb (bit w k) 1 (h k d))

pub lacks_fit : (mask s : ℕ) → mask < 2 ^ 32 → bit_xor (bit_and s mask) mask < 2 ^ 32
lacks_fit mask s h = xor_lt 32 (bit_and s mask) mask (let a = and_le_r s mask in omega arith) h

-- what a word lacks of a mask: the mask's lines that are 0 in the word
pub on_lacks : (mask s j : ℕ) → eqb (bit (bit_xor (bit_and s mask) mask) j) 1 ≡ (eqb (bit mask j) 1 && eqb (bit s j) 0)
on_lacks mask s j =
    ap (λ v. eqb v 1) (bit-xor (bit_and s mask) mask j ∙ ap (λ v. bit_xor v (bit mask j)) (bit-and s mask j))
    ∙ by_bit mask j (λ p. by_bit s j (λ q. rw (p, q)) (λ q. rw (p, q))) (λ p. by_bit s j (λ q. rw (p, q)) (λ q. rw (p, q)))

-- each line of the lone zero
pub lone_lines : (mask s : ℕ) → lone_zero mask s ≡ word_of 32 (λ c. eqb (bit mask c) 1 && (eqb (bit s c) 0 && all_on (force mask c 0) s))
unfolding lone_zero
lone_lines mask s = refl

module _ (mask s : ℕ) where
  lacks_on : (j : ℕ) → bit mask j ≡ 1 → bit s j ≡ 0 → bit (bit_xor (bit_and s mask) mask) j ≡ 1
  lacks_on j m z = eqb-true _ 1 (on_lacks mask s j ∙ and-true (eq-eqb (bit mask j) 1 m) (eq-eqb (bit s j) 0 z))

  on_lack : (j : ℕ) → bit (bit_xor (bit_and s mask) mask) j ≡ 1 → (bit mask j ≡ 1) × (bit s j ≡ 0)
  on_lack j o =
      let both = and_both (eqb (bit mask j) 1) (eqb (bit s j) 0) (sym (on_lacks mask s j) ∙ eq-eqb _ 1 o) in
      (eqb-true (bit mask j) 1 both.0, eqb-true (bit s j) 0 both.1)

  module _ (fits : mask < 2 ^ 32) where
    -- where one line is lacked, it is the lone zero
    pub lone_one : is_power_of_two (lacking mask s) ≡ true → lacking mask s ≡ lone_zero mask s
    unfolding lone_zero lacking
    lone_one e =
        let lacks : ℕ = bit_xor (bit_and s mask) mask in
        let fit : lacks < 2 ^ 32 = lacks_fit mask s fits in
        let one : length (lines_on 32 lacks) ≡ 1 = sym (ones_lines_below 32 lacks fit) ∙ eqb-true (ones lacks) 1 e in
        word_is 32 lacks _ fit (λ j l. bool_ext
        (λ o.
        let on : bit lacks j ≡ 1 = eqb-true (bit lacks j) 1 o in
        let w = on_lack j on in
        and-true (eq-eqb (bit mask j) 1 w.0) (and-true (eq-eqb (bit s j) 0 w.1) ((all_on_iff (force mask j 0) s).1 (λ k f. by_equal j k
        (λ q. absurd (omega (arith, bit-force-same mask j 0 (omega arith), ap (bit (force mask j 0)) q)))
        (λ d.
        let m : bit mask k ≡ 1 = sym (bit_force_other mask j 0 k d) ∙ f in
        by_bit s k (λ z. absurd (d (one_line 32 lacks j k one l on (on_below 32 mask k fits m) (lacks_on k m z)))) (λ v. v))))))
        (λ t.
        let w = and_both (eqb (bit mask j) 1) _ t in
        let v = and_both (eqb (bit s j) 0) _ w.1 in
        eq-eqb (bit lacks j) 1 (lacks_on j (eqb-true (bit mask j) 1 w.0) (eqb-true (bit s j) 0 v.0))))

    -- where none or several are lacked, there is none
    pub lone_none : is_power_of_two (lacking mask s) ≡ false → 0 ≡ lone_zero mask s
    unfolding lone_zero lacking
    lone_none several =
        let lacks : ℕ = bit_xor (bit_and s mask) mask in
        sym (word_of_none 32 _ (λ j l. by_test (eqb (bit mask j) 1 && (eqb (bit s j) 0 && all_on (force mask j 0) s))
        (λ t.
        let w = and_both (eqb (bit mask j) 1) _ t in
        let v = and_both (eqb (bit s j) 0) (all_on (force mask j 0) s) w.1 in
        let on : bit lacks j ≡ 1 = lacks_on j (eqb-true (bit mask j) 1 w.0) (eqb-true (bit s j) 0 v.0) in
        let alone : (k : ℕ) → j ≢ k → bit lacks k ≢ 1 = (λ k d o.
        let u = on_lack k o in
        omega (arith, (all_on_iff (force mask j 0) s).0 v.1 k (bit_force_other mask j 0 k d ∙ u.0))) in
        absurd (eqb-false (ones lacks) 1 several (ones_lines_below 32 lacks (lacks_fit mask s fits) ∙ line-one 32 lacks j l on alone)))
        (λ t. t)))
