-- Laws of the words of what is left: the score of a vector level by level, and what a vector leaves.
use Rattle.std.specs.Prelude.{ℕ, zero, suc, ◌+◌, ◌-◌, ◌^◌, ◌≤◌, ◌<◌, ◌≡◌, refl, Bool, true, false, not}
use Rattle.std.specs.Prelude.{◌&&◌, ◌||◌, replicate, List, [], ◌∷◌, bit_and, bit_or, bit_xor, length, get_or, set, eqb}
use Rattle.std.proofs.Common.{sym, ap, ap₂, ◌∙◌, arith, length-set, get_or-set_same, get_or-set_other, eq-eqb, eqb-true}
use Rattle.std.proofs.lemmas.List.{length-replicate}
use Rattle.std.proofs.Math.Bool.{or-false}
use Rattle.basics.specs.Choice.{choice}
use Rattle.basics.specs.Lists.{some, All}
use Rattle.basics.specs.Sums.{sum_from}
use Rattle.basics.proofs.Tests.{and_both, by_equal}
use Rattle.basics.proofs.Lists.{keep-keep, keep_none}
use Rattle.basics.proofs.Kept.{keep_agree, keep-every}
use Rattle.basics.proofs.SumLaws.{sum-cong, sum_more, sum_end}
use Rattle.words.specs.Word.{bit, all_ones, lines_on}
use Rattle.words.specs.Inverse.{inverse}
use Rattle.words.specs.WordOf.{lacking}
use Rattle.words.proofs.Bits.{bit_of_zero}
use Rattle.words.proofs.Inverse.{not_off, not_on, inverse_code}
use Rattle.words.proofs.LineLists.{all_lines}
use Rattle.words.proofs.OrLaws.{on_and}
use Rattle.words.proofs.SplitLaws.{length-wide, lacking_off, split-lt, split-count}
use Rattle.circuit.specs.Gates.{gates_of}
use Rattle.circuit.specs.Limits.{most_lines, levels}
use Rattle.circuit.specs.Runs.{forward}
use Rattle.circuit.specs.Sound.{AllOk, Sound}
use Rattle.circuit.specs.declared.Gate.{Gate}
use Rattle.circuit.proofs.RunLaws.{forward-lt}
use Rattle.faults.specs.Sites.{sites}
use Rattle.simulator.specs.Faulty.{caught}
use Rattle.faults.specs.declared.Fault.{Fault}
use Rattle.faults.specs.Classes.{fault_of, stuck_faults}
use Rattle.marking.specs.Marks.{level_marked, is_on}
use Rattle.judge.specs.Judging.{caught_by_some, uncaught_of}
use Rattle.faults.proofs.ClassParts.{all_stuck}
use Rattle.marking.proofs.MarkLaws.{caught_stuck}
use Rattle.marking.proofs.Counting.{count_stuck}
use Rattle.testsets.specs.Sets.{score}
use Rattle.testsets.specs.Left.{left_of, OnSites, Within}
use Rattle.faults.proofs.SiteCount.{site_below}
use Rattle.testsets.proofs.Changes.{Changed}

-- ---- words within the sites

-- words of no lines, and what lies after them
zero_at : (k i : ℕ) → get_or {A = ℕ} (replicate k 0) i 0 ≡ 0
zero_at zero i = refl
zero_at (suc k) zero = refl
zero_at (suc k) (suc i) = zero_at k i

-- none of a circuit's levels
on_none : (n : ℕ) (words : List ℕ) → Sound n words → OnSites n (gates_of words) (replicate levels 0)
on_none n words ok = record {
  wide = omega (arith, ok.gates_fit, length-replicate {A = ℕ} levels 0);
  inside = λ i j h o.
      let off : 1 ≡ bit 0 j = sym o ∙ ap (λ w. bit w j) (zero_at levels i) in
      absurd (omega (arith, bit_of_zero j));
}

pub within_none : (n : ℕ) (words : List ℕ) → Sound n words → Within n (gates_of words) (replicate levels 0) (replicate levels 0)
within_none n words ok = record { at_0 = on_none n words ok; at_1 = on_none n words ok }

-- a word of a level that has no other lines
on_set : (n : ℕ) (gs : List Gate) (ws : List ℕ) (i v : ℕ) → OnSites n gs ws
    → (i ≤ length gs → (j : ℕ) → bit v j ≡ 1 → bit (sites n gs i) j ≡ 1) → OnSites n gs (set ws i v)
on_set n gs ws i v on here = record {
  wide = omega (arith, on.wide, length-set ws i v);
  inside = λ k j h o. by_equal k i
      (λ e.
      let same : get_or (set ws i v) k 0 ≡ v = ap (λ p. get_or (set ws i v) p 0) e ∙ get_or-set_same ws i v 0 (omega (arith, on.wide)) in
      rw e (here (omega arith) j (ap (λ w. bit w j) (sym same) ∙ o)))
      (λ d. on.inside k j h (ap (λ w. bit w j) (sym (get_or-set_other ws i k v 0 d)) ∙ o));
}

-- and less of what it has
pub within_less : (n : ℕ) (gs : List Gate) (at0 at1 : List ℕ) (i s v : ℕ) → Within n gs at0 at1 → v ≡ lacking (get_or at0 i 0) s
    → Within n gs (set at0 i v) (set at1 i (bit_and (get_or at1 i 0) s))
within_less n gs at0 at1 i s v on e = record {
  at_0 = on_set n gs at0 i v on.at_0 (λ h j o.
      let w : ℕ = get_or at0 i 0 in
      let seen = sym (lacking_off w s j) ∙ eq-eqb (bit (lacking w s) j) 1 (ap (λ t. bit t j) (sym e) ∙ o) in
      on.at_0.inside i j h (eqb-true (bit w j) 1 (and_both (eqb (bit w j) 1) (eqb (bit s j) 0) seen).0));
  at_1 = on_set n gs at1 i _ on.at_1 (λ h j o.
      let w : ℕ = get_or at1 i 0 in
      let seen = sym (on_and w s j) ∙ eq-eqb (bit (bit_and w s) j) 1 o in
      on.at_1.inside i j h (eqb-true (bit w j) 1 (and_both (eqb (bit w j) 1) (eqb (bit s j) 1) seen).0));
}

-- ---- with no lines no fault is left

-- a word of no lines has no mark
no_mark : (k i j : ℕ) → is_on (replicate k 0) i j ≡ false
no_mark k i j = ap (λ w. eqb (bit w j) 1) (zero_at k i) ∙ ap (λ b. eqb b 1) (bit_of_zero j)

-- no choice between tests that fail passes
never : (a b c d : Bool) → c ≡ false → d ≡ false → choice a c (choice b d false) ≡ false
never true b c d e f = e
never false true c d e f = f
never false false c d e f = refl

every : {p : Fault → Bool} → ((f : Fault) → p f ≡ false) → (fs : List Fault) → All (λ f. p f ≡ false) fs
every h [] = tt
every h (f ∷ fs) = (h f, every h fs)

pub none_left : (n : ℕ) (gs : List Gate) → left_of n gs (replicate levels 0) (replicate levels 0) ≡ []
unfolding left_of
none_left n gs =
    keep_none _ (stuck_faults n gs)
    (every (λ f. let off = no_mark levels f.place f.line in never (eqb f.value 0) (eqb f.value 1) _ _ off off) _)

-- ---- with all sites all faults are left

module _ (n : ℕ) (gs : List Gate) (old0 old1 at0 at1 : List ℕ) (zeros : Changed (λ k w. sites n gs k) (length gs + 1) old0 at0)
    (ones : Changed (λ k w. sites n gs k) (length gs + 1) old1 at1) where
  site_marked : (i j v : ℕ) → i ≤ length gs → bit (sites n gs i) j ≡ 1 → v ≤ 1 → level_marked at0 at1 (fault_of 1 i j v) ≡ true
  unfolding fault_of
  site_marked i j zero hi o hv = eq-eqb (bit (get_or at0 i 0) j) 1 (ap (λ w. bit w j) (zeros.done i (omega arith)) ∙ o)
  site_marked i j (suc zero) hi o hv = eq-eqb (bit (get_or at1 i 0) j) 1 (ap (λ w. bit w j) (ones.done i (omega arith)) ∙ o)
  site_marked i j (suc (suc v)) hi o hv = absurd (omega arith)

  pub sites_all : left_of n gs at0 at1 ≡ stuck_faults n gs
  unfolding left_of
  sites_all = keep-every (level_marked at0 at1) (stuck_faults n gs) (all_stuck _ n gs site_marked)

-- ---- the score of a vector

-- the lines at level i of which it catches a fault: stuck at 0 where they are 1, stuck at 1 where they are 0
abbrev pub newly_caught : ℕ → List Gate → List ℕ → List ℕ → ℕ → ℕ → ℕ
newly_caught n gs at0 at1 x i = bit_or (bit_and (forward gs i x) (get_or at0 i 0)) (bit_and (inverse n (forward gs i x)) (get_or at1 i 0))

-- how many there are from level i on
abbrev pub caught_from : ℕ → List Gate → List ℕ → List ℕ → ℕ → ℕ → ℕ
caught_from n gs at0 at1 x i = sum_from (λ k. length (lines_on n (newly_caught n gs at0 at1 x k))) i (suc (length gs) - i)

module _ (n : ℕ) (gs : List Gate) (ok : AllOk n gs) (at0 at1 : List ℕ) where
  caught-zero : (x i j : ℕ) → i ≤ length gs → j < n → caught gs (fault_of 1 i j 0) x ≡ eqb (bit (forward gs i x) j) 1
  caught-zero x i j h l = caught_stuck n gs ok x i j 0 h l (omega arith) ∙ not_off (forward gs i x) j

  caught-one : (x i j : ℕ) → i ≤ length gs → j < n → caught gs (fault_of 1 i j 1) x ≡ eqb (bit (forward gs i x) j) 0
  caught-one x i j h l = caught_stuck n gs ok x i j 1 h l (omega arith) ∙ not_on (forward gs i x) j

  score-sum : Within n gs at0 at1 → (x : ℕ)
      → score gs (left_of n gs at0 at1) x ≡ sum_from (λ k. length (lines_on n (newly_caught n gs at0 at1 x k))) 0 (suc (length gs))
  unfolding score left_of fault_of
  score-sum on x =
      ap length (keep-keep (level_marked at0 at1) (λ f. caught gs f x) (stuck_faults n gs))
      ∙ count_stuck (λ f. level_marked at0 at1 f && caught gs f x) n gs
      ∙ sum-cong _ _ 0 (suc (length gs)) (λ i l h.
      let here : i ≤ length gs = omega arith in
      let s : ℕ = forward gs i x in
      let a : ℕ = get_or at0 i 0 in
      let b : ℕ = get_or at1 i 0 in
      ap₂ (λ (ls ms : List ℕ). length ls + length ms)
      (keep_agree _ (λ j. eqb (bit a j) 1 && eqb (bit s j) 1) (lines_on n (sites n gs i))
      (all_lines _ n (sites n gs i) (λ j m o. ap (λ t. eqb (bit a j) 1 && t) (caught-zero x i j here m))))
      (keep_agree _ (λ j. eqb (bit b j) 1 && eqb (bit s j) 0) (lines_on n (sites n gs i))
      (all_lines _ n (sites n gs i) (λ j m o. ap (λ t. eqb (bit b j) 1 && t) (caught-one x i j here m))))
      ∙ split-count n (sites n gs i) s a b (λ j. on.at_0.inside i j here) (λ j. on.at_1.inside i j here))

  pub score-all : Within n gs at0 at1 → (x : ℕ) → score gs (left_of n gs at0 at1) x ≡ caught_from n gs at0 at1 x 0
  score-all on x =
      let all : suc (length gs) ≡ suc (length gs) - 0 = omega arith in
      score-sum on x ∙ ap (sum_from (λ k. length (lines_on n (newly_caught n gs at0 at1 x k))) 0) all

  -- one level, as code counts it
  module _ (x i k s ones : ℕ) (wide : n ≤ most_lines) (fits : x < 2 ^ n) (h : i ≤ length gs) (level : k ≡ i) (ones_are : ones ≡ all_ones n)
      (here : s ≡ forward gs i x) where
    -- the word whose ones it counts
    abbrev word : ℕ
    word = bit_or (bit_and s (get_or at0 k 0)) (bit_and (bit_xor s ones) (get_or at1 k 0))

    word_is : word ≡ newly_caught n gs at0 at1 x i
    word_is =
        let t : ℕ = forward gs i x in
        rw (level, here, ones_are) (ap (λ w. bit_or (bit_and t (get_or at0 i 0)) (bit_and w (get_or at1 i 0))) (inverse_code n t))

    pub score-more : caught_from n gs at0 at1 x i ≡ length (lines_on most_lines word) + caught_from n gs at0 at1 x (i + 1)
    score-more =
        let fits-here = split-lt n (forward gs i x) (get_or at0 i 0) (get_or at1 i 0) (forward-lt n gs ok i x fits) in
        sum_more (λ p. length (lines_on n (newly_caught n gs at0 at1 x p))) i (suc (length gs)) (omega arith)
        ∙ ap (λ m. m + caught_from n gs at0 at1 x (i + 1))
        (sym (ap (λ w. length (lines_on most_lines w)) word_is ∙ length-wide n most_lines (newly_caught n gs at0 at1 x i) wide fits-here))

    -- and the last level
    pub score_last : length gs ≤ i → caught_from n gs at0 at1 x i ≡ length (lines_on most_lines word)
    score_last last =
        omega (arith, score-more, sum_end (λ p. length (lines_on n (newly_caught n gs at0 at1 x p))) (i + 1) (suc (length gs)) (omega arith))

  -- ---- what a vector leaves

  not-caught : (b : Bool) (s j : ℕ) → b ≡ eqb (bit s j) 1 → not (b || false) ≡ eqb (bit s j) 0
  not-caught b s j e = ap not (or-false b ∙ e) ∙ not_on s j

  not-caught-one : (b : Bool) (s j : ℕ) → b ≡ eqb (bit s j) 0 → not (b || false) ≡ eqb (bit s j) 1
  not-caught-one b s j e = ap not (or-false b ∙ e) ∙ not_off s j

  module _ (x : ℕ) (now0 now1 : List ℕ)
      (zeros : Changed (λ k w. lacking w (forward gs k x)) (suc (length gs)) at0 now0)
      (ones : Changed (λ k w. bit_and w (forward gs k x)) (suc (length gs)) at1 now1) where
    still_marked : (i j v : ℕ) → i ≤ length gs → bit (sites n gs i) j ≡ 1 → v ≤ 1
        → (level_marked at0 at1 (fault_of 1 i j v) && not (caught gs (fault_of 1 i j v) x || false)) ≡ level_marked now0 now1 (fault_of 1 i j v)
    unfolding fault_of
    still_marked i j zero hi o hv =
        let s : ℕ = forward gs i x in
        let a : ℕ = get_or at0 i 0 in
        ap (λ t. eqb (bit a j) 1 && t) (not-caught (caught gs (fault_of 1 i j 0) x) s j (caught-zero x i j hi (site_below n gs i j o)))
        ∙ sym (ap (λ w. eqb (bit w j) 1) (zeros.done i (omega arith)) ∙ lacking_off a s j)
    still_marked i j (suc zero) hi o hv =
        let s : ℕ = forward gs i x in
        let b : ℕ = get_or at1 i 0 in
        ap (λ t. eqb (bit b j) 1 && t) (not-caught-one (caught gs (fault_of 1 i j 1) x) s j (caught-one x i j hi (site_below n gs i j o)))
        ∙ sym (ap (λ w. eqb (bit w j) 1) (ones.done i (omega arith)) ∙ on_and b s j)
    still_marked i j (suc (suc v)) hi o hv = absurd (omega arith)

    pub left-dropped : left_of n gs now0 now1 ≡ uncaught_of gs (x ∷ []) (left_of n gs at0 at1)
    unfolding left_of uncaught_of caught_by_some some
    left-dropped = sym (
        keep-keep (level_marked at0 at1) (λ f. not (caught gs f x || false)) (stuck_faults n gs)
        ∙ keep_agree _ _ (stuck_faults n gs) (all_stuck _ n gs still_marked))
