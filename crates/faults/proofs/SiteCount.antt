-- How many sites there are, and two stuck-at faults for each: all lines at the input, and for each gate its controls and its target.
use Prim.Native.Nat.{ℕ, suc, ◌+◌, ◌-◌, ◌*◌, ◌≤◌, ◌<◌}
use mathlib.Core.Path.{◌≡◌, sym, ap, ap₂, ◌∙◌}
use mathlib.Core.List.{List}
use native.Mathlib.Nat.{mul_comm, mul-le-mul}
use native.Mathlib.Omega.{arith}
use lib.ListN.{length}
use borrow.Author.Tests.{eq-eqb}
use Rattle.basics.specs.Lists.{up_from, keep}
use Rattle.basics.specs.Sums.{sum_from}
use Rattle.basics.proofs.SumLaws.{sum-cong, sum-most, sum_more, sum_end}
use Rattle.words.specs.Word.{bit, lines_on}
use Rattle.words.proofs.AndLaws.{length_lines_le}
use Rattle.words.proofs.LineLists.{length_lines_ones}
use Rattle.words.proofs.SplitLaws.{length-wide}
use Rattle.words.proofs.WordOfLaws.{lines_word_of}
use Rattle.circuit.specs.Limits.{most_lines, levels}
use Rattle.circuit.specs.Gates.{gates_of, gate_at}
use Rattle.circuit.specs.Controls.{is_control, touches}
use Rattle.circuit.specs.Sound.{AllOk, Sound}
use Rattle.circuit.specs.declared.Gate.{Gate}
use Rattle.circuit.proofs.LineLaws.{touched_count}
use Rattle.circuit.proofs.RuleLaws.{gate_at_ok}
use Rattle.faults.specs.Sites.{sites, site_count}
use Rattle.faults.specs.Classes.{stuck_faults}
use Rattle.faults.proofs.SiteLaws.{sites-lt, site_line, sites_input, sites-gate}
use Rattle.faults.proofs.ClassCounts.{length_stuck_sites}

-- a site's line is one of the circuit's lines
pub site_below : (n : ℕ) (gs : List Gate) (i j : ℕ) → bit (sites n gs i) j ≡ 1 → j < n
site_below n gs i j o = site_line n gs i j (eq-eqb (bit (sites n gs i) j) 1 o)

-- two stuck-at faults for each site
pub stuck_sites : (n : ℕ) (gs : List Gate) → length (stuck_faults n gs) ≡ 2 * site_count n gs
unfolding site_count
stuck_sites n gs = length_stuck_sites n gs

-- ---- how many

length_input : (n : ℕ) (gs : List Gate) → length (lines_on n (sites n gs 0)) ≡ n
length_input n gs = ap (λ w. length (lines_on n w)) (sites_input n gs) ∙ length_lines_ones n

-- the size of a gate is the number of its controls, and 1
length-gate : (n : ℕ) (gs : List Gate) → AllOk n gs → (i : ℕ) → 1 ≤ i → i ≤ length gs
    → length (lines_on n (sites n gs i)) ≡ length (keep (is_control (gate_at gs i)) (up_from 0 n)) + 1
length-gate n gs ok i lo hi =
    ap (λ w. length (lines_on n w)) (sites-gate n gs i lo) ∙ ap length (lines_word_of n (touches (gate_at gs i)))
    ∙ touched_count n (gate_at gs i) (gate_at_ok n gs i ok lo hi)

-- n, and the sizes of all gates
pub site_count_lem : (n : ℕ) (gs : List Gate) → AllOk n gs
    → site_count n gs ≡ n + sum_from (λ i. length (keep (is_control (gate_at gs i)) (up_from 0 n)) + 1) 1 (length gs)
unfolding site_count sum_from
site_count_lem n gs ok = ap₂ ◌+◌ (length_input n gs) (sum-cong _ _ 1 (length gs) (λ i lo hi. length-gate n gs ok i lo (omega arith)))

-- at least n, and at most n at each level
pub site_count_least : (n : ℕ) (gs : List Gate) → n ≤ site_count n gs
unfolding site_count sum_from
site_count_least n gs = omega (arith, length_input n gs)

pub site_count-most : (n : ℕ) (gs : List Gate) → site_count n gs ≤ n * suc (length gs)
unfolding site_count
site_count-most n gs = rw (mul_comm n (suc (length gs))) (sum-most _ n 0 (suc (length gs)) (λ i. length_lines_le n (sites n gs i)))

-- ---- counted level by level

-- the sites from level i on
abbrev pub sites_from : ℕ → List Gate → ℕ → ℕ
sites_from n gs i = sum_from (λ k. length (lines_on n (sites n gs k))) i (suc (length gs) - i)

pub sites-all : (n : ℕ) (gs : List Gate) → site_count n gs ≡ sites_from n gs 0
unfolding site_count
sites-all n gs = let all : suc (length gs) ≡ suc (length gs) - 0 = omega arith in ap (sum_from (λ k. length (lines_on n (sites n gs k))) 0) all

pub sites-more : (n : ℕ) (gs : List Gate) (i w : ℕ) → n ≤ most_lines → i ≤ length gs → w ≡ sites n gs i
    → sites_from n gs i ≡ length (lines_on 32 w) + sites_from n gs (i + 1)
sites-more n gs i w wide h e =
    sum_more (λ k. length (lines_on n (sites n gs k))) i (suc (length gs)) (omega arith)
    ∙ ap (λ m. m + sites_from n gs (i + 1)) (sym (ap (λ v. length (lines_on 32 v)) e ∙ length-wide n 32 (sites n gs i) wide (sites-lt n gs i)))

pub sites_none : (n : ℕ) (gs : List Gate) (i : ℕ) → length gs < i → sites_from n gs i ≡ 0
sites_none n gs i h = sum_end (λ k. length (lines_on n (sites n gs k))) i (suc (length gs)) h

-- they are few
pub site_count-le : (n : ℕ) (words : List ℕ) → Sound n words → site_count n (gates_of words) ≤ 32800
site_count-le n words ok =
    let most : n * suc (length (gates_of words)) ≤ most_lines * levels = mul-le-mul {m₂ = levels} ok.lines_fit (omega arith) in
    omega (arith, site_count-most n (gates_of words))

pub site_count-some : (n : ℕ) (words : List ℕ) → Sound n words → 1 ≤ site_count n (gates_of words)
site_count-some n words ok = omega (arith, ok.some_lines, site_count_least n (gates_of words))
