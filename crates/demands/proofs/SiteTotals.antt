-- The number of sites: what the contracts count is n and the size of each gate, at least n and at most n at each level.
use Prim.Native.Nat.{ℕ, zero, suc, ◌+◌, ◌-◌, ◌*◌, ◌≤◌}
use mathlib.Core.Path.{◌≡◌, refl, sym, ap, ap₂, ◌∙◌}
use mathlib.Core.List.{List, [], ◌∷◌}
use native.Mathlib.Omega.{arith}
use lib.ListN.{length, get_or}
use lib.Dec.{eqb}
use Rattle.basics.specs.Lists.{up_from, keep}
use Rattle.basics.specs.Sums.{sum_from}
use Rattle.basics.proofs.Lists.{length-keep}
use Rattle.basics.proofs.SumLaws.{sum-cong}
use Rattle.words.specs.Word.{bit}
use Rattle.words.proofs.WordOfLaws.{bit-count}
use Rattle.circuit.specs.Gates.{gate_at, no_gate}
use Rattle.circuit.specs.Controls.{is_control}
use Rattle.circuit.specs.Sound.{AllOk}
use Rattle.circuit.specs.declared.Gate.{Gate}
use Rattle.faults.specs.Sites.{site_count}
use Rattle.faults.proofs.SiteCount.{site_count_lem, site_count_least, site_count-most}
use Rattle.demands.proofs.Machine.{ones_from, site_total}

-- the lines of a word that are 1, counted by their bits
pub ones_are : (w a k : ℕ) → ones_from w a k ≡ length (keep (λ j. eqb (bit w j) 1) (up_from a k))
unfolding up_from keep
ones_are w a zero = refl
ones_are w a (suc k) = ap₂ ◌+◌ (bit-count w a) (ones_are w (suc a) k) ∙ sym (length-keep (λ j. eqb (bit w j) 1) a (up_from (suc a) k))

-- the sizes of all gates, by their numbers and in their list
sizes_are : (n : ℕ) (gs : List Gate) (a : ℕ)
    → n + sum_from (λ i. length (keep (is_control (get_or gs (i - a) no_gate)) (up_from 0 n)) + 1) a (length gs) ≡ site_total n gs
unfolding sum_from is_control
sizes_are n [] a = omega arith
sizes_are n (g ∷ gs) a =
    let size : Gate → ℕ = λ h. length (keep (is_control h) (up_from 0 n)) + 1 in
    let none : a - a ≡ 0 = omega arith in
    let first : size (get_or (g ∷ gs) (a - a) no_gate) ≡ ones_from g.controls 0 n + 1 =
    ap (λ k. size (get_or (g ∷ gs) k no_gate)) none ∙ ap (λ k. k + 1) (sym (ones_are g.controls 0 n)) in
    let rest : sum_from (λ i. size (get_or (g ∷ gs) (i - a) no_gate)) (suc a) (length gs)
    ≡ sum_from (λ i. size (get_or gs (i - suc a) no_gate)) (suc a) (length gs) =
    sum-cong _ _ (suc a) (length gs) (λ i lo hi.
    let next : i - a ≡ suc (i - suc a) = omega arith in ap (λ k. size (get_or (g ∷ gs) k no_gate)) next) in
    omega (arith, first, rest, sizes_are n gs (suc a))

pub site_total_lem : (n : ℕ) (gs : List Gate) → AllOk n gs → site_count n gs ≡ site_total n gs
unfolding gate_at
site_total_lem n gs ok = site_count_lem n gs ok ∙ sizes_are n gs 1

-- at least n, and at most n at each level
pub total_least : (n : ℕ) (gs : List Gate) → AllOk n gs → n ≤ site_total n gs
total_least n gs ok = omega (arith, site_total_lem n gs ok, site_count_least n gs)

pub total_most : (n : ℕ) (gs : List Gate) → AllOk n gs → site_total n gs ≤ n * suc (length gs)
total_most n gs ok = omega (arith, site_total_lem n gs ok, site_count-most n gs)
