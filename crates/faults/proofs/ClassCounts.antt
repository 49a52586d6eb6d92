-- How many faults the classes have.
use Prim.Native.Nat.{ℕ, suc, ◌+◌, ◌-◌, ◌*◌}
use mathlib.Core.Path.{◌≡◌, refl, sym, ap₂, ◌∙◌}
use mathlib.Core.Bool.{Bool}
use mathlib.Core.List.{List, [], ◌∷◌}
use native.Mathlib.Nat.{mul-one, mul_comm}
use native.Mathlib.Omega.{arith}
use lib.ListN.{length}
use Rattle.basics.specs.Lists.{up_from, keep, each}
use Rattle.basics.specs.Sums.{sum_from}
use Rattle.basics.proofs.All.{all_at}
use Rattle.basics.proofs.Lists.{keep-parts, length-each, length-up_from}
use Rattle.basics.proofs.SumLaws.{sum-cong, sum-add, sum_times, sum_same, length-sum}
use Rattle.words.specs.Word.{lines_on}
use Rattle.circuit.specs.Gates.{gate_at, no_gate}
use Rattle.circuit.specs.Controls.{is_control, touches, is_other}
use Rattle.circuit.specs.Sound.{GateOk, AllOk}
use Rattle.circuit.specs.declared.Gate.{Gate}
use Rattle.circuit.proofs.LineLaws.{touched_count}
use Rattle.faults.specs.Sites.{sites}
use Rattle.faults.specs.declared.Fault.{Fault}
use Rattle.faults.specs.Classes.{fault_of, stuck_faults, missing_gates, missing_controls, extra_controls}

-- two for each site
pub length_stuck_sites : (n : ℕ) (gs : List Gate) → length (stuck_faults n gs)
    ≡ 2 * sum_from (λ i. length (lines_on n (sites n gs i))) 0 (suc (length gs))
unfolding stuck_faults
length_stuck_sites n gs =
    length-sum (λ i. each (λ j. fault_of 1 i j 0 ∷ fault_of 1 i j 1 ∷ []) (lines_on n (sites n gs i))) 0 (suc (length gs))
    ∙ sum-cong _ _ 0 (suc (length gs)) (λ i l m.
    length-each (λ j. fault_of 1 i j 0 ∷ fault_of 1 i j 1 ∷ []) 2 (λ j. refl) (lines_on n (sites n gs i))
    ∙ mul_comm (length (lines_on n (sites n gs i))) 2)
    ∙ sum_times 2 (λ i. length (lines_on n (sites n gs i))) 0 (suc (length gs))

-- one for each gate
pub length-missing_gates : (gs : List Gate) → length (missing_gates gs) ≡ length gs
unfolding missing_gates
length-missing_gates gs =
    length-each (λ i. fault_of 2 i 0 0 ∷ []) 1 (λ i. refl) (up_from 1 (length gs)) ∙ mul-one (length (up_from 1 (length gs)))
    ∙ length-up_from 1 (length gs)

-- ---- of the lines of a gate one is its target, and each other is a control or neither

lines_parts : (n : ℕ) (g : Gate) → GateOk n g → length (keep (is_control g) (up_from 0 n)) + length (keep (is_other g) (up_from 0 n)) ≡ n - 1
unfolding is_other
lines_parts n g ok = omega (arith, touched_count n g ok, keep-parts (touches g) (up_from 0 n), length-up_from 0 n)

-- one fault for each line below n that passes the gate's test
length_by_gate : (n d : ℕ) (make : ℕ → ℕ → Fault) (test : ℕ → ℕ → Bool)
    → length (each (λ i. each (λ c. make i c ∷ []) (keep (test i) (up_from 0 n))) (up_from 1 d)) ≡ sum_from
    (λ i. length (keep (test i) (up_from 0 n))) 1 d
length_by_gate n d make test =
    length-sum (λ i. each (λ c. make i c ∷ []) (keep (test i) (up_from 0 n))) 1 d
    ∙ sum-cong _ _ 1 d
    (λ i l m. length-each (λ c. make i c ∷ []) 1 (λ c. refl) (keep (test i) (up_from 0 n)) ∙ mul-one (length (keep (test i) (up_from 0 n))))

pub length-missing_controls : (n : ℕ) (gs : List Gate)
    → length (missing_controls n gs) ≡ sum_from (λ i. length (keep (is_control (gate_at gs i)) (up_from 0 n))) 1 (length gs)
unfolding missing_controls
length-missing_controls n gs = length_by_gate n (length gs) (λ i c. fault_of 3 i c 0) (λ i. is_control (gate_at gs i))

pub length-extra_controls : (n : ℕ) (gs : List Gate) → length (extra_controls n gs)
    ≡ sum_from (λ i. length (keep (is_other (gate_at gs i)) (up_from 0 n))) 1 (length gs)
unfolding extra_controls
length-extra_controls n gs = length_by_gate n (length gs) (λ i a. fault_of 4 i a 0) (λ i. is_other (gate_at gs i))

-- the missing and the extra controls together
pub length_controls : (n : ℕ) (gs : List Gate) → AllOk n gs → length (missing_controls n gs) + length (extra_controls n gs) ≡ length gs * (n - 1)
unfolding gate_at
length_controls n gs ok =
    ap₂ ◌+◌ (length-missing_controls n gs) (length-extra_controls n gs)
    ∙ sym (sum-add (λ i. length (keep (is_control (gate_at gs i)) (up_from 0 n))) (λ i. length (keep (is_other (gate_at gs i)) (up_from 0 n))) 1
    (length gs))
    ∙ sum-cong _ (λ i. n - 1) 1 (length gs) (λ i l m. lines_parts n (gate_at gs i) (all_at (GateOk n) gs (i - 1) no_gate (omega arith) ok))
    ∙ sum_same (n - 1) 1 (length gs)
