-- A property of all faults of a class is one of each place and line, and the other way.
use Prim.Native.Nat.{ℕ, zero, suc, ◌≤◌, ◌<◌, zero-le}
use mathlib.Core.Path.{◌≡◌}
use mathlib.Core.Bool.{Bool, true}
use mathlib.Core.List.{List, [], ◌∷◌}
use native.Mathlib.Omega.{arith}
use lib.ListN.{length}
use borrow.Author.Tests.{eq-eqb}
use Rattle.basics.specs.Lists.{up_from, keep, each, All}
use Rattle.basics.proofs.Lists.{all-each, each_all, all-up_from, up_from-all}
use Rattle.basics.proofs.Kept.{all_kept, kept_all}
use Rattle.words.specs.Word.{bit, lines_on}
use Rattle.words.proofs.LineLists.{all_lines, lines_all}
use Rattle.circuit.specs.Gates.{gate_at}
use Rattle.circuit.specs.Controls.{is_control, is_other}
use Rattle.circuit.specs.declared.Gate.{Gate}
use Rattle.faults.specs.Sites.{sites}
use Rattle.faults.specs.declared.Fault.{Fault}
use Rattle.faults.proofs.SiteLaws.{site_line}
use Rattle.faults.specs.Classes.{fault_of, stuck_faults, missing_gates, missing_controls, extra_controls}

-- ---- class 1

module _ (P : Fault → Type 0) (n : ℕ) (gs : List Gate) where
  pub all_stuck : ((i j v : ℕ) → i ≤ length gs → bit (sites n gs i) j ≡ 1 → v ≤ 1 → P (fault_of 1 i j v)) → All P (stuck_faults n gs)
  unfolding stuck_faults
  all_stuck h = all-each _ P (up_from 0 (suc (length gs))) (all-up_from _ 0 (suc (length gs)) (λ i l m.
      all-each _ P (lines_on n (sites n gs i)) (all_lines _ n (sites n gs i) (λ j b o.
      (h i j 0 (omega arith) o (omega arith), (h i j 1 (omega arith) o (omega arith), tt))))))

  at_value : (i j : ℕ) → All P (fault_of 1 i j 0 ∷ fault_of 1 i j 1 ∷ []) → (v : ℕ) → v ≤ 1 → P (fault_of 1 i j v)
  at_value i j w zero h = w.0
  at_value i j w (suc zero) h = w.1.0
  at_value i j w (suc (suc v)) h = absurd (omega arith)

  pub stuck_all : All P (stuck_faults n gs) → (i j v : ℕ) → i ≤ length gs → bit (sites n gs i) j ≡ 1 → v ≤ 1 → P (fault_of 1 i j v)
  unfolding stuck_faults
  stuck_all w i j v hi o hv =
      let level = up_from-all _ 0 (suc (length gs)) (each_all _ P (up_from 0 (suc (length gs))) w) i zero-le (omega arith) in
      let both = lines_all _ n (sites n gs i) (each_all _ P (lines_on n (sites n gs i)) level) j
      (site_line n gs i j (eq-eqb (bit (sites n gs i) j) 1 o)) o in
      at_value i j both v hv

-- ---- class 2

module _ (P : Fault → Type 0) (gs : List Gate) where
  pub all-missing_gates : ((i : ℕ) → 1 ≤ i → i ≤ length gs → P (fault_of 2 i 0 0)) → All P (missing_gates gs)
  unfolding missing_gates
  all-missing_gates h = all-each _ P (up_from 1 (length gs)) (all-up_from _ 1 (length gs) (λ i l m. (h i l (omega arith), tt)))

  pub missing_gates-all : All P (missing_gates gs) → (i : ℕ) → 1 ≤ i → i ≤ length gs → P (fault_of 2 i 0 0)
  unfolding missing_gates
  missing_gates-all w i lo hi = (up_from-all _ 1 (length gs) (each_all _ P (up_from 1 (length gs)) w) i lo (omega arith)).0

-- ---- classes 3 and 4: one fault for each line below n that passes the gate's test

module _ (P : Fault → Type 0) (n d : ℕ) (make : ℕ → ℕ → Fault) (test : ℕ → ℕ → Bool) where
  all_by_gate : ((i c : ℕ) → 1 ≤ i → i ≤ d → c < n → test i c ≡ true → P (make i c))
      → All P (each (λ i. each (λ c. make i c ∷ []) (keep (test i) (up_from 0 n))) (up_from 1 d))
  all_by_gate h = all-each _ P (up_from 1 d) (all-up_from _ 1 d (λ i l m.
      all-each _ P (keep (test i) (up_from 0 n))
      (all_kept _ (test i) (up_from 0 n) (all-up_from _ 0 n (λ c lo hi e. (h i c l (omega arith) (omega arith) e, tt))))))

  by_gate_all : All P (each (λ i. each (λ c. make i c ∷ []) (keep (test i) (up_from 0 n))) (up_from 1 d))
      → (i c : ℕ) → 1 ≤ i → i ≤ d → c < n → test i c ≡ true → P (make i c)
  by_gate_all w i c lo hi h e =
      let gate = up_from-all _ 1 d (each_all _ P (up_from 1 d) w) i lo (omega arith) in
      (up_from-all _ 0 n (kept_all _ (test i) (up_from 0 n) (each_all _ P (keep (test i) (up_from 0 n)) gate)) c zero-le (omega arith) e).0

module _ (P : Fault → Type 0) (n : ℕ) (gs : List Gate) where
  pub all-missing_controls : ((i c : ℕ) → 1 ≤ i → i ≤ length gs → c < n → is_control (gate_at gs i) c ≡ true → P (fault_of 3 i c 0))
      → All P (missing_controls n gs)
  unfolding missing_controls
  all-missing_controls h = all_by_gate P n (length gs) (λ i c. fault_of 3 i c 0) (λ i. is_control (gate_at gs i)) h

  pub missing_controls-all : All P (missing_controls n gs)
      → (i c : ℕ) → 1 ≤ i → i ≤ length gs → c < n → is_control (gate_at gs i) c ≡ true → P (fault_of 3 i c 0)
  unfolding missing_controls
  missing_controls-all w = by_gate_all P n (length gs) (λ i c. fault_of 3 i c 0) (λ i. is_control (gate_at gs i)) w

  pub all-extra_controls : ((i a : ℕ) → 1 ≤ i → i ≤ length gs → a < n → is_other (gate_at gs i) a ≡ true → P (fault_of 4 i a 0))
      → All P (extra_controls n gs)
  unfolding extra_controls
  all-extra_controls h = all_by_gate P n (length gs) (λ i a. fault_of 4 i a 0) (λ i. is_other (gate_at gs i)) h

  pub extra_controls-all : All P (extra_controls n gs)
      → (i a : ℕ) → 1 ≤ i → i ≤ length gs → a < n → is_other (gate_at gs i) a ≡ true → P (fault_of 4 i a 0)
  unfolding extra_controls
  extra_controls-all w = by_gate_all P n (length gs) (λ i a. fault_of 4 i a 0) (λ i. is_other (gate_at gs i)) w
