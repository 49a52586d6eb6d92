-- What each call takes, in the words of docs/SCOPE.md: exactly what breaks no rule of its table.
use Prim.Native.Nat.{ℕ, suc, ◌+◌, ◌^◌, ◌≤◌, ◌<◌}
use mathlib.Core.Path.{◌≡◌, sym, ap, ◌∙◌, subst}
use mathlib.Core.Logic.Iff
use mathlib.Core.Logic.{◌↔◌, by_cases}
use mathlib.Core.List.{List, [], ◌∷◌, ◌++◌}
use native.Mathlib.Decide.{dec_le}
use native.Mathlib.Omega.{arith}
use lib.Pow.{pow_mono}
use lib.ListN.{length}
use lib.Dec.{ltb}
use borrow.Author.Tests.{ltb-false, le-ltb}
use Rattle.basics.specs.Lists.{All}
use Rattle.refusals.specs.Tables.{Row}
use Rattle.refusals.specs.Tables.Row.{refuse◌at◌when◌}
use Rattle.circuit.specs.Gates.{gates_of}
use Rattle.circuit.specs.Rules.{circuit_rows, set_rows, vector_rows, level_rows, run_rows}
use Rattle.circuit.specs.declared.Gate.{Gate}
use Rattle.faults.specs.Rules.{fault_rows}
use Rattle.simulator.specs.Rules.{catch_rows}
use Rattle.fault_test.specs.Rules.{test_rows}
use Rattle.faults.specs.declared.Fault.{Fault}
use Rattle.judge.specs.Rules.{class_rows, judge_rows, count_rows}
use Rattle.testsets.specs.Log2.{log2}
use Rattle.faults.specs.Sites.{site_count}
use Rattle.testsets.specs.Sets.{bound}
use Rattle.testsets.specs.Rules.{backward_rows, compact_rows}
use Rattle.testsets.proofs.Log2Laws.{log2-lt, log2-le}
use Rattle.faults.proofs.SiteCount.{site_count_least}
use Rattle.demands.proofs.Machine.{Has, site_total}
use Rattle.demands.proofs.MachineLaws.{gates_flat, circuit_ok}
use Rattle.demands.proofs.SiteTotals.{site_total_lem}
use Rattle.demands.proofs.Valid.{Valid, circuit_valid}
use Rattle.demands.proofs.ValidRows.{Fine, joined, one_rule, vector_valid, level_valid, class_valid, set_valid, fault_valid}

-- log is floor(log2 S), where S is the number of sites
abbrev pub IsLog : ℕ → List Gate → ℕ → Type 0
IsLog n gs log = (2 ^ log ≤ site_total n gs) × (site_total n gs < 2 ^ suc log)

module _ (n : ℕ) (words : List ℕ) where
  -- the gates of a valid circuit are those of its words
  pub its_gates : (gs : List Gate) → Valid n words gs → gates_of words ≡ gs
  its_gates gs v = ap gates_of v.circuit.lent ∙ gates_flat gs

  -- a circuit, and more of its gates
  pub with_circuit : (rows : List Row) (P : List Gate → Type 0) → Fine rows ↔ P (gates_of words)
      → Fine (circuit_rows n words ++ rows) ↔ ((gs : List Gate) × Valid n words gs × P gs)
  with_circuit rows P more = (
    λ e.
        let w = (joined (circuit_rows n words) rows).0 e in
        let v = (circuit_valid n words).0 w.0 in
        (v.0, v.1, subst P (its_gates v.0 v.1) (more.0 w.1)),
    λ w. (joined (circuit_rows n words) rows).1 ((circuit_valid n words).1 (w.0, w.1), more.1 (subst P (sym (its_gates w.0 w.1)) w.2)),
  )

  -- a circuit, a vector, and more
  pub with_vector_lem : (x : ℕ) (rows : List Row) (P : List Gate → Type 0) → Fine rows ↔ P (gates_of words)
      → Fine ((circuit_rows n words ++ vector_rows n x) ++ rows) ↔ ((gs : List Gate) × Valid n words gs × (x < 2 ^ n) × P gs)
  with_vector_lem x rows P more = (
    λ e.
        let w = (joined (circuit_rows n words ++ vector_rows n x) rows).0 e in
        let u = (joined (circuit_rows n words) (vector_rows n x)).0 w.0 in
        let v = (circuit_valid n words).0 u.0 in
        (v.0, v.1, (vector_valid n x).0 u.1, subst P (its_gates v.0 v.1) (more.0 w.1)),
    λ w. (joined (circuit_rows n words ++ vector_rows n x) rows).1 (
      (joined (circuit_rows n words) (vector_rows n x)).1 ((circuit_valid n words).1 (w.0, w.1), (vector_valid n x).1 w.2),
      more.1 (subst P (sym (its_gates w.0 w.1)) w.3),
    ),
  )

  -- ---- runs: a state of the circuit and one of its levels

  pub run_valid : (level x : ℕ) → Fine (run_rows n words level x) ↔ ((gs : List Gate) × Valid n words gs × (x < 2 ^ n) × (level ≤ length gs))
  unfolding run_rows
  run_valid level x = with_vector_lem x (level_rows words level) (λ gs. level ≤ length gs) (level_valid words level)

  -- ---- faults that the circuit has

  pub catch_valid : (x : ℕ) (f : Fault) → Fine (catch_rows n words x f) ↔ ((gs : List Gate) × Valid n words gs × (x < 2 ^ n) × Has n gs f)
  unfolding catch_rows
  catch_valid x f = with_vector_lem x (fault_rows n words f) (λ gs. Has n gs f) (fault_valid n words f)

  pub test_valid : (f : Fault) → Fine (test_rows n words f) ↔ ((gs : List Gate) × Valid n words gs × Has n gs f)
  unfolding test_rows
  test_valid f = with_circuit (fault_rows n words f) (λ gs. Has n gs f) (fault_valid n words f)

  -- ---- classes

  pub count_valid : (class : ℕ) → Fine (count_rows n words class) ↔ ((gs : List Gate) × Valid n words gs × ((1 ≤ class) × (class ≤ 4)))
  unfolding count_rows
  count_valid class = with_circuit (class_rows class) (λ gs. (1 ≤ class) × (class ≤ 4)) (class_valid class)

  pub judge_valid : (xs : List ℕ) (class : ℕ) → Fine (judge_rows n words xs class)
      ↔ ((gs : List Gate) × Valid n words gs × (length xs ≤ 2048) × All (λ x. x < 2 ^ n) xs × ((1 ≤ class) × (class ≤ 4)))
  unfolding judge_rows
  judge_valid xs class = (
    λ e.
        let w = (joined (set_rows n words xs) (class_rows class)).0 e in
        let v = (set_valid n words xs).0 w.0 in
        (v.0.0.0, v.0.0.1, v.0.1, v.1, (class_valid class).0 w.1),
    λ w. (joined (set_rows n words xs) (class_rows class)).1
        ((set_valid n words xs).1 (((w.0, w.1), w.2), w.3), (class_valid class).1 w.4),
  )

  -- ---- a vector alone

  pub vector_alone_valid : (x : ℕ) → Fine (circuit_rows n words ++ vector_rows n x) ↔ ((gs : List Gate) × Valid n words gs × (x < 2 ^ n))
  vector_alone_valid x = with_circuit (vector_rows n x) (λ gs. x < 2 ^ n) (vector_valid n x)

  -- ---- rooms

  pub backward_valid : (room : ℕ) → Fine (backward_rows n words room) ↔ ((gs : List Gate) × Valid n words gs × (length gs + 2 ≤ room))
  unfolding backward_rows
  backward_valid room = with_circuit (refuse 10 at 0 when ltb room (length (gates_of words) + 2) ∷ []) (λ gs. length gs + 2 ≤ room)
      (Iff.trans (one_rule (ltb room (length (gates_of words) + 2)) 10 0)
      (ltb-false room (length (gates_of words) + 2), le-ltb room (length (gates_of words) + 2)))

  its_log : (gs : List Gate) → Valid n words gs → IsLog n gs (log2 (site_count n gs))
  its_log gs v =
      let S : ℕ = site_count n gs in
      let total = site_total_lem n gs (circuit_ok n words gs v.circuit) in (
        subst (λ m. 2 ^ log2 S ≤ m) total (log2-le S (omega (arith, site_count_least n gs, v.circuit.some_lines))),
        subst (λ m. m < 2 ^ suc (log2 S)) total (log2-lt S),
      )

  -- there is one such number
  not_above : (gs : List Gate) (a b : ℕ) → IsLog n gs a → IsLog n gs b → a < b → ⊥
  not_above gs a b la lb h = let more : 2 ^ suc a ≤ 2 ^ b = pow_mono h in omega (arith, la.1, lb.0)

  log_one : (gs : List Gate) (a b : ℕ) → IsLog n gs a → IsLog n gs b → a ≡ b
  log_one gs a b la lb = by_cases (dec_le a b)
      (λ le. by_cases (dec_le b a) (λ ge. omega arith) (λ d. absurd (not_above gs a b la lb (omega arith))))
      (λ d. absurd (not_above gs b a lb la (omega arith)))

  compact_rooms : (room : ℕ) → Fine (compact_rows n words room) ↔ ((gs : List Gate) × Valid n words gs × ((n ≤ 12) × (bound n gs ≤ room)))
  unfolding compact_rows
  compact_rooms room = with_circuit (refuse 11 at 0 when ltb 12 n ∷ refuse 10 at 0 when ltb room (bound n (gates_of words)) ∷ [])
      (λ gs. (n ≤ 12) × (bound n gs ≤ room))
      (Iff.trans (joined (refuse 11 at 0 when ltb 12 n ∷ []) (refuse 10 at 0 when ltb room (bound n (gates_of words)) ∷ [])) (Iff.and
      (Iff.trans (one_rule (ltb 12 n) 11 0) (ltb-false 12 n, le-ltb 12 n))
      (Iff.trans (one_rule (ltb room (bound n (gates_of words))) 10 0)
      (ltb-false room (bound n (gates_of words)), le-ltb room (bound n (gates_of words))))))

  pub compact_valid : (room : ℕ) → Fine (compact_rows n words room)
      ↔ ((gs : List Gate) × Valid n words gs × ((n ≤ 12) × ((log : ℕ) × IsLog n gs log × (2 + log ≤ room))))
  unfolding bound
  compact_valid room = Iff.trans (compact_rooms room) (
    λ w. (w.0, w.1, (w.2.0, (log2 (site_count n w.0), its_log w.0 w.1, w.2.1))),
    λ w.
        let log = w.2.1.0 in
        let same = log_one w.0 (log2 (site_count n w.0)) log (its_log w.0 w.1) w.2.1.1 in
        (w.0, w.1, (w.2.0, subst (λ k. 2 + k ≤ room) (sym same) w.2.1.2)),
  )
