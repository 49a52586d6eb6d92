-- A line that is stuck at a level whose gate does not touch it acts as if it were stuck at the last level up to there whose gate does, or at the
-- input: no gate between reads or changes it.
use Prim.Native.Nat.{ℕ, zero, suc, ◌≤◌, ◌<◌, zero-le, suc-le-suc}
use mathlib.Core.Path.{◌≡◌, refl, sym, ap, ◌∙◌, subst}
use mathlib.Core.Bool.{false}
use mathlib.Core.List.{List}
use native.Mathlib.Nat.{le_refl}
use native.Mathlib.Omega.{arith}
use lib.ListN.{length, get_or, drop}
use lib.Seq.{drop-cons}
use borrow.Author.Tests.{eqb-true}
use Rattle.basics.proofs.Tests.{by_test, by_equal}
use Rattle.words.specs.Word.{bit, force}
use Rattle.circuit.specs.Gates.{gate_at, no_gate}
use Rattle.circuit.specs.Controls.{touches}
use Rattle.circuit.specs.Runs.{step, run, forward}
use Rattle.circuit.specs.declared.Gate.{Gate}
use Rattle.circuit.proofs.RunLaws.{suc-sub-one, level_step}
use Rattle.circuit.proofs.UntouchedLaws.{step_keeps, step-force}
use Rattle.faults.specs.Sites.{sites}
use Rattle.faults.specs.declared.Fault.{Fault}
use Rattle.faults.proofs.SiteLaws.{input_site, gate_site}
use Rattle.simulator.specs.Faulty.{faulty}
use Rattle.simulator.proofs.FaultyLaws.{faulty_stuck, stuck_one}

-- level k is the last one up to level i at which line j is a site
pub record LastSite (n : ℕ) (gs : List Gate) (i j k : ℕ) : Type 0 where
  pub within : k ≤ i
  pub site : bit (sites n gs k) j ≡ 1
  pub between : (m : ℕ) → k < m → m ≤ i → touches (gate_at gs m) j ≡ false

-- there is one for every line, since all lines are sites of the input
pub last_site : (n : ℕ) (gs : List Gate) (i j : ℕ) → j < n → (k : ℕ) × LastSite n gs i j k
last_site n gs zero j h = (0, record { within = zero-le; site = input_site n gs j h; between = λ m lo hi. absurd (omega arith) })
last_site n gs (suc i) j h = by_test (touches (gate_at gs (suc i)) j)
    (λ on. (
      suc i,
      record {
        within = le_refl (suc i);
        site = eqb-true (bit (sites n gs (suc i)) j) 1 (gate_site n gs (suc i) j (suc-le-suc zero-le) h ∙ on);
        between = λ m lo hi. absurd (omega arith);
      },
    ))
    (λ off.
    let w = last_site n gs i j h in (
      w.0,
      record {
        within = omega (arith, w.1.within);
        site = w.1.site;
        between = λ m lo hi. by_equal m (suc i) (λ e. rw e off) (λ d. w.1.between m lo (omega arith));
      },
    ))

module _ (gs : List Gate) (j x : ℕ) where
  -- gate i + 1 does not touch the line
  module _ (i : ℕ) (hi : i < length gs) (off : touches (gate_at gs (suc i)) j ≡ false) where
    level_made : forward gs (suc i) x ≡ step (gate_at gs (suc i)) (forward gs i x)
    level_made = level_step gs (suc i) x (suc-le-suc zero-le) hi ∙ ap (λ p. step (gate_at gs (suc i)) (forward gs p x)) (suc-sub-one i)

    level_keeps : bit (forward gs (suc i) x) j ≡ bit (forward gs i x) j
    level_keeps = ap (λ s. bit s j) level_made ∙ step_keeps (gate_at gs (suc i)) j off (forward gs i x)

    -- the gates from there on, the line forced before gate i + 1 or after it
    level_forced : (v : ℕ) → run (drop (suc i) gs) (force (forward gs (suc i) x) j v) ≡ run (drop i gs) (force (forward gs i x) j v)
    unfolding run gate_at
    level_forced v =
        let gate : get_or gs i no_gate ≡ gate_at gs (suc i) = ap (λ p. get_or gs p no_gate) (sym (suc-sub-one i)) in
        ap (λ s. run (drop (suc i) gs) (force s j v)) level_made
        ∙ ap (run (drop (suc i) gs)) (sym (step-force (gate_at gs (suc i)) j off (forward gs i x) v))
        ∙ ap (λ g. run (drop (suc i) gs) (step g (force (forward gs i x) j v))) (sym gate)
        ∙ sym (ap (λ hs. run hs (force (forward gs i x) j v)) (drop-cons gs i no_gate hi))

  -- what gates that do not touch the line leave as it is, from level k to level i
  module _ (Same : ℕ → Type 0) (one : (i : ℕ) → i < length gs → touches (gate_at gs (suc i)) j ≡ false → Same i → Same (suc i)) where
    through : (k i : ℕ) → k ≤ i → i ≤ length gs → ((m : ℕ) → k < m → m ≤ i → touches (gate_at gs m) j ≡ false) → Same k → Same i
    through k zero le hi off start = let first : k ≡ 0 = omega arith in subst Same first start
    through k (suc i) le hi off start = by_equal k (suc i)
        (λ e. subst Same e start)
        (λ d. one i hi (off (suc i) (omega arith) (le_refl (suc i)))
        (through k i (omega arith) (omega arith) (λ m lo up. off m lo (omega arith)) start))

  module _ (n i k : ℕ) (last : LastSite n gs i j k) (hi : i ≤ length gs) where
    -- the line has the value that it has at its last site
    pub value_kept : bit (forward gs i x) j ≡ bit (forward gs k x) j
    value_kept = through (λ m. bit (forward gs m x) j ≡ bit (forward gs k x) j) (λ m h off same. level_keeps m h off ∙ same) k i
        last.within hi last.between refl

    forced_kept : (v : ℕ) → run (drop i gs) (force (forward gs i x) j v) ≡ run (drop k gs) (force (forward gs k x) j v)
    forced_kept v = through (λ m. run (drop m gs) (force (forward gs m x) j v) ≡ run (drop k gs) (force (forward gs k x) j v))
        (λ m h off same. level_forced m h off v ∙ same) k i last.within hi last.between refl

-- the fault at another level
abbrev pub moved_to : ℕ → Fault → Fault
moved_to k f = record { class = f.class; place = k; line = f.line; value = f.value }

-- stuck at a level, and stuck at the line's last site up to there: the outputs are the same
pub outputs_kept : (n : ℕ) (gs : List Gate) (f : Fault) (k : ℕ) → f.class ≡ 1 → f.place ≤ length gs → LastSite n gs f.place f.line k
    → (x : ℕ) → faulty gs f x ≡ faulty gs (moved_to k f) x
outputs_kept n gs f k class hi last x =
    faulty_stuck gs f x class ∙ stuck_one gs f x hi ∙ forced_kept gs f.line x n f.place k last hi f.value
    ∙ sym (faulty_stuck gs (moved_to k f) x class ∙ stuck_one gs (moved_to k f) x (omega (arith, last.within)))
