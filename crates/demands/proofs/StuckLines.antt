-- A line that is stuck at a level whose gate does not touch it gives the outputs that it gives stuck at a site. So a set that catches every stuck_at
-- fault catches any line stuck at any level too, and any number of them together.
use Prim.Native.Nat.{ℕ, ◌≤◌, ◌<◌}
use mathlib.Core.Path.{◌≡◌, refl, sym, ap, ◌∙◌, subst}
use mathlib.Core.Logic.{◌↔◌}
use mathlib.Core.Bool.{true}
use mathlib.Core.List.{List, [], ◌∷◌, Memᴰ}
use native.Mathlib.Omega.{arith}
use lib.ListN.{length, take}
use borrow.Author.Tests.{eq-eqb}
use Rattle.basics.specs.Lists.{All}
use Rattle.basics.proofs.Lists.{all_entry}
use Rattle.words.specs.Word.{bit}
use Rattle.circuit.specs.Runs.{forward}
use Rattle.circuit.specs.Sound.{AllOk}
use Rattle.circuit.specs.declared.Gate.{Gate}
use Rattle.faults.specs.Sites.{sites}
use Rattle.faults.specs.Stuck.{StuckOk}
use Rattle.faults.specs.declared.Fault.{Fault}
use Rattle.simulator.specs.Faulty.{faulty, caught}
use Rattle.simulator.proofs.UntouchedLaws.{last_site, value_kept, moved_to, outputs_kept}
use Rattle.multiple_faults.specs.Multiple.{caught_together}
use Rattle.testsets.proofs.Multiple.{deepest, deepest_caught}
use Rattle.demands.proofs.Machine.{Level, FaultyRuns, StuckRuns, Caught, Has, NoSiteTwice}
use Rattle.demands.proofs.Machine.FaultyRuns.{stuck_at, missing_gate, missing_control, extra_control}
use Rattle.demands.proofs.Machine.Has.{stuck_at as has_stuck}
use Rattle.demands.proofs.MachineLaws.{runs_is, stuck_one}
use Rattle.demands.proofs.HasLaws.{site_of, has_line}
use Rattle.demands.proofs.FaultyLaws.{differ_means, line_stuck, faulty-faulty, faulty-is}
use Rattle.demands.proofs.FaultLists.{CaughtBySome}
use Rattle.demands.proofs.Completeness.{EveryCaught}

-- a line stuck at a level, whether or not the level's gate touches it
pub record StuckLine (n : ℕ) (gs : List Gate) (f : Fault) : Type 0 where
  pub class_is : f.class ≡ 1
  pub level_in : f.place ≤ length gs
  pub line_in : f.line < n
  pub value_in : f.value ≤ 1

-- some of them, no two at one level and line
pub record StuckLines (n : ℕ) (gs : List Gate) (fs : List Fault) : Type 0 where
  pub some : 1 ≤ length fs
  pub stuck : All (StuckLine n gs) fs
  pub once : NoSiteTwice fs

-- a fault of class 1 that the circuit has is one
pub stuck_line : (n : ℕ) (gs : List Gate) (f : Fault) → Has n gs f → f.class ≡ 1 → StuckLine n gs f
stuck_line n gs f has one =
    let k = has_line n gs f has one in
    record { class_is = one; level_in = k.place_in; line_in = k.line_in; value_in = k.value_in }

-- ---- one stuck line

module _ (n : ℕ) (gs : List Gate) (f : Fault) (is : StuckLine n gs f) where
  line_ok : StuckOk n (length gs) f
  line_ok = record { class_is = is.class_is; place_in = is.level_in; line_in = is.line_in; value_in = is.value_in }

  module _ (x : ℕ) where
    -- what the contracts cite is the output with the line stuck, and nothing else
    line_runs : StuckRuns (f ∷ []) 0 gs x (faulty gs f x)
    line_runs = line_stuck gs f x is.class_is is.value_in

    output_is : (t : ℕ) → FaultyRuns gs f x t → t ≡ faulty gs f x
    output_is t (stuck_at e w) = stuck_one (f ∷ []) 0 gs x t (faulty gs f x) w line_runs
    output_is t (missing_gate e w) = let one = is.class_is in absurd (omega arith)
    output_is t (missing_control e h save none w) = let one = is.class_is in absurd (omega arith)
    output_is t (extra_control e h save more w) = let one = is.class_is in absurd (omega arith)

    line-caught : Caught gs f x → caught gs f x ≡ true
    unfolding caught
    line-caught = (differ_means gs x (FaultyRuns gs f x) (faulty gs f x) (stuck_at is.class_is line_runs) output_is).1

  -- it gives the outputs of a fault that the circuit has: of the same line, stuck at the same value
  pub record Alike : Type 0 where
    pub kept : Fault
    pub class_is : kept.class ≡ 1
    pub has : Has n gs kept
    pub no_later : kept.place ≤ f.place
    pub same_line : kept.line ≡ f.line
    pub same_value : kept.value ≡ f.value
    -- the line has one value at both levels, in the good circuit
    pub same_good : (x s t : ℕ) → Level gs f.place x s → Level gs kept.place x t → bit s f.line ≡ bit t f.line
    pub same_outputs : (x t : ℕ) → FaultyRuns gs f x t ↔ FaultyRuns gs kept x t

  pub alike : Alike
  unfolding forward
  alike =
      let last = last_site n gs f.place f.line is.line_in in
      let k : ℕ = last.0 in
      let h : Fault = moved_to k f in
      let below : k ≤ length gs = omega (arith, last.1.within, is.level_in) in
      let there = site_of n gs k f.line below is.line_in (eq-eqb (bit (sites n gs k) f.line) 1 last.1.site) in
      let has : Has n gs h = has_stuck is.class_is there is.value_in in
      let same : (x : ℕ) → faulty gs f x ≡ faulty gs h x = outputs_kept n gs f k is.class_is is.level_in last.1 in
      record {
        kept = h;
        class_is = is.class_is;
        has = has;
        no_later = last.1.within;
        same_line = refl;
        same_value = refl;
        same_good = λ x s t here there.
            ap (λ u. bit u f.line) (runs_is (take f.place gs) x s here) ∙ value_kept gs f.line x n f.place k last.1 is.level_in
            ∙ sym (ap (λ u. bit u f.line) (runs_is (take k gs) x t there));
        same_outputs = λ x t. (
          λ w. subst (FaultyRuns gs h x) (sym (output_is x t w ∙ same x)) (faulty-faulty n gs h has x),
          λ w. subst (FaultyRuns gs f x) (sym (faulty-is n gs h has x t w ∙ sym (same x))) (stuck_at is.class_is (line_runs x)),
        );
      }

-- ---- a set that catches every stuck-at fault

module _ (n : ℕ) (gs : List Gate) (xs : List ℕ) (every : EveryCaught n gs 1 xs) where
  pub any_caught : (f : Fault) → StuckLine n gs f → CaughtBySome gs xs f
  any_caught f is =
      let a = alike n gs f is in
      let w = every a.kept a.class_is a.has in (
        w.0,
        w.1,
        record {
          bad = w.2.bad;
          good = w.2.good;
          bad-is = (a.same_outputs w.0 w.2.bad).1 w.2.bad-is;
          good_is = w.2.good_is;
          compared = w.2.compared;
        },
      )

  -- by a vector that catches one of the deepest level
  pub together_caught : AllOk n gs → (fs : List Fault) → StuckLines n gs fs → (v : ℕ) × Memᴰ v xs × (caught_together gs fs v ≡ true)
  together_caught ok fs are =
      let deep = deepest fs are.some in
      let m : Fault = deep.0 in
      let is = all_entry (StuckLine n gs) deep.1 are.stuck in
      let w = any_caught m is in (
        w.0,
        w.1,
        deepest_caught n gs ok fs m deep.1 are.once deep.2 (line_ok n gs m is) w.0 (line-caught n gs m is w.0 w.2),
      )
