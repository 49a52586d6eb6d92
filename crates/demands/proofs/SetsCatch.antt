-- What the calls tell of the vectors of a set that catches every single stuck-at fault: caught, of each fault and each multiple fault that they take.
use Prim.Native.Nat.{ℕ, ◌+◌, ◌^◌, ◌≤◌, ◌<◌}
use mathlib.Core.Path.{◌≡◌, refl, sym, ap, ◌∙◌, subst}
use mathlib.Core.Bool.{true}
use mathlib.Core.List.{List, [], ◌∷◌, Memᴰ}
use lib.ListN.{length, take}
use Rattle.basics.specs.Choice.{count}
use Rattle.basics.specs.Lists.{All}
use Rattle.basics.proofs.Lists.{all_entry}
use Rattle.basics.proofs.All.{all_map}
use Rattle.refusals.specs.Tables.{Told, first_of}
use Rattle.refusals.specs.Tables.Told.{answered}
use Rattle.refusals.specs.Answers.{fine}
use Rattle.refusals.proofs.Tables.{fine_all}
use Rattle.circuit.specs.Gates.{gates_of}
use Rattle.circuit.specs.declared.Gate.{Gate}
use Rattle.simulator.specs.Faulty.{caught}
use Rattle.faults.specs.Rules.{fault_rows}
use Rattle.simulator.specs.Rules.{catch_rows}
use Rattle.faults.specs.Records.{faults_of}
use Rattle.multiple_faults.specs.Multiple.{caught_together}
use Rattle.multiple_faults.specs.Rules.{entries_rows, multiple_rows}
use Rattle.faults.specs.declared.Fault.{Fault}
use Rattle.simulator.proofs.RuleLaws.{catch_ok}
use Rattle.demands.proofs.Machine.{Circuit, CaughtTogether, Has, Multiple}
use Rattle.demands.proofs.MachineLaws.{circuit_ok, gates_flat}
use Rattle.demands.proofs.HasLaws.{has_of, has_value}
use Rattle.demands.proofs.ValidLists.{multiple_is}
use Rattle.demands.proofs.FaultyLaws.{caught_means, together_means}
use Rattle.demands.proofs.FaultLists.{Picks}
use Rattle.demands.proofs.StuckLines.{stuck_line, together_caught}
use Rattle.demands.proofs.Sets.{MakesCompact, in_front_lem}
use Rattle.demands.proofs.Completeness.{EveryCaught}
use Rattle.demands.proofs.Runs.{passes_too}

module _ (n : ℕ) (words : List ℕ) (gs : List Gate) (circuit : Circuit n words gs) (set : List ℕ) (inputs : All (λ x. x < 2 ^ n) set)
    (every : EveryCaught n gs 1 set) where
  same_gates : gates_of words ≡ gs
  same_gates = ap gates_of circuit.lent ∙ gates_flat gs

  -- a fault of class 1 that is taken with any vector x is told as caught with some vector of the set
  pub tells_single : (x : ℕ) (f : Fault) → fine ≡ first_of (catch_rows n words x f) fine → f.class ≡ 1
      → (v : ℕ) × Memᴰ v set
      × ((t : Told) → t ≡ first_of (catch_rows n words v f) (answered (count (caught (gates_of words) f v) ∷ [])) → t ≡ answered (1 ∷ []))
  unfolding catch_rows
  tells_single x f taken class =
      let has : Has n gs f = subst (λ hs. Has n hs f) same_gates (has_of n (gates_of words) f (catch_ok n words x f taken).fault) in
      let w = every f class has in
      let v : ℕ = w.0 in
      let is : caught (gates_of words) f v ≡ true = ap (λ hs. caught hs f v) same_gates ∙ (caught_means n gs f has v).1 w.2 in
      let passes = passes_too n words x v (fault_rows n words f) taken (all_entry (λ y. y < 2 ^ n) w.1 inputs) in
      (v, w.1, λ t p. p ∙ sym (fine_all (catch_rows n words v f) _ passes) ∙ ap (λ b. answered (count b ∷ [])) is)

  -- it catches each multiple fault too, whose entries are stuck lines
  multiple_caught : (fs : List Fault) → Multiple n gs fs → (v : ℕ) × Memᴰ v set × (caught_together gs fs v ≡ true)
  multiple_caught fs multiple = together_caught n gs set every (circuit_ok n words gs circuit) fs (record {
    some = multiple.some;
    stuck = all_map (λ f h. stuck_line n gs f h.1 h.0) fs multiple.stuck;
    once = multiple.once;
  })

  -- so one that is taken with any vector x is told as caught with some vector of the set
  pub tells_multiple : (x : ℕ) (list : List ℕ) → fine ≡ first_of (multiple_rows n words x list) fine
      → (v : ℕ) × Memᴰ v set
      × ((t : Told) → t ≡ first_of (multiple_rows n words v list) (answered (count (caught_together (gates_of words) (faults_of list) v) ∷ []))
      → t ≡ answered (1 ∷ []))
  unfolding multiple_rows
  tells_multiple x list taken =
      let w = multiple_caught (faults_of list) (subst (λ hs. Multiple n hs (faults_of list)) same_gates (multiple_is n words x list taken).1) in
      let v : ℕ = w.0 in
      let is : caught_together (gates_of words) (faults_of list) v ≡ true = ap (λ hs. caught_together hs (faults_of list) v) same_gates ∙ w.2 in
      let passes = passes_too n words x v (entries_rows n words list) taken (all_entry (λ y. y < 2 ^ n) w.1 inputs) in
      (v, w.1, λ t p. p ∙ sym (fine_all (multiple_rows n words v list) _ passes) ∙ ap (λ b. answered (count b ∷ [])) is)

-- ---- the compact set, by what was told of it and what stands in the room: the front of the room is the set

module _ (n : ℕ) (words room exit : List ℕ) (k : ℕ) (is : MakesCompact n words room (k ∷ []) exit) where
  front : is.set ≡ take k exit
  front = in_front_lem is.stands k refl

  pub compact_single : (x : ℕ) (f : Fault) → fine ≡ first_of (catch_rows n words x f) fine → f.class ≡ 1
      → (v : ℕ) × Memᴰ v (take k exit)
      × ((t : Told) → t ≡ first_of (catch_rows n words v f) (answered (count (caught (gates_of words) f v) ∷ [])) → t ≡ answered (1 ∷ []))
  compact_single x f taken class =
      let w = tells_single n words is.gs is.circuit is.set is.stands.inputs is.stands.catches_all x f taken class in
      (w.0, subst (Memᴰ w.0) front w.1, w.2)

  pub compact_multiple : (x : ℕ) (list : List ℕ) → fine ≡ first_of (multiple_rows n words x list) fine
      → (v : ℕ) × Memᴰ v (take k exit)
      × ((t : Told) → t ≡ first_of (multiple_rows n words v list) (answered (count (caught_together (gates_of words) (faults_of list) v) ∷ []))
      → t ≡ answered (1 ∷ []))
  compact_multiple x list taken =
      let w = tells_multiple n words is.gs is.circuit is.set is.stands.inputs is.stands.catches_all x list taken in
      (w.0, subst (Memᴰ w.0) front w.1, w.2)

  -- it catches every stuck-at fault that the circuit has, and all of them that a multiple fault has together
  pub compact_catches : EveryCaught n is.gs 1 (take k exit)
  compact_catches = subst (EveryCaught n is.gs 1) front is.stands.catches_all

  pub compact_together : (fs : List Fault) → Multiple n is.gs fs → (v : ℕ) × Memᴰ v (take k exit) × CaughtTogether is.gs fs v
  compact_together fs multiple =
      let w = multiple_caught n words is.gs is.circuit is.set is.stands.inputs is.stands.catches_all fs multiple in
      let values = all_map (λ f h. has_value n is.gs f h.1 h.0) fs multiple.stuck in
      (w.0, subst (Memᴰ w.0) front w.1, (together_means is.gs fs values multiple.once w.0).0 w.2)

  -- at most 2 + floor(log2 S) vectors, and each picked by the rule
  pub compact_few : k ≤ 2 + is.log
  compact_few = let e = is.stands.values-are in let number : k ≡ length is.set = cc in subst (λ m. m ≤ 2 + is.log) (sym number) is.few

  pub compact_picks : Picks n is.gs is.faults (take k exit)
  compact_picks = subst (Picks n is.gs is.faults) front is.picked
