-- Demand 3, over the contracts: where `compact_set` answers, which is for each valid circuit of at most 12 lines with room for the bound
-- (`compact_set_takes` of `Accepting`), its set catches every single stuck-at fault and every multiple one of 1 to 256 entries; each pick is the
-- input that catches the most of what is left, the smallest on a tie; and there are at most 2 + floor(log2 S) of them.
use Prim.Native.Nat.{ℕ, suc, ◌+◌, ◌^◌, ◌≤◌, ◌<◌}
use mathlib.Core.Path.{◌≡◌, sym, ◌∙◌}
use mathlib.Core.List.{List, [], ◌∷◌, Memᴰ}
use lib.ListN.{take}
use Rattle.refusals.specs.Tables.{first_of}
use Rattle.refusals.specs.Tables.Told.{answered}
use Rattle.refusals.specs.Answers.{fine, told_word, told_yes}
use Rattle.refusals.proofs.Tables.{answered-fine}
use Rattle.circuit.specs.declared.Gate.{Gate}
use Rattle.simulator.specs.Rules.{catch_rows}
use Rattle.multiple_faults.specs.Rules.{multiple_rows}
use Rattle.faults.specs.declared.Fault.{Fault}
use Rattle.simulator.proofs.catches.Reads as catches
use Rattle.multiple_faults.proofs.catches_multiple.Reads as catches-multiple
use Rattle.testsets.proofs.compact_set.Reads as compact-set
use Rattle.demands.proofs.Machine.{Circuit, CaughtTogether, site_total, Multiple}
use Rattle.demands.proofs.FaultLists.{Class, Picks}
use Rattle.demands.proofs.Completeness.{EveryCaught}
use Rattle.demands.proofs.SetsCatch.{compact_single, compact_multiple, compact_few, compact_picks, compact_catches, compact_together}
use Rattle.demands.proofs.Sets.{MakesCompact, compact_set_means}
use Rattle.demands.proofs.Answering.{Ended}

-- a call is lent the circuit of another: as many lines, and the same words
abbrev pub Lent : ℕ → List ℕ → ℕ → List ℕ → Type 0
Lent n words m others = (m ≡ n) × (others ≡ words)

-- ---- what is said of a set that was written for a circuit of n lines

-- S is the number of sites, and there are at most 2 + floor(log2 S) vectors
abbrev pub AtMost : ℕ → List ℕ → ℕ → Type 0
AtMost n words k = (gs : List Gate) × Circuit n words gs
    × ((log : ℕ) × (2 ^ log ≤ site_total n gs) × (site_total n gs < 2 ^ suc log) × (k ≤ 2 + log))

-- each is the smallest input that catches the most of the stuck-at faults that those before it leave, and at least half; none is left in the end
abbrev pub ByTheRule : ℕ → List ℕ → List ℕ → Type 0
ByTheRule n words written = (gs : List Gate) × Circuit n words gs × ((faults : List Fault) × Class n gs 1 faults × Picks n gs faults written)

-- every stuck-at fault that the circuit has is caught by some vector of it
abbrev pub SingleCaught : ℕ → List ℕ → List ℕ → Type 0
SingleCaught n words written = (gs : List Gate) × Circuit n words gs × EveryCaught n gs 1 written

-- and so is every multiple one, of 1 to 256 entries
abbrev pub MultipleCaught : ℕ → List ℕ → List ℕ → Type 0
MultipleCaught n words written = (gs : List Gate) × Circuit n words gs
    × ((fs : List Fault) → Multiple n gs fs → (v : ℕ) × Memᴰ v written × CaughtTogether gs fs v)

-- where it was made as `MakesCompact` says, all of that holds
pub made_so : (n : ℕ) (words old left : List ℕ) (k : ℕ) → MakesCompact n words old (k ∷ []) left
    → AtMost n words k × ByTheRule n words (take k left) × SingleCaught n words (take k left) × MultipleCaught n words (take k left)
made_so n words old left k is = (
  (is.gs, is.circuit, (is.log, is.log_below, is.log_above, compact_few _ _ _ _ k is)),
  (is.gs, is.circuit, (is.faults, is.stuck_at, compact_picks _ _ _ _ k is)),
  (is.gs, is.circuit, compact_catches _ _ _ _ k is),
  (is.gs, is.circuit, compact_together _ _ _ _ k is),
)

-- ---- the set as the contract of `compact_set` allows it: k vectors at the front of the room

module _ (made : Ended compact-set.Post) (k : ℕ) (told : told_word made.result ≡ answered (k ∷ [])) where
  abbrev n : ℕ
  n = let (lines, _) = made.inputs in lines

  abbrev words : List ℕ
  words = let (_, (gates, _)) = made.inputs in gates.now

  -- the room, before and after
  abbrev old : List ℕ
  old = let (_, (_, (room, _))) = made.inputs in room.now

  abbrev left : List ℕ
  left = let (_, (_, (room-after, _))) = made.exit in room-after.now

  abbrev written : List ℕ
  written = take k left

  is : MakesCompact n words old (k ∷ []) left
  is = compact_set_means.as_said made (k ∷ []) told

  pub at_most : AtMost n words k
  at_most = (made_so n words old left k is).0

  pub by_the_rule : ByTheRule n words written
  by_the_rule = (made_so n words old left k is).1

  pub single_caught : SingleCaught n words written
  single_caught = (made_so n words old left k is).2

  pub multiple_caught : MultipleCaught n words written
  multiple_caught = (made_so n words old left k is).3

  -- and by what is told: every single stuck-at fault that `catches` takes with this circuit, whatever vector it was asked with, is told as caught
  -- with some vector of the set
  pub every_single : (asked : Ended catches.Post)
      → let (lines, (gates, (_, (fault, _)))) = asked.inputs in
      Lent n words lines gates.now → fault.class ≡ 1 → (values : List ℕ) → told_yes asked.result ≡ answered values
      → (v : ℕ) × Memᴰ v written
      × ((call : Ended catches.Post)
      → let (lines', (gates', (vector, (fault', _)))) = call.inputs in
      Lent n words lines' gates'.now → vector ≡ v → fault' ≡ fault → told_yes call.result ≡ answered (1 ∷ []))
  every_single asked same class values taken =
      let (lines, (gates, (x, (f, _)))) = asked.inputs in
      let passed = (answered-fine (catch_rows lines gates.now x f) values _ (sym taken ∙ asked.promised)).1 in
      let w = compact_single _ _ _ _ k is x f (coe 0 1 (i. fine ≡ first_of (catch_rows (same.0 i) (same.1 i) x f) fine) passed) class in
      (w.0, w.1, λ call lent vector fault. w.2 (told_yes call.result) (let p = call.promised in cc))

  -- and every multiple one that `catches_multiple` takes
  pub every_multiple : (asked : Ended catches-multiple.Post)
      → let (lines, (gates, (_, (entries, _)))) = asked.inputs in
      Lent n words lines gates.now → (values : List ℕ) → told_yes asked.result ≡ answered values
      → (v : ℕ) × Memᴰ v written
      × ((call : Ended catches-multiple.Post)
      → let (lines', (gates', (vector, (entries', _)))) = call.inputs in
      Lent n words lines' gates'.now → vector ≡ v → entries'.now ≡ entries.now → told_yes call.result ≡ answered (1 ∷ []))
  every_multiple asked same values taken =
      let (lines, (gates, (x, (entries, _)))) = asked.inputs in
      let list : List ℕ = entries.now in
      let passed = (answered-fine (multiple_rows lines gates.now x list) values _ (sym taken ∙ asked.promised)).1 in
      let w = compact_multiple _ _ _ _ k is x list (coe 0 1 (i. fine ≡ first_of (multiple_rows (same.0 i) (same.1 i) x list) fine) passed) in
      (w.0, w.1, λ call lent vector entries. w.2 (told_yes call.result) (let p = call.promised in cc))
