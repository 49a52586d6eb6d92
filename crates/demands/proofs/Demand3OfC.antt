-- Demand 3 for the C calls: the set that `nuf_compact_set` leaves in the room, where its number is 0, by what `nuf_catches` and
-- `nuf_catches_multiple` tell of its vectors.
use Prim.Native.Nat.{ℕ}
use mathlib.Core.Path.{◌≡◌, refl, sym, ◌∙◌}
use mathlib.Core.List.{List, [], ◌∷◌, Memᴰ}
use lib.ListN.{take}
use Rattle.refusals.specs.Tables.{Told, first_of}
use Rattle.refusals.specs.Answers.{fine}
use Rattle.refusals.proofs.Tables.{answered-fine}
use Rattle.simulator.specs.Rules.{catch_rows}
use Rattle.multiple_faults.specs.Rules.{multiple_rows}
use Rattle.nufsadeem.proofs.nuf_catches.Reads as catches
use Rattle.nufsadeem.proofs.nuf_catches_multiple.Reads as catches-multiple
use Rattle.answers.specs.declared.Catch.{Catch}
use Rattle.nufsadeem.proofs.nuf_compact_set.Reads as compact-set
use Rattle.demands.proofs.SetsCatch.{compact_single, compact_multiple}
use Rattle.demands.proofs.Sets.{MakesCompact, compact_set_in_c}
use Rattle.demands.proofs.Answering.{Ended}
use Rattle.demands.proofs.InC.{told_by, tells_answer, told_in_c}
use Rattle.demands.proofs.Demand1OfC as refusing
use Rattle.demands.proofs.Demand3.{Lent, AtMost, ByTheRule, SingleCaught, MultipleCaught, made_so}

-- what a struct tells
abbrev tells : Catch → Told
tells r = told_by r.number r.place (r.caught ∷ [])

module _ (made : Ended compact-set.Post) (zero : made.result.number ≡ 0) where
  abbrev n : ℕ
  n = let (lines, _) = made.inputs in lines

  abbrev words : List ℕ
  words = let (_, (gates, _)) = made.inputs in gates.now

  -- the room, before and after
  abbrev old : List ℕ
  old = let (_, (_, (room, _))) = made.inputs in room.now

  abbrev left : List ℕ
  left = let (_, (_, (room-after, _))) = made.exit in room-after.now

  abbrev k : ℕ
  k = made.result.count

  abbrev written : List ℕ
  written = take k left

  is : MakesCompact n words old (k ∷ []) left
  is = compact_set_in_c.as_said made zero

  pub at_most : AtMost n words k
  at_most = (made_so n words old left k is).0

  pub by_the_rule : ByTheRule n words written
  by_the_rule = (made_so n words old left k is).1

  pub single_caught : SingleCaught n words written
  single_caught = (made_so n words old left k is).2

  pub multiple_caught : MultipleCaught n words written
  multiple_caught = (made_so n words old left k is).3

  pub every_single : (asked : Ended catches.Post)
      → let (lines, (gates, (_, (fault, _)))) = asked.inputs in
      Lent n words lines gates.now → fault.class ≡ 1 → asked.result.number ≡ 0
      → (v : ℕ) × Memᴰ v written
      × ((call : Ended catches.Post)
      → let (lines', (gates', (vector, (fault', _)))) = call.inputs in
      Lent n words lines' gates'.now → vector ≡ v → fault' ≡ fault → (call.result.number ≡ 0) × (call.result.caught ≡ 1))
  every_single asked same class none =
      let (lines, (gates, (x, (f, _)))) = asked.inputs in
      let taken = (tells_answer _ asked.result.place _ (asked.result.caught ∷ [])).1 (none, refl) in
      let p = told_in_c 1 refusing.catches_refuses asked _ asked.promised in
      let passed = (answered-fine (catch_rows lines gates.now x f) _ _ (sym taken ∙ p)).1 in
      let w = compact_single _ _ _ _ k is x f (coe 0 1 (i. fine ≡ first_of (catch_rows (same.0 i) (same.1 i) x f) fine) passed) class in (
        w.0,
        w.1,
        λ call lent vector fault.
            let q = told_in_c 1 refusing.catches_refuses call _ call.promised in
            let r = (tells_answer _ _ (call.result.caught ∷ []) (1 ∷ [])).0 (w.2 (tells call.result) cc) in
            (r.0, let e = r.1 in cc),
      )

  pub every_multiple : (asked : Ended catches-multiple.Post)
      → let (lines, (gates, (_, (entries, _)))) = asked.inputs in
      Lent n words lines gates.now → asked.result.number ≡ 0
      → (v : ℕ) × Memᴰ v written
      × ((call : Ended catches-multiple.Post)
      → let (lines', (gates', (vector, (entries', _)))) = call.inputs in
      Lent n words lines' gates'.now → vector ≡ v → entries'.now ≡ entries.now
      → (call.result.number ≡ 0) × (call.result.caught ≡ 1))
  every_multiple asked same none =
      let (lines, (gates, (x, (entries, _)))) = asked.inputs in
      let list : List ℕ = entries.now in
      let taken = (tells_answer _ asked.result.place _ (asked.result.caught ∷ [])).1 (none, refl) in
      let p = told_in_c 1 refusing.catches_multiple_refuses asked _ asked.promised in
      let passed = (answered-fine (multiple_rows lines gates.now x list) _ _ (sym taken ∙ p)).1 in
      let w = compact_multiple _ _ _ _ k is x list (coe 0 1 (i. fine ≡ first_of (multiple_rows (same.0 i) (same.1 i) x list) fine) passed) in (
        w.0,
        w.1,
        λ call lent vector entries.
            let q = told_in_c 1 refusing.catches_multiple_refuses call _ call.promised in
            let r = (tells_answer _ _ (call.result.caught ∷ []) (1 ∷ [])).0 (w.2 (tells call.result) cc) in
            (r.0, let e = r.1 in cc),
      )
