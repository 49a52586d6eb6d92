-- What the two calls that make a set answer, and what they leave in the room: the backward set, and the compact set with its picks and its bound.
use Prim.Native.Nat.{ℕ, suc, ◌+◌, ◌-◌, ◌^◌, ◌≤◌, ◌<◌}
use mathlib.Core.Path.{◌≡◌, refl, sym, ap, ◌∙◌, subst}
use mathlib.Core.Bool.{true}
use mathlib.Core.List.{List, [], ◌∷◌, ◌++◌, map, Memᴰ}
use native.Mathlib.Omega.{arith}
use lib.ListN.{length, get_or, take, drop}
use lib.Seq.{take_at}
use Rattle.basics.specs.Lists.{up_from, All}
use Rattle.basics.proofs.Lists.{all_entry, map_up_from_at, length-map-up_from}
use Rattle.words.specs.Word.{bit, all_ones}
use Rattle.words.proofs.Masks.{bit-all_ones}
use Rattle.words.proofs.Inverse.{bit-inverse}
use Rattle.refusals.specs.Tables.{first_of, after}
use Rattle.refusals.specs.Answers.{fine, told_word}
use Rattle.refusals.proofs.Tables.{after-fine}
use Rattle.circuit.specs.Gates.{gates_of}
use Rattle.circuit.specs.Runs.{forward}
use Rattle.circuit.specs.Sound.{AllOk}
use Rattle.circuit.specs.declared.Gate.{Gate}
use Rattle.simulator.specs.Faulty.{caught}
use Rattle.faults.specs.declared.Fault.{Fault}
use Rattle.faults.specs.Classes.{stuck_faults}
use Rattle.faults.proofs.ClassLists.{list_one}
use Rattle.judge.proofs.Verdicts.{complete_iff}
use Rattle.testsets.specs.Log2.{log2}
use Rattle.testsets.specs.Sets.{Complete, backward_input, backward_set, bound, compact_set}
use Rattle.faults.specs.Sites.{site_count}
use Rattle.testsets.specs.Rules.{backward_rows, compact_rows}
use Rattle.testsets.proofs.Log2Laws.{log2-lt, log2-le}
use Rattle.faults.proofs.SiteCount.{site_count-some}
use Rattle.testsets.proofs.RuleLaws.{backward_ok, compact_ok}
use Rattle.testsets.proofs.Picks.{few_faults, compact_complete, compact_few, compact_lt}
use Rattle.testsets.proofs.BackwardLaws.{backward_input_level, backward_complete, backward-length, backward_lts}
use Rattle.testsets.proofs.backward_set.Reads as backward-set
use Rattle.testsets.proofs.compact_set.Reads as compact-set
use Rattle.nufsadeem.proofs.nuf_backward_set.Reads as c-backward-set
use Rattle.nufsadeem.proofs.nuf_compact_set.Reads as c-compact-set
use Rattle.demands.proofs.Machine.{Level, Circuit, site_total}
use Rattle.demands.proofs.SiteTotals.{site_total_lem}
use Rattle.demands.proofs.MachineLaws.{runs_is, circuit-is}
use Rattle.demands.proofs.FaultyLaws.{caught_means}
use Rattle.demands.proofs.FaultLists.{Class, Picks}
use Rattle.demands.proofs.ClassLaws.{class_is}
use Rattle.demands.proofs.Completeness.{EveryCaught}
use Rattle.demands.proofs.PickedLaws.{picks-are}
use Rattle.demands.proofs.Answering.{Answers, means}
use Rattle.demands.proofs.InC.{AnswersInC, means_in_c}
use Rattle.demands.proofs.Demand1 as refusing
use Rattle.demands.proofs.Demand1OfC as refusing-in-c

-- ---- what is told and what stands in the room

-- a set that catches every stuck-at fault stands at the front of the room, the rest of which is as it was, and its number is told
pub record Stands (n : ℕ) (gs : List Gate) (set room values exit : List ℕ) : Type 0 where
  pub values-are : values ≡ length set ∷ []
  pub in_room : length set ≤ length room
  pub front : exit ≡ set ++ drop (length set) room
  pub inputs : All (λ x. x < 2 ^ n) set
  pub catches_all : EveryCaught n gs 1 set

-- so it is what stands at the front
pub in_front_lem : {n : ℕ} {gs : List Gate} {set room values exit : List ℕ} → Stands n gs set room values exit → (k : ℕ) → values ≡ k ∷ []
    → set ≡ take k exit
in_front_lem {set = set} stands k e =
    let told = stands.values-are in
    let number : k ≡ length set = cc in
    sym (ap (take k) stands.front ∙ take_at set _ k (sym number))

-- all zeros, all ones, then for i = 1 to d the input that gives at level i the inverse of what all zeros gives
pub record MakesBackward (n : ℕ) (words room values exit : List ℕ) : Type 0 where
  pub gs : List Gate
  pub circuit : Circuit n words gs
  pub ones : ℕ
  pub later : List ℕ
  pub stands : Stands n gs (0 ∷ ones ∷ later) room values exit
  pub ones_all : (j : ℕ) → j < n → bit ones j ≡ 1
  pub one_a_gate : length later ≡ length gs
  pub inverse : (i s t : ℕ) → 1 ≤ i → i ≤ length gs → Level gs i 0 s → Level gs i (get_or later (i - 1) 0) t → (j : ℕ) → j < n → bit t j ≡ 1 - bit s j

-- of at most 12 lines: the best input for what is left, again and again; at most 2 + floor(log2 S) of them, of S sites
pub record MakesCompact (n : ℕ) (words room values exit : List ℕ) : Type 0 where
  pub gs : List Gate
  pub circuit : Circuit n words gs
  pub few_lines : n ≤ 12
  pub set : List ℕ
  pub stands : Stands n gs set room values exit
  pub faults : List Fault
  pub stuck_at : Class n gs 1 faults
  pub picked : Picks n gs faults set
  pub log : ℕ
  pub log_below : 2 ^ log ≤ site_total n gs
  pub log_above : site_total n gs < 2 ^ suc log
  pub few : length set ≤ 2 + log
  pub room_for : 2 + log ≤ length room

-- ---- the promised sets are so

every-caught : (n : ℕ) (gs : List Gate) → AllOk n gs → (xs : List ℕ) → Complete n gs xs → EveryCaught n gs 1 xs
every-caught n gs ok xs complete f c h =
    let member = subst (Memᴰ f) (list_one n gs 1 refl) ((class_is n gs ok 1).has_all f c h) in
    let w = all_entry (λ k. (x : ℕ) × Memᴰ x xs × (caught gs k x ≡ true)) member ((complete_iff gs xs (stuck_faults n gs)).0 complete) in
    (w.0, w.1, (caught_means n gs f h w.0).0 w.2)

module _ (n : ℕ) (words room exit : List ℕ) where
  abbrev its : List Gate
  its = gates_of words

  makes_backward : fine ≡ first_of (backward_rows n words (length room)) fine
      → exit ≡ after (backward_rows n words (length room)) (backward_set n its ++ drop (length (backward_set n its)) room) room
      → MakesBackward n words room (length (backward_set n its) ∷ []) exit
  unfolding backward_set forward
  makes_backward unbroken left =
      let w = backward_ok n words (length room) unbroken in
      let ok : AllOk n its = w.circuit.gates_ok in
      let vectors : ℕ → ℕ = backward_input n its in
      record {
        gs = its;
        circuit = circuit-is n words w.circuit;
        ones = all_ones n;
        later = map vectors (up_from 1 (length its));
        stands = record {
          values-are = refl;
          in_room = omega (arith, backward-length n its, w.room_fits);
          front = left ∙ sym (after-fine (backward_rows n words (length room)) _ _ unbroken);
          inputs = backward_lts n its ok;
          catches_all = every-caught n its ok (backward_set n its) (backward_complete n its ok);
        };
        ones_all = bit-all_ones n;
        one_a_gate = length-map-up_from vectors 1 (length its);
        inverse = λ i s t lo hi zeros here j below.
            let at : get_or (map vectors (up_from 1 (length its))) (i - 1) 0 ≡ vectors i =
            map_up_from_at vectors 1 (length its) (i - 1) (omega arith) ∙ ap vectors (omega arith) in
            let there : t ≡ forward its i (vectors i) = runs_is (take i its) _ t here ∙ ap (forward its i) at in
            ap (λ u. bit u j) (there ∙ backward_input_level n its ok i) ∙ bit-inverse n (forward its i 0) j below
            ∙ ap (λ u. 1 - bit u j) (sym (runs_is (take i its) 0 s zeros));
      }

  makes_compact : fine ≡ first_of (compact_rows n words (length room)) fine
      → exit ≡ after (compact_rows n words (length room)) (compact_set n its ++ drop (length (compact_set n its)) room) room
      → MakesCompact n words room (length (compact_set n its) ∷ []) exit
  unfolding compact_set bound
  makes_compact unbroken left =
      let w = compact_ok n words (length room) unbroken in
      let ok : AllOk n its = w.circuit.gates_ok in
      let S : ℕ = site_count n its in
      let most = compact_few n its ok in
      let theirs = subst (Class n its 1) (list_one n its 1 refl) (class_is n its ok 1) in
      record {
        gs = its;
        circuit = circuit-is n words w.circuit;
        few_lines = w.lines_few;
        set = compact_set n its;
        stands = record {
          values-are = refl;
          in_room = omega (arith, w.room_fits);
          front = left ∙ sym (after-fine (compact_rows n words (length room)) _ _ unbroken);
          inputs = compact_lt n its;
          catches_all = every-caught n its ok (compact_set n its) (compact_complete n its ok);
        };
        faults = stuck_faults n its;
        stuck_at = theirs;
        picked = picks-are n its ok (bound n its) (stuck_faults n its) theirs.each-is (few_faults n its);
        log = log2 S;
        log_below = subst (λ m. 2 ^ log2 S ≤ m) (site_total_lem n its ok) (log2-le S (site_count-some n words w.circuit));
        log_above = subst (λ m. m < 2 ^ suc (log2 S)) (site_total_lem n its ok) (log2-lt S);
        few = most;
        room_for = w.room_fits;
      }

-- ---- the calls

pub backward_set_means : Answers backward-set.Post (λ κs. told_word)
    (λ κs (lines, (gates, (room, _))) values (_, (_, (room-after, _))). MakesBackward lines gates.now room.now values room-after.now)
backward_set_means = means refusing.backward_set_refuses _ (λ κs a r e p. p.0) (λ κs a r e p u. makes_backward _ _ _ _ u p.1)

pub backward_set_in_c : AnswersInC c-backward-set.Post (λ κs r. r.number) (λ κs r. r.count ∷ [])
    (λ κs (lines, (gates, (room, _))) values (_, (_, (room-after, _))). MakesBackward lines gates.now room.now values room-after.now)
backward_set_in_c = means_in_c 1 refusing-in-c.backward_set_refuses _ (λ κs a r e p. p.0) (λ κs a r e p u. makes_backward _ _ _ _ u p.1)

pub compact_set_means : Answers compact-set.Post (λ κs. told_word)
    (λ κs (lines, (gates, (room, _))) values (_, (_, (room-after, _))). MakesCompact lines gates.now room.now values room-after.now)
compact_set_means = means refusing.compact_set_refuses _ (λ κs a r e p. p.0) (λ κs a r e p u. makes_compact _ _ _ _ u p.1)

pub compact_set_in_c : AnswersInC c-compact-set.Post (λ κs r. r.number) (λ κs r. r.count ∷ [])
    (λ κs (lines, (gates, (room, _))) values (_, (_, (room-after, _))). MakesCompact lines gates.now room.now values room-after.now)
compact_set_in_c = means_in_c 1 refusing-in-c.compact_set_refuses _ (λ κs a r e p. p.0) (λ κs a r e p u. makes_compact _ _ _ _ u p.1)
