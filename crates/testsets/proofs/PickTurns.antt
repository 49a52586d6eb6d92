-- The picking loop: what holds at each turn, and that a turn makes the next vector of the compact set.
use Rattle.std.specs.Prelude.{ℕ, zero, suc, ◌+◌, ◌-◌, ◌*◌, ◌^◌, ◌≤◌, ◌<◌, ◌≡◌, refl, List, [], ◌∷◌, ◌++◌, length, take, drop, set}
use Rattle.std.proofs.Common.{zero-le, sym, ap, ◌∙◌, subst, arith}
use Rattle.basics.specs.Lists.{All, onto}
use Rattle.basics.proofs.Fills.{fill_turn, fill_length, fill_done, fill_next, fill_last}
use Rattle.circuit.specs.Gates.{gates_of}
use Rattle.circuit.specs.Sound.{AllOk, Sound}
use Rattle.circuit.specs.declared.Gate.{Gate}
use Rattle.faults.specs.Stuck.{StuckOk}
use Rattle.faults.specs.declared.Fault.{Fault}
use Rattle.faults.specs.Classes.{stuck_faults}
use Rattle.judge.specs.Judging.{uncaught_of}
use Rattle.testsets.specs.Sets.{score, best, picks, bound, compact_set}
use Rattle.faults.specs.Sites.{site_count}
use Rattle.testsets.proofs.Log2Laws.{log2_le_self}
use Rattle.faults.proofs.SiteCount.{stuck_sites, site_count-le, site_count-some}
use Rattle.testsets.proofs.SetLaws.{stuck_ok, score-uncaught, all-uncaught}
use Rattle.testsets.proofs.Halving.{best_half, half_uncaught}
use Rattle.testsets.proofs.Picks.{few_faults, compact_few}

-- one pick more, where something is left, and none where nothing is
picks-some : (n : ℕ) (gs : List Gate) (k : ℕ) (fs : List Fault) → 1 ≤ length fs
    → picks (suc k) n gs fs ≡ best n gs fs ∷ picks k n gs (uncaught_of gs (best n gs fs ∷ []) fs)
unfolding picks
picks-some n gs k [] h = absurd (omega arith)
picks-some n gs k (f ∷ fs) h = refl

picks_none : (n : ℕ) (gs : List Gate) (k : ℕ) (fs : List Fault) → length fs ≡ 0 → picks k n gs fs ≡ []
unfolding picks
picks_none n gs zero fs e = refl
picks_none n gs (suc k) [] e = refl
picks_none n gs (suc k) (f ∷ fs) e = absurd (omega arith)

-- the bound fits a word
bound-fits : (n : ℕ) (words : List ℕ) → Sound n words → bound n (gates_of words) < 2 ^ 32
unfolding bound
bound-fits n words ok =
    let S : ℕ = site_count n (gates_of words) in
    let most = site_count-le n words ok in
    omega (arith, log2_le_self S (site_count-some n words ok))

-- `count` vectors stand in the room, and these faults are left, `remain` of them
pub record Picking (n : ℕ) (gs : List Gate) (old room : List ℕ) (fs : List Fault) (remain count : ℕ) : Type 0 where
  pub stuck : All (StuckOk n (length gs)) fs
  pub remain_is : remain ≡ length fs
  pub room_is : room ≡ take count (compact_set n gs) ++ drop count old
  pub to_come : drop count (compact_set n gs) ≡ picks (bound n gs - count) n gs fs
  pub few : length fs < 2 ^ (bound n gs - count)
  pub made : count ≤ length (compact_set n gs)

-- at the start all are left
pub picking_begin : (n : ℕ) (gs : List Gate) (old : List ℕ) (fs : List Fault) (remain : ℕ) → fs ≡ stuck_faults n gs → remain ≡ 2 * site_count n gs
    → Picking n gs old old fs remain 0
unfolding compact_set
picking_begin n gs old fs remain all e =
    let none : bound n gs - 0 ≡ bound n gs = omega arith in
    record {
      stuck = rw all (stuck_ok n gs);
      remain_is = e ∙ sym (ap length all ∙ stuck_sites n gs);
      room_is = refl;
      to_come = rw (all, none);
      few = rw (all, none) (few_faults n gs);
      made = zero-le;
    }

module _ {n : ℕ} {gs : List Gate} (ok : AllOk n gs) {old room : List ℕ} {fs : List Fault} {remain count : ℕ}
    (now : Picking n gs old room fs remain count) where
  -- ---- something is left

  module _ (some : 0 < remain) where
    -- so fewer than the bound are made
    spare : bound n gs - count ≡ suc (bound n gs - (count + 1))
    spare = above (bound n gs - count) refl
      where
        above : (k : ℕ) → k ≡ bound n gs - count → bound n gs - count ≡ suc (bound n gs - (count + 1))
        above zero e =
            let none : length fs < 2 ^ 0 = subst (λ k. length fs < 2 ^ k) (sym e) now.few in
            absurd (omega (arith, now.remain_is))
        above (suc k) e = omega arith

    next_pick : drop count (compact_set n gs)
        ≡ best n gs fs
        ∷ picks (bound n gs - (count + 1)) n gs (uncaught_of gs (best n gs fs ∷ []) fs)
    next_pick =
        now.to_come ∙ ap (λ k. picks k n gs fs) spare
        ∙ picks-some n gs (bound n gs - (count + 1)) fs (omega (arith, now.remain_is))

    -- the next vector has its place in the room
    pub picking_place : count < length (compact_set n gs)
    picking_place = (fill_next (compact_set n gs) _ count _ next_pick).0

    -- the pick catches some of what is left
    pub picking_catches : (v sc : ℕ) → v ≡ best n gs fs → sc ≡ score gs fs v → (1 ≤ sc) × (sc ≤ remain)
    picking_catches v sc e q =
        let half : length fs ≤ 2 * score gs fs v = rw e (best_half n gs ok fs now.stuck) in
        (omega (arith, now.remain_is), omega (arith, now.remain_is, score-uncaught gs fs v))

    -- and the loop goes on with what it leaves
    pub picking_turn : (v sc : ℕ) (rest : List Fault) → v ≡ best n gs fs → sc ≡ score gs fs v → rest ≡ uncaught_of gs (v ∷ []) fs
        → bound n gs ≤ length old → Picking n gs old (set room count v) rest (remain - sc) (count + 1)
    picking_turn v sc rest e q drops wide =
        let next = fill_next (compact_set n gs) _ count _ next_pick in
        let most = compact_few n gs ok in
        let same : rest ≡ uncaught_of gs (best n gs fs ∷ []) fs = drops ∙ ap (λ b. uncaught_of gs (b ∷ []) fs) e in
        let halved : 2 * length rest ≤ length fs = rw same (half_uncaught n gs ok fs now.stuck) in
        let power : 2 ^ (bound n gs - count) ≡ 2 ^ suc (bound n gs - (count + 1)) = ap (λ k. 2 ^ k) spare in
        record {
          stuck = rw drops (all-uncaught (StuckOk n (length gs)) gs (v ∷ []) fs now.stuck);
          remain_is = omega (arith, now.remain_is, score-uncaught gs fs v, ap length drops);
          room_is = fill_turn (compact_set n gs) old room count v next.0 (omega arith) now.room_is (e ∙ next.1);
          to_come = next.2 ∙ ap (picks (bound n gs - (count + 1)) n gs) (sym same);
          few = omega (arith, now.few);
          made = omega (arith, next.0);
        }

  -- ---- nothing is left: the whole set is made

  pub picking_end : remain ≡ 0 → count ≡ length (compact_set n gs)
  picking_end e =
      fill_last (compact_set n gs) count now.made
      (now.to_come ∙ picks_none n gs (bound n gs - count) fs (omega (arith, now.remain_is)))

  pub picking_done : remain ≡ 0 → room ≡ onto (compact_set n gs) old
  picking_done e = fill_done (compact_set n gs) old room count (picking_end e) now.room_is

  pub picking_long : bound n gs ≤ length old → length room ≡ length old
  picking_long wide = let most = compact_few n gs ok in fill_length (compact_set n gs) old room count now.made (omega arith) now.room_is

-- the number of vectors fits a word
pub picking_fits : {n : ℕ} {words : List ℕ} → Sound n words → {old room : List ℕ} {fs : List Fault} {remain count : ℕ}
    → Picking n (gates_of words) old room fs remain count → count < 2 ^ 32
picking_fits {n} {words} ok now =
    omega (arith, now.made, compact_few n (gates_of words) ok.gates_ok, bound-fits n words ok)
