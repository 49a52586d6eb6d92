-- The stuck-at faults that are still left, as words of lines.
-- For each level there is a word of the lines whose stuck-at-0 fault is left, and one of those whose stuck-at-1 fault is.
use Rattle.std.specs.Prelude.{ℕ, ◌≤◌, ◌<◌, ◌≡◌, List, length, get_or, set}
use Rattle.std.specs.Coded.{Coded-set, coded_ℕ, le_prop}
use Rattle.basics.specs.Lists.{keep}
use Rattle.words.specs.Word.{bit}
use Rattle.circuit.specs.declared.Gate.{Gate}
use Rattle.faults.specs.Sites.{sites}
use Rattle.faults.specs.declared.Fault.{Fault}
use Rattle.faults.specs.Classes.{stuck_faults}
use Rattle.marking.specs.Marks.{level_marked}

-- the list of them
unfoldable pub left_of : ℕ → List Gate → List ℕ → List ℕ → List Fault
left_of n gs at0 at1 = keep (level_marked at0 at1) (stuck_faults n gs)

-- a word for each level, which has no other lines than sites
pub record OnSites (n : ℕ) (gs : List Gate) (ws : List ℕ) : Type 0 where
  pub wide : length gs < length ws
  pub inside : (i j : ℕ) → i ≤ length gs → bit (get_or ws i 0) j ≡ 1 → bit (sites n gs i) j ≡ 1

-- both kinds of words
pub record Within (n : ℕ) (gs : List Gate) (at0 at1 : List ℕ) : Type 0 where
  pub at_0 : OnSites n gs at0
  pub at_1 : OnSites n gs at1

-- words of which one, of a place, is changed
abbrev pub changed_at : (ℕ → ℕ) → ℕ → List ℕ → List ℕ
changed_at change i words = set words i (change (get_or words i 0))

-- ---- there is one proof of each of these at most, as a type that keeps one asks

OnSites-prop : (n : ℕ) (gs : List Gate) (ws : List ℕ) → IsProp (OnSites n gs ws)
OnSites-prop n gs ws a b = λ i. record {
  wide = le_prop a.wide b.wide i;
  inside = λ k j h o. Coded-set coded_ℕ (bit (sites n gs k) j) 1 (a.inside k j h o) (b.inside k j h o) i;
}

pub Within-prop : (n : ℕ) (gs : List Gate) (at0 at1 : List ℕ) → IsProp (Within n gs at0 at1)
Within-prop n gs at0 at1 a b = λ i. record {
  at_0 = OnSites-prop n gs at0 a.at_0 b.at_0 i;
  at_1 = OnSites-prop n gs at1 a.at_1 b.at_1 i;
}
