-- The samples that are proved, as one table: what is asked of the sample circuit, and what it gives.
use Rattle.std.specs.Prelude.{ℕ, Bool, true, false, ◌&&◌, List, [], ◌∷◌, eqb}
use Rattle.basics.specs.Lists.{up_from, keep}
use Rattle.refusals.specs.Tables.{Told}
use Rattle.refusals.specs.Tables.Told.{answered, refused}
use Rattle.circuit.specs.Runs.{forward, backward}
use Rattle.simulator.specs.Faulty.{caught}
use Rattle.faults.specs.declared.Fault.{Fault}
use Rattle.faults.specs.Classes.{fault_of}
use Rattle.judge.specs.Judging.{set_verdict}
use Rattle.faults.specs.Sites.{sites, site_count}
use Rattle.testsets.specs.Sets.{bound, compact_set, backward_set}
use Rattle.proved_samples.specs.Sample.{sample}

infix 68 ◌gives◌
pub data Row : Type 0 where
  ◌gives◌ : List ℕ → List ℕ → Row

-- the values that a call tells
abbrev pub values : Told → List ℕ
values (answered vs) = vs
values (refused number place) = []

-- the states of an input at levels 0, 1 and 2
unfoldable pub states : ℕ → List ℕ
states x = forward sample 0 x ∷ forward sample 1 x ∷ forward sample 2 x ∷ []

-- the inputs that catch a fault
unfoldable pub catching : Fault → List ℕ
catching f = keep (caught sample f) (up_from 0 8)

-- the verdict on a set for class 1: number caught, number in the class, complete, first uncaught fault
unfoldable pub judged : List ℕ → List ℕ
judged xs = values (set_verdict 3 sample xs 1)

unfoldable pub table : List Row
table =
    -- the states of an input
    states 3 gives (3 ∷ 7 ∷ 5 ∷ []) ∷
    states 7 gives (7 ∷ 3 ∷ 1 ∷ []) ∷
    states 1 gives (1 ∷ 1 ∷ 3 ∷ []) ∷
    states 6 gives (6 ∷ 6 ∷ 6 ∷ []) ∷
    -- backward from level 2 and from level 1, state 7
    (backward sample 2 7 ∷ []) gives (5 ∷ []) ∷
    (backward sample 1 7 ∷ []) gives (3 ∷ []) ∷
    -- gate 1 missing; gate 1 without control 0; gate 2 with extra line 2
    catching (fault_of 2 1 0 0) gives (3 ∷ 7 ∷ []) ∷
    catching (fault_of 3 1 0 0) gives (2 ∷ 6 ∷ []) ∷
    catching (fault_of 4 2 2 0) gives (1 ∷ 7 ∷ []) ∷
    -- sets that are not stuck-at complete, and the first fault that they do not catch
    judged (0 ∷ 7 ∷ []) gives (14 ∷ 16 ∷ 0 ∷ 1 ∷ 1 ∷ 2 ∷ 0 ∷ []) ∷
    judged (0 ∷ 7 ∷ 3 ∷ []) gives (15 ∷ 16 ∷ 0 ∷ 1 ∷ 2 ∷ 1 ∷ 0 ∷ []) ∷
    -- the sites of levels 0, 1 and 2, as words of lines
    (sites 3 sample 0 ∷ sites 3 sample 1 ∷ sites 3 sample 2 ∷ []) gives (7 ∷ 7 ∷ 3 ∷ []) ∷
    -- the backward set; the compact set, the number of sites and the bound
    backward_set 3 sample gives (0 ∷ 7 ∷ 3 ∷ 5 ∷ []) ∷
    compact_set 3 sample gives (0 ∷ 3 ∷ 5 ∷ []) ∷
    (site_count 3 sample ∷ bound 3 sample ∷ []) gives (8 ∷ 5 ∷ []) ∷ []

-- every row gives what it says
abbrev pub same : List ℕ → List ℕ → Bool
same [] [] = true
same [] (b ∷ bs) = false
same (a ∷ rest) [] = false
same (a ∷ rest) (b ∷ bs) = eqb a b && same rest bs

abbrev pub holds : List Row → Bool
holds [] = true
holds (asked gives expected ∷ rows) = same asked expected && holds rows
