-- The two sets: the compact set, which picks the best vector again and again, and the backward set, with one vector for each level.
use Rattle.std.specs.Prelude.{ℕ, zero, suc, ◌+◌, ◌^◌, ◌≡◌, List, [], ◌∷◌, map, length, ltb}
use Rattle.basics.specs.Choice.{choice}
use Rattle.basics.specs.Lists.{up_from, keep}
use Rattle.words.specs.Word.{all_ones}
use Rattle.words.specs.Inverse.{inverse}
use Rattle.circuit.specs.Runs.{forward, backward}
use Rattle.circuit.specs.declared.Gate.{Gate}
use Rattle.faults.specs.Sites.{site_count}
use Rattle.simulator.specs.Faulty.{caught}
use Rattle.faults.specs.declared.Fault.{Fault}
use Rattle.faults.specs.Classes.{stuck_faults}
use Rattle.judge.specs.Judging.{uncaught_of}
use Rattle.testsets.specs.Log2.{log2}

-- a set is complete when no stuck-at fault of the circuit is left
abbrev pub Complete : ℕ → List Gate → List ℕ → Type 0
Complete n gs xs = uncaught_of gs xs (stuck_faults n gs) ≡ []

-- ---- the compact set

-- how many of the faults a vector catches
unfoldable pub score : List Gate → List Fault → ℕ → ℕ
score gs fs x = length (keep (λ f. caught gs f x) fs)

-- the first vector with the highest score; b is the best so far
unfoldable pub best_of : List Gate → List Fault → ℕ → List ℕ → ℕ
best_of gs fs b [] = b
best_of gs fs b (x ∷ xs) = best_of gs fs (choice (ltb (score gs fs b) (score gs fs x)) x b) xs

-- the smallest of all vectors of n lines with the highest score
unfoldable pub best : ℕ → List Gate → List Fault → ℕ
best n gs fs = best_of gs fs 0 (up_from 0 (2 ^ n))

-- the best vector, then the best for what it leaves, and so on: at most k picks, until nothing is left
unfoldable pub picks : ℕ → ℕ → List Gate → List Fault → List ℕ
picks zero n gs fs = []
picks (suc k) n gs [] = []
picks (suc k) n gs (f ∷ fs) =
    let b = best n gs (f ∷ fs) in
    b ∷ picks k n gs (uncaught_of gs (b ∷ []) (f ∷ fs))

-- the most vectors that a compact set has
unfoldable pub bound : ℕ → List Gate → ℕ
bound n gs = 2 + log2 (site_count n gs)

unfoldable pub compact_set : ℕ → List Gate → List ℕ
compact_set n gs = picks (bound n gs) n gs (stuck_faults n gs)

-- ---- the backward set

-- the vector that gives at level i the inverse of what all zeros give there
unfoldable pub backward_input : ℕ → List Gate → ℕ → ℕ
backward_input n gs i = backward gs i (inverse n (forward gs i 0))

-- all zeros, all ones, and one vector for each gate
unfoldable pub backward_set : ℕ → List Gate → List ℕ
backward_set n gs = 0 ∷ all_ones n ∷ map (backward_input n gs) (up_from 1 (length gs))
