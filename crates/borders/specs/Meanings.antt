-- What a fault does and which vectors catch it, the test of each class's faults, the sites of each level, and the order of each class's list,
-- on the sample circuit and a few others.
use Rattle.std.specs.Prelude.{ℕ, List, [], ◌∷◌}
use Rattle.basics.specs.Lists.{up_from, keep}
use Rattle.refusals.specs.Tables.Told.{answered}
use Rattle.simulator.specs.Faulty.{caught}
use Rattle.faults.specs.declared.Fault.{Fault}
use Rattle.faults.specs.Sites.{sites}
use Rattle.faults.specs.Classes.{class_faults}
use Rattle.dropping.specs.Dropping.{words_of}
use Rattle.circuit.specs.Gates.{gates_of}
use Rattle.proved_samples.specs.Sample.{sample_words}
use Rattle.borders.specs.Rows.{Row, fault}
use Rattle.borders.specs.Rows.Row.{◌tells◌, ◌gives◌}
use Rattle.simulator.specs.Promises.{output_tells}
use Rattle.fault_test.specs.Promises.{test_for_tells}

-- the vectors of 3 lines that catch a fault of the sample circuit
abbrev pub catching : Fault → List ℕ
catching f = keep (caught (gates_of sample_words) f) (up_from 0 8)

-- the faults of a class in their order, four numbers each: class, place, line, value
abbrev pub faults_in : ℕ → List ℕ → ℕ → List ℕ
faults_in n words class = words_of (class_faults n (gates_of words) class)

-- the lines that are sites at levels 0 and 1 of a circuit, as words
abbrev pub sites_in : ℕ → List ℕ → List ℕ
sites_in n words = sites n (gates_of words) 0 ∷ sites n (gates_of words) 1 ∷ []

unfoldable pub meaning_table : List Row
meaning_table =
    -- the output with a fault in the circuit; without one, 3 gives 5 and 1 gives 3
    output_tells 3 sample_words 3 (fault 1 0 0 0) tells answered (2 ∷ []) ∷
    output_tells 3 sample_words 3 (fault 1 1 2 0) tells answered (1 ∷ []) ∷
    output_tells 3 sample_words 3 (fault 1 2 1 1) tells answered (7 ∷ []) ∷
    output_tells 3 sample_words 3 (fault 2 1 0 0) tells answered (1 ∷ []) ∷
    output_tells 3 sample_words 3 (fault 2 2 0 0) tells answered (7 ∷ []) ∷
    output_tells 3 sample_words 2 (fault 3 1 0 0) tells answered (6 ∷ []) ∷
    output_tells 3 sample_words 1 (fault 3 1 1 0) tells answered (7 ∷ []) ∷
    output_tells 3 sample_words 0 (fault 3 2 0 0) tells answered (2 ∷ []) ∷
    output_tells 3 sample_words 1 (fault 4 2 2 0) tells answered (1 ∷ []) ∷
    -- the vectors that catch a stuck line
    catching (fault 1 0 0 0) gives (1 ∷ 3 ∷ 5 ∷ 7 ∷ []) ∷
    catching (fault 1 0 0 1) gives (0 ∷ 2 ∷ 4 ∷ 6 ∷ []) ∷
    catching (fault 1 1 2 0) gives (3 ∷ 4 ∷ 5 ∷ 6 ∷ []) ∷
    catching (fault 1 1 2 1) gives (0 ∷ 1 ∷ 2 ∷ 7 ∷ []) ∷
    catching (fault 1 2 1 0) gives (1 ∷ 2 ∷ 5 ∷ 6 ∷ []) ∷
    catching (fault 1 2 1 1) gives (0 ∷ 3 ∷ 4 ∷ 7 ∷ []) ∷
    -- a missing gate, a missing control, an extra control
    catching (fault 2 1 0 0) gives (3 ∷ 7 ∷ []) ∷
    catching (fault 2 2 0 0) gives (1 ∷ 3 ∷ 5 ∷ 7 ∷ []) ∷
    catching (fault 3 1 0 0) gives (2 ∷ 6 ∷ []) ∷
    catching (fault 3 1 1 0) gives (1 ∷ 5 ∷ []) ∷
    catching (fault 3 2 0 0) gives (0 ∷ 2 ∷ 4 ∷ 6 ∷ []) ∷
    catching (fault 4 2 2 0) gives (1 ∷ 7 ∷ []) ∷
    -- the test of a stuck line: all lines 1 at its level, or the line itself 0 for stuck-at-1, run backward
    test_for_tells 3 sample_words (fault 1 0 0 0) tells answered (7 ∷ []) ∷
    test_for_tells 3 sample_words (fault 1 0 0 1) tells answered (6 ∷ []) ∷
    test_for_tells 3 sample_words (fault 1 0 2 1) tells answered (3 ∷ []) ∷
    test_for_tells 3 sample_words (fault 1 1 2 0) tells answered (3 ∷ []) ∷
    test_for_tells 3 sample_words (fault 1 1 2 1) tells answered (7 ∷ []) ∷
    test_for_tells 3 sample_words (fault 1 2 1 0) tells answered (5 ∷ []) ∷
    test_for_tells 3 sample_words (fault 1 2 1 1) tells answered (3 ∷ []) ∷
    -- of a missing gate: all lines 1 at the level it reads
    test_for_tells 3 sample_words (fault 2 1 0 0) tells answered (7 ∷ []) ∷
    test_for_tells 3 sample_words (fault 2 2 0 0) tells answered (3 ∷ []) ∷
    -- of a missing and of an extra control: the named line 0 there
    test_for_tells 3 sample_words (fault 3 1 0 0) tells answered (6 ∷ []) ∷
    test_for_tells 3 sample_words (fault 3 1 1 0) tells answered (5 ∷ []) ∷
    test_for_tells 3 sample_words (fault 3 2 0 0) tells answered (6 ∷ []) ∷
    test_for_tells 3 sample_words (fault 4 2 2 0) tells answered (7 ∷ []) ∷
    -- the sites: all lines at level 0, the controls and the target of gate 1 at level 1
    sites_in 1 (0 ∷ 0 ∷ 0 ∷ []) gives (1 ∷ 1 ∷ []) ∷
    sites_in 3 (3 ∷ 0 ∷ 2 ∷ []) gives (7 ∷ 7 ∷ []) ∷
    sites_in 4 (0 ∷ 0 ∷ 0 ∷ []) gives (15 ∷ 1 ∷ []) ∷
    sites_in 4 (0 ∷ 0 ∷ 3 ∷ []) gives (15 ∷ 8 ∷ []) ∷
    sites_in 4 (4 ∷ 0 ∷ 1 ∷ []) gives (15 ∷ 6 ∷ []) ∷
    sites_in 4 (9 ∷ 0 ∷ 1 ∷ []) gives (15 ∷ 11 ∷ []) ∷
    sites_in 32 (0 ∷ 0 ∷ 31 ∷ []) gives (4294967295 ∷ 2147483648 ∷ []) ∷
    sites_in 32 (2147483648 ∷ 0 ∷ 0 ∷ []) gives (4294967295 ∷ 2147483649 ∷ []) ∷
    sites_in 32 (2147483646 ∷ 0 ∷ 0 ∷ []) gives (4294967295 ∷ 2147483647 ∷ []) ∷
    sites_in 32 (4294967294 ∷ 0 ∷ 0 ∷ []) gives (4294967295 ∷ 4294967295 ∷ []) ∷
    -- class 1: by level, then line, control or target alike, then value 0 before 1
    faults_in 1 [] 1 gives (1 ∷ 0 ∷ 0 ∷ 0 ∷ 1 ∷ 0 ∷ 0 ∷ 1 ∷ []) ∷
    faults_in 3 sample_words 1 gives (
    1 ∷ 0 ∷ 0 ∷ 0 ∷ 1 ∷ 0 ∷ 0 ∷ 1 ∷ 1 ∷ 0 ∷ 1 ∷ 0 ∷ 1 ∷ 0 ∷ 1 ∷ 1 ∷ 1 ∷ 0 ∷ 2 ∷ 0 ∷ 1 ∷ 0 ∷ 2 ∷ 1 ∷
    1 ∷ 1 ∷ 0 ∷ 0 ∷ 1 ∷ 1 ∷ 0 ∷ 1 ∷ 1 ∷ 1 ∷ 1 ∷ 0 ∷ 1 ∷ 1 ∷ 1 ∷ 1 ∷ 1 ∷ 1 ∷ 2 ∷ 0 ∷ 1 ∷ 1 ∷ 2 ∷ 1 ∷
    1 ∷ 2 ∷ 0 ∷ 0 ∷ 1 ∷ 2 ∷ 0 ∷ 1 ∷ 1 ∷ 2 ∷ 1 ∷ 0 ∷ 1 ∷ 2 ∷ 1 ∷ 1 ∷ []) ∷
    -- on 3 lines, gate 1 with control 2 and target 0, gate 2 with no control and target 1
    faults_in 3 (4 ∷ 0 ∷ 0 ∷ 0 ∷ 0 ∷ 1 ∷ []) 1 gives (
    1 ∷ 0 ∷ 0 ∷ 0 ∷ 1 ∷ 0 ∷ 0 ∷ 1 ∷ 1 ∷ 0 ∷ 1 ∷ 0 ∷ 1 ∷ 0 ∷ 1 ∷ 1 ∷ 1 ∷ 0 ∷ 2 ∷ 0 ∷ 1 ∷ 0 ∷ 2 ∷ 1 ∷
    1 ∷ 1 ∷ 0 ∷ 0 ∷ 1 ∷ 1 ∷ 0 ∷ 1 ∷ 1 ∷ 1 ∷ 2 ∷ 0 ∷ 1 ∷ 1 ∷ 2 ∷ 1 ∷ 1 ∷ 2 ∷ 1 ∷ 0 ∷ 1 ∷ 2 ∷ 1 ∷ 1 ∷ []) ∷
    -- class 2: by gate
    faults_in 3 [] 2 gives [] ∷
    faults_in 3 sample_words 2 gives (2 ∷ 1 ∷ 0 ∷ 0 ∷ 2 ∷ 2 ∷ 0 ∷ 0 ∷ []) ∷
    -- class 3: by gate, then control; on 4 lines, gate 1 with controls 2 and 3 and target 0, gate 2 with control 0 and target 2
    faults_in 3 sample_words 3 gives (3 ∷ 1 ∷ 0 ∷ 0 ∷ 3 ∷ 1 ∷ 1 ∷ 0 ∷ 3 ∷ 2 ∷ 0 ∷ 0 ∷ []) ∷
    faults_in 4 (12 ∷ 0 ∷ 0 ∷ 1 ∷ 0 ∷ 2 ∷ []) 3 gives (3 ∷ 1 ∷ 2 ∷ 0 ∷ 3 ∷ 1 ∷ 3 ∷ 0 ∷ 3 ∷ 2 ∷ 0 ∷ 0 ∷ []) ∷
    -- class 4: by gate, then line that is neither control nor target
    faults_in 3 sample_words 4 gives (4 ∷ 2 ∷ 2 ∷ 0 ∷ []) ∷
    faults_in 4 (12 ∷ 0 ∷ 0 ∷ 1 ∷ 0 ∷ 2 ∷ []) 4 gives (4 ∷ 1 ∷ 1 ∷ 0 ∷ 4 ∷ 2 ∷ 1 ∷ 0 ∷ 4 ∷ 2 ∷ 3 ∷ 0 ∷ []) ∷
    -- there is no other class
    faults_in 3 sample_words 0 gives [] ∷
    faults_in 3 sample_words 5 gives [] ∷ []
