-- The sample circuit: 3 lines; gate 1 has controls 0 and 1 and target 2, gate 2 has control 0 and target 1.
use Rattle.std.specs.Prelude.{ℕ, List, [], ◌∷◌}
use Rattle.circuit.specs.Gates.{gates_of}
use Rattle.circuit.specs.declared.Gate.{Gate}

-- as it is lent: controls, spare and target of each gate
unfoldable pub sample_words : List ℕ
sample_words = 3 ∷ 0 ∷ 2 ∷ 1 ∷ 0 ∷ 1 ∷ []

unfoldable pub sample : List Gate
sample = gates_of sample_words

-- the sample job: this circuit, vectors 0, 3 and 5, all classes
unfoldable pub sample_job : List ℕ
sample_job =
    1 ∷ 0 ∷ 3 ∷ 0 ∷ 15 ∷ 0 ∷ 0 ∷ 0 ∷ 2 ∷ 0 ∷ 0 ∷ 0 ∷ 3 ∷ 0 ∷ 0 ∷ 0 ∷
    28 ∷ 0 ∷ 0 ∷ 0 ∷ 52 ∷ 0 ∷ 0 ∷ 0 ∷ 64 ∷ 0 ∷ 0 ∷ 0 ∷ 3 ∷ 0 ∷ 0 ∷ 0 ∷
    0 ∷ 0 ∷ 0 ∷ 0 ∷ 2 ∷ 0 ∷ 0 ∷ 0 ∷ 1 ∷ 0 ∷ 0 ∷ 0 ∷ 0 ∷ 0 ∷ 0 ∷ 0 ∷
    1 ∷ 0 ∷ 0 ∷ 0 ∷ 0 ∷ 0 ∷ 0 ∷ 0 ∷ 3 ∷ 0 ∷ 0 ∷ 0 ∷ 5 ∷ 0 ∷ 0 ∷ 0 ∷ []
