-- The limits of a circuit and of a set of vectors.
use Rattle.std.specs.Prelude.{ℕ}

-- a circuit has at most so many lines: as many as a word has bits
abbrev pub most_lines : ℕ
most_lines = 32

-- and at most so many gates
abbrev pub most_gates : ℕ
most_gates = 1024

-- a set has at most so many vectors
abbrev pub most_vectors : ℕ
most_vectors = 2048

-- the levels of the longest circuit: the input, and one after each gate
abbrev pub levels : ℕ
levels = 1025
