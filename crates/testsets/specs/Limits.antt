-- The limit of the compact set.
use Rattle.std.specs.Prelude.{ℕ}

-- every input is tried for it, so a circuit has at most so many lines
abbrev pub most_tried_lines : ℕ
most_tried_lines = 12
