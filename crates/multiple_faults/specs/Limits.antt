-- The limit of a multiple fault.
use Rattle.std.specs.Prelude.{ℕ}

-- it has at most so many entries
abbrev pub most_entries : ℕ
most_entries = 256
