-- What it means that bytes are put: they stand where the writer was, and it stands behind them. The room is the one that was lent, throughout.
use Rattle.std.specs.Prelude.{ℕ, ◌+◌, ◌≤◌, ◌≡◌, List, length}
use Rattle.std.specs.Borrow.{MutBor}
use Rattle.std.proofs.lemmas.List.Edits.{sets}
use Rattle.text.specs.declared.writing.Writer.{Writer}

-- a writer that stands at the front of a room
pub record Begins (room : MutBor (List ℕ)) (w : Writer) : Type 0 where
  pub same : w.room.ghost_name ≡ room.ghost_name
  pub holds : w.room.now ≡ room.now
  pub front : w.end ≡ 0

-- there is room for these bytes
pub record Fits (w : Writer) (bytes : List ℕ) : Type 0 where
  pub within : w.end + length bytes ≤ length w.room.now

pub record Put (before after : Writer) (bytes : List ℕ) : Type 0 where
  pub same : after.room.ghost_name ≡ before.room.ghost_name
  pub stands : after.room.now ≡ sets before.room.now before.end bytes
  pub behind : after.end ≡ before.end + length bytes
