-- `real_head::read_head` meets its contract: each turn reads one line, so what is left is read from the stage that the lines before lead to.
-- Assumes nothing.
use Rattle.std.proofs.Common.{◌≡◌, ◌+◌, ◌-◌, ◌≤◌, length, drop}
use Rattle.text_words.specs.Words.{lines_of}
use Rattle.real.specs.Reading.{reading, read_from}
use Rattle.real_head.specs.Stages.{stage_of, InText}
use Rattle.real_head.proofs.read_head.Given as goal

abbrev pub invariant-loop-here : goal.invariant-loop-here
invariant-loop-here l = (l.line + length l.left ≤ length l.text + 1)
    × (reading l.text ≡ read_from l.line (stage_of l.due) (lines_of l.left))
    × InText l.text l.due × (l.left ≡ drop (length l.text - length l.left) l.text)

abbrev pub decreases-loop-here : goal.decreases-loop-here
decreases-loop-here l = length l.left
