-- `real_head::line_turn` meets its contract: what follows the first word stands in the line, and so in the text. Assumes nothing.
use Rattle.text_words.proofs.PartLaws.{part_in, rest_part}
use Rattle.real_head.proofs.line_turn.Goals as goal

pub returns-clause-within : goal.returns-clause-within
returns-clause-within c = λ text read part. c.due_turn.ensures.within text read (part_in part (rest_part c.in-Some.ensures))
