-- `report_text::lines::put_spaced` meets its contract: each turn puts one number, and those left make the rest of the text. Assumes nothing.
use Rattle.std.proofs.Common.{drop}
use Rattle.basics.specs.Lists.{each}
use Rattle.text.proofs.WritingLaws.{Left}
use Rattle.report_text.specs.Lines.{spaced}
use Rattle.report_text.proofs.lines.put_spaced.Given as goal

abbrev pub invariant-loop-number : goal.invariant-loop-number
invariant-loop-number l = Left l.initial.text l.text (each spaced l.numbers) (each spaced (drop l.number-index l.numbers))
