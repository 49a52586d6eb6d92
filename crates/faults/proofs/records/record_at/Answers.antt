-- `faults::records::record_at` meets its contract: a record has four words of the list. Assumes nothing.
use Rattle.faults.proofs.RecordLaws.{record_words}
use borrow.Author.Rules.{rules}
use Rattle.faults.proofs.records.record_at.Goals as goal

pub returns : goal.returns
returns c = record_words _ _ (search rules)
