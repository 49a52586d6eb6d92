-- `multiple_faults::rules::named_again` meets its contract: the records after this one are searched for its site. Assumes nothing.
use Rattle.std.proofs.Common.{◌+◌, ◌-◌, ◌/◌, arith, rules, refl, ◌∙◌, length, get_or}
use borrow.Author.Tests.{tests}
use Rattle.std.proofs.lemmas.Iterator.{YieldsList-from_range}
use Rattle.std.proofs.lemmas.Iterator.Search.{any_from_yields_List}
use Rattle.faults.specs.Records.{no_fault, faults_of}
use Rattle.faults.proofs.RecordLaws.{records_count}
use Rattle.multiple_faults.specs.Multiple.{same_site}
use Rattle.multiple_faults.proofs.TwiceLaws.{some_from}
use Rattle.multiple_faults.proofs.rules.named_again.Goals as goal

pub returns : goal.returns
returns c =
    let a = c.args in
    let fs = faults_of a.entries.now in
    let site = same_site (get_or fs a.ahead no_fault) in
    let left = length a.entries.now / 4 - (a.ahead + 1) in
    any_from_yields_List (λ i. site (get_or fs i no_fault)) _ _ _ c.any.ensures.ran (YieldsList-from_range (a.ahead + 1) _ left refl refl)
    (λ x b q k. search (rules, tests))
    ∙ some_from site fs (a.ahead + 1) left (omega (arith, records_count a.entries.now))
