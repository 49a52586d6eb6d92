-- `multiple_faults::rules::site_twice` meets its contract: each record's site is asked of the later ones. Assumes nothing.
use Rattle.std.proofs.Common.{◌/◌, arith, rules, refl, ◌∙◌, length}
use borrow.Author.Tests.{tests}
use Rattle.std.proofs.lemmas.Iterator.{YieldsList-from_range}
use Rattle.std.proofs.lemmas.Iterator.Search.{any_from_yields_List}
use Rattle.faults.specs.Records.{faults_of}
use Rattle.faults.proofs.RecordLaws.{records_count}
use Rattle.multiple_faults.proofs.TwiceLaws.{again, twice_from}
use Rattle.multiple_faults.proofs.rules.site_twice.Goals as goal

pub returns : goal.returns
returns c =
    let fs = faults_of c.args.entries.now in
    let whole = length c.args.entries.now / 4 in
    any_from_yields_List (again fs) _ _ _ c.any.ensures.ran (YieldsList-from_range 0 whole whole refl (omega arith))
    (λ x b q k. search (rules, tests))
    ∙ twice_from fs whole (omega (arith, records_count c.args.entries.now))
