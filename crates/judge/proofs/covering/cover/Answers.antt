-- `judge::covering::cover` meets its contract: the checks are the whole table, and the coverage of a set gives the judge's verdict. Assumes nothing.
use Rattle.std.proofs.Common.{ap, ◌∙◌}
use Rattle.judge.specs.Promises.{count_tells}
use Rattle.judge.proofs.RuleLaws.{judge_ok, judge_passes, set-circuit}
use Rattle.judge.proofs.CoverageTheorems.{count_is_judge}
use Rattle.judge.proofs.covering.cover.Goals as goal

pub covered_by-requires : goal.covered_by-requires
covered_by-requires c =
    let a = c.args in
    let passed = judge_passes a.lines a.gates.now a.vectors.now a.class _ c.in_ok-check_set.ensures.rules c.in_ok-check_class.ensures in record {
      fine_value = set-circuit a.lines a.gates.now a.vectors.now a.class passed;
      all = (judge_ok a.lines a.gates.now a.vectors.now a.class passed).set.vectors;
    }

pub returns : goal.returns
returns c =
    let a = c.args in
    let passed = judge_passes a.lines a.gates.now a.vectors.now a.class _ c.in_ok-check_set.ensures.rules c.in_ok-check_class.ensures in
    c.count.ensures ∙ ap (λ d. count_tells d a.lines a.gates.now a.class) c.covered_by.ensures
    ∙ count_is_judge a.lines a.gates.now a.vectors.now a.class passed
