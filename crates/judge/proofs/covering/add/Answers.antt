-- `judge::covering::add` meets its contract: a vector that breaks no rule is not refused, and is added. Assumes nothing.
use Rattle.judge.proofs.SetLaws.{added_more}
use Rattle.judge.proofs.covering.add.Goals as goal

pub returns : goal.returns
returns c =
    let a = c.args in
    added_more a.coverage.now c.unwrap.result a.lines a.gates.now a.vector c.with_vector.result c.unwrap.ensures c.with_vector.ensures.1 c.requires
