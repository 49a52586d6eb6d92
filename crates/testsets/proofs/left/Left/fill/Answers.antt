-- `testsets::left::Left::fill` meets its contract: each turn stores the sites of one level, all of which are left. Assumes nothing.
use Rattle.std.proofs.Common.{arith, refl, ap, ◌∙◌, ◌≡◌, ◌+◌, length}
use Rattle.circuit.specs.Checked.{gates_in}
use Rattle.faults.specs.Sites.{sites}
use Rattle.testsets.specs.Left.{left_of}
use Rattle.testsets.proofs.Changes.{changed_none, changed-more}
use Rattle.testsets.proofs.LeftLaws.{sites_all}
use Rattle.testsets.proofs.left.Left.fill.Goals as goal

pub loop-i-init : goal.loop-i-init
loop-i-init c = (refl, changed_none _ _, changed_none _ _)

pub loop-i-preserved : goal.loop-i-preserved
loop-i-preserved c =
    let circuit = c.args.self.now.circuit in
    let left = c.loop-i.self in
    let i = c.loop-i.i in
    let (same, zeros, ones) = c.loop-i.invariant in
    let word = c.sites_at-sites.ensures ∙ ap (sites circuit.lines (gates_in circuit)) c.level.ensures in
    (same, changed-more _ _ left.at_0 i i _ refl (omega arith) zeros word, changed-more _ _ left.at_1 i i _ refl (omega arith) ones word)

pub returns : goal.returns
returns c =
    let circuit = c.args.self.now.circuit in
    let left = c.loop-i.self in
    let (same, zeros, ones) = c.loop-i.invariant in
    let last : c.loop-i.i ≡ length (gates_in circuit) + 1 = omega arith in (
      same,
      ap (λ circuit. left_of circuit.lines (gates_in circuit) left.at_0 left.at_1) same
          ∙ sites_all circuit.lines (gates_in circuit) _ _ _ _ (rw last at zeros) (rw last at ones),
    )
