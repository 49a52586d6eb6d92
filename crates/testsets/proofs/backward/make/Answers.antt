-- `testsets::backward::make` meets its contract: after i turns the room begins with the first i + 2 vectors of the set, and the state is that of
-- all zeros at level i. Assumes nothing.
use Rattle.std.proofs.Common.{arith, sym, ap, ◌∙◌, ◌+◌, ◌≤◌, ◌++◌, length, length-set, set}
use Rattle.circuit.specs.Checked.{gates_in}
use Rattle.circuit.proofs.RuleLaws.{target_fits}
use Rattle.circuit.proofs.RunLaws.{forward_none}
use Rattle.testsets.specs.Sets.{backward_set}
use Rattle.marking.proofs.Levels.{level_next}
use Rattle.testsets.proofs.BackwardLaws.{backward_begin, backward_turn, backward_end, backward-length, backward_rest}
use Rattle.testsets.proofs.backward.make.Goals as goal

pub loop-i-init : goal.loop-i-init
loop-i-init c =
    let circuit = c.args.circuit.now in
    let gs = gates_in circuit in
    (sym (forward_none gs 0), backward_begin circuit.lines gs _ c.all_ones-ones.ensures c.args.room.now c.requires)

pub step-state-requires : goal.step-state-requires
step-state-requires c =
    let circuit = c.args.circuit.now in
    rw c.gate.ensures (target_fits circuit.lines circuit.gates.now _ circuit.sound (omega arith) (omega arith))

pub loop-i-preserved : goal.loop-i-preserved
loop-i-preserved c =
    let circuit = c.args.circuit.now in
    let gs = gates_in circuit in
    let i = c.loop-i.i in
    let ones = c.all_ones-ones in
    let begun = set (set c.args.room.now 0 0) 1 ones.result in
    let (here, filled) = c.loop-i.invariant in
    let wide : length gs + 2 ≤ length begun = omega (arith, length-set c.args.room.now 0 0, length-set (set c.args.room.now 0 0) 1 ones.result) in
    let next = c.step-state.ensures ∙ level_next gs 0 c.loop-i.state i _ _ here (omega arith) c.gate.ensures (omega arith) in (
      next,
      backward_turn circuit.lines gs ones.result ones.ensures begun wide c.loop-i.room i _ _ _ (omega arith) next c.level-level.ensures
          c.inverse_at.ensures filled,
    )

pub returns : goal.returns
returns c =
    let circuit = c.args.circuit.now in
    let gs = gates_in circuit in
    let ones = c.all_ones-ones.result in
    let begun = set (set c.args.room.now 0 0) 1 ones in (
      omega (arith, backward-length circuit.lines gs),
      backward_end circuit.lines gs begun c.loop-i.room c.loop-i.i (omega arith) c.loop-i.invariant.1
          ∙ ap (λ rest. backward_set circuit.lines gs ++ rest) (backward_rest circuit.lines gs ones c.args.room.now),
    )
