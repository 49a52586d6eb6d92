-- `testsets::left::Left::score` meets its contract: each turn adds what the vector catches at one level and goes one level up, and the last level
-- comes after the loop. Assumes nothing.
use Rattle.std.proofs.Common.{arith, sym, ◌∙◌, ◌≤◌}
use Rattle.words.proofs.AndLaws.{length_lines_le}
use Rattle.circuit.specs.Checked.{gates_in}
use Rattle.circuit.specs.Limits.{most_lines}
use Rattle.circuit.proofs.RuleLaws.{target_fits}
use Rattle.circuit.proofs.RunLaws.{forward_none}
use Rattle.marking.proofs.Levels.{level_next}
use Rattle.testsets.proofs.LeftLaws.{score-all, score-more, score_last}
use Rattle.testsets.proofs.left.Left.score.Goals as goal

pub loop-i-init : goal.loop-i-init
loop-i-init c =
    let left = c.args.self.now in
    let gs = gates_in left.circuit in
    let all = score-all left.circuit.lines gs left.circuit.sound.gates_ok left.at_0 left.at_1 left.within c.args.vector in
    (sym (forward_none gs c.args.vector), omega arith, omega (arith, all))

pub overflow_add-sum : goal.overflow_add-sum
overflow_add-sum c =
    let few : c.newly-sum.result ≤ most_lines = rw c.newly-sum.ensures (length_lines_le most_lines _) in
    omega arith

pub step-state-requires : goal.step-state-requires
step-state-requires c =
    let circuit = c.args.self.now.circuit in
    rw c.gate.ensures (target_fits circuit.lines circuit.gates.now _ circuit.sound (omega arith) (omega arith))

pub loop-i-preserved : goal.loop-i-preserved
loop-i-preserved c =
    let left = c.args.self.now in
    let circuit = left.circuit in
    let gs = gates_in circuit in
    let (here, small, count) = c.loop-i.invariant in
    let few : c.newly-sum.result ≤ most_lines = rw c.newly-sum.ensures (length_lines_le most_lines _) in
    let more = score-more circuit.lines gs circuit.sound.gates_ok left.at_0 left.at_1 c.args.vector c.loop-i.i
    c.level-level.result.0 c.loop-i.state _ circuit.sound.lines_fit c.requires (omega arith) c.level-level.ensures c.all_ones-ones.ensures here in (
      c.step-state.ensures ∙ level_next gs c.args.vector c.loop-i.state c.loop-i.i _ _ here (omega arith) c.gate.ensures (omega arith),
      omega arith,
      omega (arith, more, count, c.newly-sum.ensures),
    )

pub overflow_add-result : goal.overflow_add-result
overflow_add-result c =
    let few : c.newly.result ≤ most_lines = rw c.newly.ensures (length_lines_le most_lines _) in
    omega arith

pub returns : goal.returns
returns c =
    let left = c.args.self.now in
    let circuit = left.circuit in
    let (here, small, count) = c.loop-i.invariant in
    let last = score_last circuit.lines (gates_in circuit) circuit.sound.gates_ok left.at_0 left.at_1 c.args.vector c.loop-i.i
    c.level.result.0 c.loop-i.state _ circuit.sound.lines_fit c.requires (omega arith) (omega arith) c.all_ones-ones.ensures here (omega arith) in
    omega (arith, last, count, c.newly.ensures)
