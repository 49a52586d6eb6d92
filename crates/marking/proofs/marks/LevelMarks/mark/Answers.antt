-- `marking::marks::LevelMarks::mark` meets its contract: each turn marks one level and goes on to the next, and the last level is marked after
-- the loop. Assumes nothing.
use Rattle.std.proofs.Common.{arith}
use Rattle.circuit.proofs.RuleLaws.{target_fits}
use Rattle.marking.proofs.TurnLaws.{levels_start, levels-turn, levels-done}
use Rattle.marking.proofs.marks.LevelMarks.mark.Goals as goal

pub loop-i-init : goal.loop-i-init
loop-i-init c =
    let circuit = c.args.circuit.now in
    levels_start circuit.lines circuit.gates.now c.args.vector c.args.self.now

pub step-state-requires : goal.step-state-requires
step-state-requires c =
    let circuit = c.args.circuit.now in
    rw c.gate.ensures (target_fits circuit.lines circuit.gates.now _ circuit.sound (omega arith) (omega arith))

pub loop-i-preserved : goal.loop-i-preserved
loop-i-preserved c =
    let circuit = c.args.circuit.now in
    levels-turn circuit.lines circuit.gates.now circuit.sound c.args.vector c.args.self.now c.loop-i.self c.mark_level.new.self c.loop-i.state
    c.loop-i.i c.loop-i.invariant (omega arith) _ c.level-level.ensures c.mark_level.ensures.0 c.mark_level.ensures.1 _ _ _ (omega arith)
    c.step-state.ensures c.gate.ensures (omega arith)

pub returns : goal.returns
returns c =
    let circuit = c.args.circuit.now in
    levels-done circuit.lines circuit.gates.now circuit.sound c.args.vector c.args.self.now c.loop-i.self c.mark_level-2.new.self c.loop-i.state
    c.loop-i.i c.loop-i.invariant (omega arith) c.level.result.0 (omega arith) c.mark_level-2.ensures.0 c.mark_level-2.ensures.1 (omega arith)
