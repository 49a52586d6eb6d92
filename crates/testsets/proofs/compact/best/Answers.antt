-- `testsets::compact::best` meets its contract: each turn asks one input more, and takes it only where it catches more than the best before.
-- Assumes nothing.
use Rattle.std.proofs.Common.{arith, sym, ◌∙◌, ◌^◌, ◌<◌, ◌≤◌}
use Rattle.words.proofs.Coded.{one_shl}
use Rattle.circuit.specs.Checked.{gates_in}
use Rattle.testsets.specs.FaultsLeft.{faults_left}
use Rattle.testsets.proofs.Halving.{best_begin, best_higher, best_kept, best_end}
use Rattle.testsets.proofs.compact.best.Goals as goal
use Rattle.testsets.proofs.compact.best.Goals.{then-pick-caught, else-pick-caught}

pub loop-vector-init : goal.loop-vector-init
loop-vector-init c =
    let left = c.args.left.now in
    (c.score.ensures, best_begin (gates_in left.circuit) (faults_left left) left.circuit.lines)

pub loop-vector-preserved : goal.loop-vector-preserved
loop-vector-preserved c =
    let left = c.args.left.now in
    let gs = gates_in left.circuit in
    let fs = faults_left left in
    let next = c.loop-vector.vector in
    let end = 2 ^ left.circuit.lines in
    let asked = c.score-caught.ensures in
    let (caught-before, best-before) = c.loop-vector.invariant in
    let less : next < end = omega (arith, one_shl left.circuit.lines (omega arith)) in
    let better = best_higher gs fs c.loop-vector.pick.vector next end less in
    let as-good = best_kept gs fs c.loop-vector.pick.vector next end less in
    elim c.if-pick-caught.branch [
      | then-pick-caught w ↦ rw w.pick-is (asked, best-before ∙ better (rw (← caught-before, ← asked) w.if-pick-caught.true))
      | else-pick-caught w ↦ rw w.pick-is (caught-before, best-before ∙ as-good (rw (← caught-before, ← asked) w.if-pick-caught.false))
    ]

pub returns : goal.returns
returns c =
    let left = c.args.left.now in
    let end = 2 ^ left.circuit.lines in
    let (caught-is, best-is) = c.loop-vector.invariant in
    let all : end ≤ c.loop-vector.vector = omega (arith, one_shl left.circuit.lines (omega arith)) in
    (sym (best-is ∙ best_end (gates_in left.circuit) (faults_left left) c.loop-vector.pick.vector c.loop-vector.vector end all), caught-is)
