-- `testsets::compact::make` meets its contract: each turn stores the next vector of the set and drops what it catches, at least half of what is left.
-- Assumes nothing.
use Rattle.std.proofs.Common.{sym, arith, ap, ◌∙◌, ◌*◌}
use Rattle.circuit.specs.Checked.{gates_in}
use Rattle.faults.specs.Sites.{site_count}
use Rattle.faults.specs.Classes.{stuck_faults}
use Rattle.faults.proofs.SiteCount.{site_count-le}
use Rattle.testsets.proofs.PickTurns.{picking_begin, picking_catches, picking_turn, picking_end, picking_done}
use Rattle.testsets.proofs.PickTurns.{picking_fits}
use Rattle.testsets.proofs.compact.make.Goals as goal

pub overflow_mul-remain : goal.overflow_mul-remain
overflow_mul-remain c =
    let circuit = c.args.circuit.now in
    omega (arith, c.site_count-remain.ensures, site_count-le circuit.lines circuit.gates.now circuit.sound)

pub loop-remain-init : goal.loop-remain-init
loop-remain-init c =
    let same = c.fill.ensures.0 ∙ c.none-left.ensures.circuit in
    let all = c.fill.ensures.1 ∙ ap (λ circuit. stuck_faults circuit.lines (gates_in circuit)) (sym c.fill.ensures.0) in
    let twice = ap (λ sites. 2 * sites) (c.site_count-remain.ensures ∙ ap (λ circuit. site_count circuit.lines (gates_in circuit)) (sym same)) in
    (same, picking_begin _ _ _ _ _ all twice)

pub overflow_sub-remain : goal.overflow_sub-remain
overflow_sub-remain c =
    let now = c.loop-remain.invariant.1 in
    let pick = c.best-pick.ensures in
    (picking_catches c.loop-remain.left.circuit.sound.gates_ok now c.loop-remain-test.true _ _ pick.0 pick.1).1

pub loop-remain-smaller : goal.loop-remain-smaller
loop-remain-smaller c =
    let now = c.loop-remain.invariant.1 in
    let pick = c.best-pick.ensures in
    let some = picking_catches c.loop-remain.left.circuit.sound.gates_ok now c.loop-remain-test.true _ _ pick.0 pick.1 in
    omega arith

pub loop-remain-preserved : goal.loop-remain-preserved
loop-remain-preserved c =
    let (same, now) = c.loop-remain.invariant in
    let pick = c.best-pick.ensures in
    let (kept, drops) = c.drop_caught.ensures in
    let ok = c.loop-remain.left.circuit.sound.gates_ok in
    let turn = picking_turn ok now c.loop-remain-test.true _ _ _ pick.0 pick.1 drops (rw same c.requires.room_fits) in
    (kept ∙ same, rw kept (rw kept at turn))

pub overflow_cast-result : goal.overflow_cast-result
overflow_cast-result c = let few = picking_fits c.loop-remain.left.circuit.sound c.loop-remain.invariant.1 in omega arith

pub returns : goal.returns
returns c =
    let ok = c.args.circuit.now.sound.gates_ok in
    let (same, now) = c.loop-remain.invariant in
    let done = rw same at now in
    (picking_end ok done (omega arith), picking_done ok done (omega arith))
