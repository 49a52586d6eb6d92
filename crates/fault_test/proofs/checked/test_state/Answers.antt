-- `fault_test::checked::test_state` meets its contract: the line of a fault is a line of its circuit. Assumes nothing.
use Rattle.std.proofs.Common.{arith}
use Rattle.faults.proofs.ClassLaws.{names-line}
use Rattle.fault_test.proofs.checked.test_state.Goals as goal

pub force-requires : goal.force-requires
force-requires c =
    let known = c.args.known.now in
    let fits = known.circuit.sound.lines_fit in
    omega (arith, names-line known.circuit.lines known.circuit.gates.now known.fault known.circuit.sound known.known)
