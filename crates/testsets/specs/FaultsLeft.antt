-- The list of the stuck-at faults that are still left.
use Rattle.std.specs.Prelude.{List}
use Rattle.circuit.specs.Checked.{gates_in}
use Rattle.faults.specs.declared.Fault.{Fault}
use Rattle.testsets.specs.Left.{left_of}
use Rattle.testsets.specs.declared.left.Left.{Left}

abbrev pub faults_left : Left → List Fault
faults_left left = left_of left.circuit.lines (gates_in left.circuit) left.at_0 left.at_1
