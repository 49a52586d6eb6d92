-- `multiple_faults::checked::Multiple::caught_by` meets its contract: each turn forces the lines of the level reached in the faulty state alone, and
-- both states take the gate that reads it. Assumes nothing.
use Rattle.std.proofs.Common.{◌≡◌, drop}
use Rattle.circuit.specs.Gates.{gates_of}
use Rattle.circuit.specs.Runs.{forward}
use Rattle.faults.specs.Records.{faults_of}
use Rattle.simulator.specs.Faulty.{stuck_run}
use Rattle.multiple_faults.proofs.checked.Multiple.caught_by.Given as goal

abbrev pub invariant-loop-i : goal.invariant-loop-i
invariant-loop-i l = record {
  good_so_far : l.good ≡ forward (gates_of l.self.circuit.gates.now) l.i l.vector;
  faulty_from_here : stuck_run (faults_of l.self.entries.now) 0 (gates_of l.self.circuit.gates.now) l.vector
      ≡ stuck_run (faults_of l.self.entries.now) l.i (drop l.i (gates_of l.self.circuit.gates.now)) l.faulty;
}
