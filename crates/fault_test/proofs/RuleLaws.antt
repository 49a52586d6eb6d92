-- What a fault is that breaks no rule of the call.
use Rattle.std.proofs.Common.{ℕ, ◌≡◌, true, List}
use Rattle.refusals.specs.Tables.{first_of}
use Rattle.refusals.specs.Answers.{fine}
use Rattle.refusals.proofs.Tables.{fine-parts}
use Rattle.circuit.specs.Gates.{gates_of}
use Rattle.circuit.specs.Rules.{circuit_rows}
use Rattle.circuit.specs.Sound.{Sound}
use Rattle.circuit.proofs.RuleLaws.{sound}
use Rattle.faults.specs.Rules.{is_fault, fault_rows}
use Rattle.faults.specs.declared.Fault.{Fault}
use Rattle.faults.proofs.RuleLaws.{fault_ok}
use Rattle.fault_test.specs.Rules.{test_rows}

pub record TestOk (n : ℕ) (words : List ℕ) (f : Fault) : Type 0 where
  pub circuit : Sound n words
  pub fault : is_fault n (gates_of words) f ≡ true

pub test_ok : (n : ℕ) (words : List ℕ) (f : Fault) → fine ≡ first_of (test_rows n words f) fine → TestOk n words f
unfolding test_rows
test_ok n words f e =
    let w = fine-parts (circuit_rows n words) (fault_rows n words f) e in
    record { circuit = sound n words w.0; fault = fault_ok n words f w.1 }
