-- What a vector and a fault that break no rule are.
use Prim.Native.Nat.{ℕ}
use mathlib.Core.Path.{◌≡◌}
use mathlib.Core.Bool.{true}
use mathlib.Core.List.{List, ◌++◌}
use Rattle.refusals.specs.Tables.{first_of}
use Rattle.refusals.specs.Answers.{fine}
use Rattle.refusals.proofs.Tables.{fine-parts}
use Rattle.circuit.specs.Gates.{gates_of}
use Rattle.circuit.specs.Rules.{circuit_rows, vector_rows}
use Rattle.circuit.proofs.RuleLaws.{VectorOk, vector_ok}
use Rattle.faults.specs.Rules.{is_fault, fault_rows}
use Rattle.faults.specs.declared.Fault.{Fault}
use Rattle.faults.proofs.RuleLaws.{fault_ok}
use Rattle.simulator.specs.Rules.{catch_rows}

pub record CatchOk (n : ℕ) (words : List ℕ) (x : ℕ) (f : Fault) : Type 0 where
  pub vector : VectorOk n words x
  pub fault : is_fault n (gates_of words) f ≡ true

pub catch_ok : (n : ℕ) (words : List ℕ) (x : ℕ) (f : Fault) → fine ≡ first_of (catch_rows n words x f) fine → CatchOk n words x f
unfolding catch_rows
catch_ok n words x f e =
    let w = fine-parts (circuit_rows n words ++ vector_rows n x) (fault_rows n words f) e in
    record { vector = vector_ok n words x w.0; fault = fault_ok n words f w.1 }
