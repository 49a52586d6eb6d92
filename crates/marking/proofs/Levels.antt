-- A vector on its way up the levels, as loops take it: one gate after the other.
use Rattle.std.specs.Prelude.{ℕ, ◌+◌, ◌-◌, ◌<◌, ◌≡◌, List, length}
use Rattle.std.proofs.Common.{sym, arith}
use Rattle.circuit.specs.Gates.{gate_at}
use Rattle.circuit.specs.Runs.{step, forward}
use Rattle.circuit.specs.declared.Gate.{Gate}
use Rattle.circuit.proofs.RunLaws.{level_step}

-- from level i, with state s, by the gate that reads it
pub level_next : (gs : List Gate) (x s i k : ℕ) (g : Gate) → s ≡ forward gs i x → i < length gs → g ≡ gate_at gs k → k ≡ i + 1
    → step g s ≡ forward gs (i + 1) x
level_next gs x s i k g here more is number =
    let before : i + 1 - 1 ≡ i = omega arith in
    rw (is, number, here) (sym (simp before at (level_step gs (i + 1) x (omega arith) (omega arith))))
