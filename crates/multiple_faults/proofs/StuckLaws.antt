-- Laws of runs with several stuck lines, a turn at a time: an entry of a level, and a level of the run.
use Rattle.std.proofs.Common.{ℕ, ◌+◌, ◌≤◌, ◌<◌, ◌≡◌, ap, sym, ◌∙◌, arith, eqb, List, length, get_or, drop, drop-cons, add-one}
use Rattle.std.proofs.Math.ListN.{drop_of_length-le}
use Rattle.basics.specs.Choice.{choice}
use Rattle.words.specs.Word.{force}
use Rattle.circuit.specs.Gates.{no_gate}
use Rattle.circuit.specs.Runs.{step, forward}
use Rattle.circuit.specs.declared.Gate.{Gate}
use Rattle.circuit.proofs.RunLaws.{onward-more, onward-forward}
use Rattle.simulator.specs.Faulty.{force_at, stuck_run}
use Rattle.faults.specs.Records.{no_fault}
use Rattle.faults.specs.declared.Fault.{Fault}

-- one entry more, and the last
pub force_more : (fs : List Fault) (i level s : ℕ) → i < length fs
    → force_at (drop i fs) level s
    ≡ force_at (drop (i + 1) fs) level
    (choice (eqb (get_or fs i no_fault).place level) (force s (get_or fs i no_fault).line (get_or fs i no_fault).value) s)
unfolding force_at
force_more fs i level s h = rw (add-one i, drop-cons fs i no_fault h)

pub force_end : (fs : List Fault) (i level s : ℕ) → length fs ≤ i → force_at (drop i fs) level s ≡ s
unfolding force_at
force_end fs i level s h = rw (drop_of_length-le fs h)

-- one level more, and the last
pub stuck_more : (fs : List Fault) (gs : List Gate) (i s : ℕ) → i < length gs
    → stuck_run fs i (drop i gs) s ≡ stuck_run fs (i + 1) (drop (i + 1) gs) (step (get_or gs i no_gate) (force_at fs i s))
unfolding stuck_run
stuck_more fs gs i s h = rw (add-one i, drop-cons gs i no_gate h)

pub stuck_end : (fs : List Fault) (gs : List Gate) (i s : ℕ) → length gs ≤ i → stuck_run fs i (drop i gs) s ≡ force_at fs i s
unfolding stuck_run
stuck_end fs gs i s h = rw (drop_of_length-le gs h)

-- the good run beside it, one level more
pub good_more : (gs : List Gate) (i x s : ℕ) → i < length gs → s ≡ forward gs i x → step (get_or gs i no_gate) s ≡ forward gs (i + 1) x
good_more gs i x s h here =
    ap (step (get_or gs i no_gate)) (here ∙ sym (onward-forward gs i x)) ∙ sym (onward-more gs 0 i x (omega arith) h) ∙ onward-forward gs (i + 1) x
