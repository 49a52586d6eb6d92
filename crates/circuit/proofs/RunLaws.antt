-- Laws of runs: a sound gate undoes itself, so a circuit is run back by its gates in reverse, and runs undo each other at every level.
use Prim.Native.Nat.{ℕ, zero, suc, ◌+◌, ◌-◌, ◌^◌, ◌≤◌, ◌<◌}
use mathlib.Core.Path.{◌≡◌, refl, sym, ap, ◌∙◌}
use mathlib.Core.List.{List, [], ◌∷◌, ◌++◌, reverse, reverse-cons, reverse-append}
use native.Mathlib.Nat.{min-le_left}
use native.Mathlib.Numerals.{add-one}
use native.Mathlib.Omega.{arith}
use lib.ListN.{get_or, length, take, drop, take-append-drop, drop_of_length-le, length-take}
use lib.Seq.{take-length, take-suc, drop-append-le, length-take-le}
use Rattle.basics.proofs.Tests.{by_test}
use Rattle.basics.proofs.All.{all_take}
use Rattle.words.specs.Word.{flip}
use Rattle.words.proofs.Lines.{flip-flip, flip-lt}
use Rattle.words.proofs.Masks.{all_on-flip}
use Rattle.circuit.specs.Gates.{no_gate, gate_at}
use Rattle.circuit.specs.Runs.{fires, step, run, forward, onward, backward}
use Rattle.circuit.proofs.ControlLaws.{no_control}
use Rattle.circuit.specs.Sound.{GateOk, AllOk}
use Rattle.circuit.specs.declared.Gate.{Gate}

-- whether a gate fires does not turn on its target
pub fires-flip : (n : ℕ) (g : Gate) → GateOk n g → (s : ℕ) → fires g (flip s g.target) ≡ fires g s
unfolding fires
fires-flip n g ok s = all_on-flip g.controls s g.target (no_control g g.target ok.apart)

pub step-step : (n : ℕ) (g : Gate) → GateOk n g → (s : ℕ) → step g (step g s) ≡ s
unfolding step
step-step n g ok s = by_test (fires g s) (λ e. rw (e, fires-flip n g ok s, e) (flip-flip s g.target)) (λ e. rw (e, e))

pub step-lt : (n : ℕ) (g : Gate) → GateOk n g → (s : ℕ) → s < 2 ^ n → step g s < 2 ^ n
unfolding step
step-lt n g ok s h = by_test (fires g s) (λ e. rw e (flip-lt n s g.target h ok.target_in)) (λ e. rw e h)

-- ---- runs

pub run-append : (gs hs : List Gate) (s : ℕ) → run (gs ++ hs) s ≡ run hs (run gs s)
unfolding run
run-append [] hs s = refl
run-append (g ∷ gs) hs s = run-append gs hs (step g s)

pub run-lt : (n : ℕ) (gs : List Gate) → AllOk n gs → (s : ℕ) → s < 2 ^ n → run gs s < 2 ^ n
unfolding run
run-lt n [] ok s h = h
run-lt n (g ∷ gs) ok s h = run-lt n gs ok.1 (step g s) (step-lt n g ok.0 s h)

-- the last gate of a reversed run is the first gate
run-reverse-cons : (g : Gate) (gs : List Gate) (s : ℕ) → run (reverse (g ∷ gs)) s ≡ step g (run (reverse gs) s)
unfolding run
run-reverse-cons g gs s = ap (λ hs. run hs s) (reverse-cons g gs) ∙ run-append (reverse gs) (g ∷ []) s

pub run-lt-reverse : (n : ℕ) (gs : List Gate) → AllOk n gs → (s : ℕ) → s < 2 ^ n → run (reverse gs) s < 2 ^ n
unfolding run
run-lt-reverse n [] ok s h = h
run-lt-reverse n (g ∷ gs) ok s h = rw (run-reverse-cons g gs s) (step-lt n g ok.0 (run (reverse gs) s) (run-lt-reverse n gs ok.1 s h))

pub run_back : (n : ℕ) (gs : List Gate) → AllOk n gs → (x : ℕ) → run (reverse gs) (run gs x) ≡ x
unfolding run
run_back n [] ok x = refl
run_back n (g ∷ gs) ok x = run-reverse-cons g gs (run gs (step g x)) ∙ ap (step g) (run_back n gs ok.1 (step g x)) ∙ step-step n g ok.0 x

pub run_forth : (n : ℕ) (gs : List Gate) → AllOk n gs → (s : ℕ) → run gs (run (reverse gs) s) ≡ s
unfolding run
run_forth n [] ok s = refl
run_forth n (g ∷ gs) ok s =
    ap (λ x. run gs (step g x)) (run-reverse-cons g gs s) ∙ ap (run gs) (step-step n g ok.0 (run (reverse gs) s)) ∙ run_forth n gs ok.1 s

-- different states give different outputs
pub run_injective : (n : ℕ) (gs : List Gate) → AllOk n gs → (x y : ℕ) → run gs x ≡ run gs y → x ≡ y
run_injective n gs ok x y e = sym (run_back n gs ok x) ∙ ap (run (reverse gs)) e ∙ run_back n gs ok y

-- ---- levels

pub forward-lt : (n : ℕ) (gs : List Gate) → AllOk n gs → (i x : ℕ) → x < 2 ^ n → forward gs i x < 2 ^ n
unfolding forward
forward-lt n gs ok i x h = run-lt n (take i gs) (all_take (GateOk n) i gs ok) x h

pub backward-lt : (n : ℕ) (gs : List Gate) → AllOk n gs → (i s : ℕ) → s < 2 ^ n → backward gs i s < 2 ^ n
unfolding backward
backward-lt n gs ok i s h = run-lt-reverse n (take i gs) (all_take (GateOk n) i gs ok) s h

pub backward-forward : (n : ℕ) (gs : List Gate) → AllOk n gs → (i x : ℕ) → backward gs i (forward gs i x) ≡ x
unfolding forward backward
backward-forward n gs ok i x = run_back n (take i gs) (all_take (GateOk n) i gs ok) x

pub forward-backward : (n : ℕ) (gs : List Gate) → AllOk n gs → (i s : ℕ) → forward gs i (backward gs i s) ≡ s
unfolding forward backward
forward-backward n gs ok i s = run_forth n (take i gs) (all_take (GateOk n) i gs ok) s

-- the output is what the rest of the circuit makes of level i
pub run_from_level : (gs : List Gate) (i x : ℕ) → run gs x ≡ run (drop i gs) (forward gs i x)
unfolding forward
run_from_level gs i x = ap (λ hs. run hs x) (sym (take-append-drop i gs)) ∙ run-append (take i gs) (drop i gs) x

-- one gate more: up to the next level, and back over the last gate
pub onward-more : (gs : List Gate) (i k s : ℕ) → i ≤ k → k < length gs → onward gs i (k + 1) s ≡ step (get_or gs k no_gate) (onward gs i k s)
unfolding onward run
onward-more gs i k s le h =
    ap (λ m. run (drop i (take m gs)) s) (add-one k)
    ∙ ap (λ hs. run (drop i hs) s) (take-suc gs k no_gate h)
    ∙ ap (λ hs. run hs s) (drop-append-le i (take k gs) (get_or gs k no_gate ∷ []) (omega (arith, length-take-le k gs (omega arith))))
    ∙ run-append (drop i (take k gs)) (get_or gs k no_gate ∷ []) s

pub onward_none : (gs : List Gate) (i s : ℕ) → onward gs i i s ≡ s
unfolding onward run
onward_none gs i s = let short : length (take i gs) ≤ i =
    rw (length-take i gs) (min-le_left i (length gs)) in rw (drop_of_length-le (take i gs) short)

-- from the input it is the run forward, and to the last level the rest of the circuit
pub onward-forward : (gs : List Gate) (k x : ℕ) → onward gs 0 k x ≡ forward gs k x
unfolding onward forward
onward-forward gs k x = refl

pub forward_none : (gs : List Gate) (x : ℕ) → forward gs 0 x ≡ x
unfolding forward run
forward_none gs x = refl

pub onward_rest : (gs : List Gate) (i s : ℕ) → onward gs i (length gs) s ≡ run (drop i gs) s
unfolding onward
onward_rest gs i s = ap (λ hs. run (drop i hs) s) (take-length gs)

forward-suc : (gs : List Gate) (i x : ℕ) → i < length gs → forward gs (suc i) x ≡ step (get_or gs i no_gate) (forward gs i x)
unfolding forward run
forward-suc gs i x h = ap (λ hs. run hs x) (take-suc gs i no_gate h) ∙ run-append (take i gs) (get_or gs i no_gate ∷ []) x

pub backward_less : (gs : List Gate) (i s : ℕ) → i < length gs → backward gs (i + 1) s ≡ backward gs i (step (get_or gs i no_gate) s)
unfolding backward run
backward_less gs i s h =
    ap (λ k. run (reverse (take k gs)) s) (add-one i)
    ∙ ap (λ hs. run (reverse hs) s) (take-suc gs i no_gate h)
    ∙ ap (λ hs. run hs s) (reverse-append (take i gs) (get_or gs i no_gate ∷ []))

pub backward_none : (gs : List Gate) (s : ℕ) → backward gs 0 s ≡ s
unfolding backward run
backward_none gs s = refl

pub suc-sub-one : (i : ℕ) → suc i - 1 ≡ i
suc-sub-one i = omega arith

-- gate p makes level p of level p - 1
pub level_step : (gs : List Gate) (p x : ℕ) → 1 ≤ p → p ≤ length gs → forward gs p x ≡ step (gate_at gs p) (forward gs (p - 1) x)
unfolding gate_at
level_step gs zero x lo hi = absurd (omega arith)
level_step gs (suc i) x lo hi = rw (suc-sub-one i) (forward-suc gs i x hi)

pub forward-all : (gs : List Gate) (x : ℕ) → forward gs (length gs) x ≡ run gs x
unfolding forward
forward-all gs x = ap (λ hs. run hs x) (take-length gs)
