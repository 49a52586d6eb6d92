-- Sums over all words of n lines, and that no gate and no run of gates changes such a sum.
use Rattle.std.specs.Prelude.{ℕ, zero, suc, ◌+◌, ◌*◌, ◌^◌, ◌≤◌, ◌<◌, ◌≡◌, refl, List, [], ◌∷◌, take}
use Rattle.std.proofs.Common.{sym, ap, ap₂, ◌∙◌, add_comm, pow-suc, le_of_suc-le-suc}
use Rattle.std.proofs.Common.{not-suc-le-zero, one-mul, mul_assoc, two-mul, zero-lt-suc, arith, lit<}
use Rattle.std.proofs.Math.Path.{fun_ext}
use Rattle.std.proofs.Math.Logic.{by_cases}
use Rattle.std.proofs.Math.Decide.{dec_le}
use Rattle.basics.proofs.Tests.{by_test}
use Rattle.basics.proofs.All.{all_take}
use Rattle.words.specs.Word.{flip}
use Rattle.words.proofs.Lines.{flip-flip}
use Rattle.words.proofs.Halves.{flip_even, flip_odd, flip_upper, flip_upper_even}
use Rattle.circuit.specs.Runs.{fires, step, run, forward}
use Rattle.circuit.specs.Sound.{GateOk, AllOk}
use Rattle.circuit.specs.declared.Gate.{Gate}
use Rattle.circuit.proofs.RunLaws.{fires-flip}
use Rattle.circuit.proofs.StepLaws.{step_on, step_off}

-- the sum of F over the words below 2 ^ n: each word with line 0 off, and the same with line 0 on
unfoldable pub total : ℕ → (ℕ → ℕ) → ℕ
total zero F = F 0
total (suc n) F = total n (λ x. F (x * 2) + F (x * 2 + 1))

-- ---- laws of sums

pub total_cong : (n : ℕ) {F G : ℕ → ℕ} → ((x : ℕ) → F x ≡ G x) → total n F ≡ total n G
total_cong n h = ap (total n) (fun_ext h)

pub total_add : (n : ℕ) (F G : ℕ → ℕ) → total n (λ x. F x + G x) ≡ total n F + total n G
unfolding total
total_add zero F G = refl
total_add (suc n) F G =
    total_cong n {F = λ x. F (x * 2) + G (x * 2) + (F (x * 2 + 1) + G (x * 2 + 1))} {G =
    λ x. F (x * 2) + F (x * 2 + 1) + (G (x * 2) + G (x * 2 + 1))} (λ x. omega arith)
    ∙ total_add n (λ x. F (x * 2) + F (x * 2 + 1)) (λ x. G (x * 2) + G (x * 2 + 1))

pub pow_double : (n c : ℕ) → 2 ^ suc n * c ≡ 2 ^ n * (c + c)
pow_double n c = ap (λ p. p * c) (pow-suc 2 n) ∙ mul_assoc (2 ^ n) 2 c ∙ ap (λ y. 2 ^ n * y) (two-mul c)

pub total_const : (n c : ℕ) → total n (λ x. c) ≡ 2 ^ n * c
unfolding total
total_const zero c = sym (one-mul c)
total_const (suc n) c = total_const n (c + c) ∙ sym (pow_double n c)

-- some word has at least the average
pub some_above : (n : ℕ) (F : ℕ → ℕ) (c : ℕ) → 2 ^ n * c ≤ total n F → (x : ℕ) × (x < 2 ^ n) × (c ≤ F x)
unfolding total
some_above zero F c h = (0, zero-lt-suc 0, omega arith)
some_above (suc n) F c h =
    let p = some_above n (λ x. F (x * 2) + F (x * 2 + 1)) (c + c) (rw (pow_double n c) at h) in
    by_cases (dec_le c (F (p.0 * 2))) (λ l. (p.0 * 2, omega arith, l)) (λ l. (p.0 * 2 + 1, omega arith, omega arith))

-- ---- what goes through the words in another order does not change a sum

-- a line inverted
pub total_flip : (n t : ℕ) → t < n → (F : ℕ → ℕ) → total n (λ x. F (flip x t)) ≡ total n F
unfolding total
total_flip zero t h F = absurd (not-suc-le-zero h)
total_flip (suc n) zero h F = total_cong n (λ x. ap₂ (λ a b. F a + F b) (flip_even x) (flip_odd x) ∙ add_comm (F (x * 2 + 1)) (F (x * 2)))
total_flip (suc n) (suc t) h F =
    total_cong n (λ x. ap₂ (λ a b. F a + F b) (flip_upper_even x t) (flip_upper x 1 t (lit< tt)))
    ∙ total_flip n t (le_of_suc-le-suc h) (λ y. F (y * 2) + F (y * 2 + 1))

-- a gate keeps each word and its neighbour along the target, or swaps the two
step_pair : (n : ℕ) (g : Gate) → GateOk n g → (F : ℕ → ℕ) (x : ℕ)
    → F (step g x) + F (step g (flip x g.target)) ≡ F x + F (flip x g.target)
step_pair n g ok F x =
    let y : ℕ = flip x g.target in
    by_test (fires g x)
    (λ e. ap₂ (λ a b. F a + F b) (step_on g x e) (step_on g y (fires-flip n g ok x ∙ e) ∙ flip-flip x g.target) ∙ add_comm (F y) (F x))
    (λ e. ap₂ (λ a b. F a + F b) (step_off g x e) (step_off g y (fires-flip n g ok x ∙ e)))

-- a gate
pub total_step : (n : ℕ) (g : Gate) → GateOk n g → (F : ℕ → ℕ) → total n (λ x. F (step g x)) ≡ total n F
total_step n g ok F =
    let t : ℕ = g.target in
    let pairs : total n (λ x. F (step g x)) + total n (λ x. F (step g (flip x t))) ≡ total n F + total n (λ x. F (flip x t)) =
    sym (total_add n (λ x. F (step g x)) (λ x. F (step g (flip x t)))) ∙ total_cong n (step_pair n g ok F) ∙ total_add n F (λ x. F (flip x t)) in
    omega (arith, total_flip n t ok.target_in (λ x. F (step g x)), total_flip n t ok.target_in F)

-- a run of gates
pub total_run : (n : ℕ) (gs : List Gate) → AllOk n gs → (F : ℕ → ℕ) → total n (λ x. F (run gs x)) ≡ total n F
unfolding run
total_run n [] ok F = refl
total_run n (g ∷ gs) ok F = total_step n g ok.0 (λ s. F (run gs s)) ∙ total_run n gs ok.1 F

-- the run to a level
pub total_forward : (n : ℕ) (gs : List Gate) → AllOk n gs → (i : ℕ) (F : ℕ → ℕ) → total n (λ x. F (forward gs i x)) ≡ total n F
unfolding forward
total_forward n gs ok i F = total_run n (take i gs) (all_take (GateOk n) i gs ok) F
