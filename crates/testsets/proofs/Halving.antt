-- Every stuck-at fault is caught by half of all vectors, so some vector catches half of any stuck-at faults, and the best one does.
use Rattle.std.specs.Prelude.{ℕ, zero, suc, ◌+◌, ◌-◌, ◌*◌, ◌^◌, ◌≤◌, ◌<◌, ◌≡◌, refl, Bool, not, List, [], ◌∷◌, length, eqb, ltb}
use Rattle.std.proofs.Common.{zero-le, sym, ap, ◌∙◌, le_refl, le_trans, mul-zero, le_of_lt}
use Rattle.std.proofs.Common.{add-one, arith, pow_pos, ltb-true, ltb-false, lt-ltb, le-ltb}
use Rattle.basics.specs.Choice.{choice, count}
use Rattle.basics.specs.Lists.{up_from, keep, All}
use Rattle.basics.proofs.Tests.{by_test, choice-true, choice-false}
use Rattle.basics.proofs.Lists.{all-up_from, up_from-all}
use Rattle.words.specs.Word.{bit, flip}
use Rattle.words.proofs.Bits.{bit_le}
use Rattle.words.proofs.Lines.{bit-flip-same}
use Rattle.circuit.specs.Sound.{AllOk}
use Rattle.circuit.specs.declared.Gate.{Gate}
use Rattle.simulator.specs.Faulty.{caught}
use Rattle.faults.specs.Stuck.{StuckOk}
use Rattle.faults.specs.declared.Fault.{Fault}
use Rattle.simulator.proofs.FaultyLaws.{stuck_caught}
use Rattle.judge.specs.Judging.{uncaught_of}
use Rattle.testsets.specs.Sets.{score, best_of, best}
use Rattle.testsets.proofs.TotalLaws.{total, total_cong, total_add, total_const, total_flip, total_forward, some_above}
use Rattle.testsets.proofs.SetLaws.{score-cons, score-uncaught}

-- ---- one fault

-- of a bit and its inverse one differs from v
one_of_two : (b v : ℕ) → b ≤ 1 → v ≤ 1 → count (not (eqb b v)) + count (not (eqb (1 - b) v)) ≡ 1
one_of_two zero zero hb hv = refl
one_of_two zero (suc zero) hb hv = refl
one_of_two zero (suc (suc v)) hb hv = absurd (omega arith)
one_of_two (suc zero) zero hb hv = refl
one_of_two (suc zero) (suc zero) hb hv = refl
one_of_two (suc zero) (suc (suc v)) hb hv = absurd (omega arith)
one_of_two (suc (suc b)) v hb hv = absurd (omega arith)

-- half of all words have line j other than v
half_differ : (n j v : ℕ) → j < n → v ≤ 1 → total n (λ s. count (not (eqb (bit s j) v))) * 2 ≡ 2 ^ n
half_differ n j v hj hv =
    let K : ℕ → ℕ = λ s. count (not (eqb (bit s j) v)) in
    let all : total n K + total n (λ s. K (flip s j)) ≡ 2 ^ n * 1 =
    sym (total_add n K (λ s. K (flip s j)))
    ∙ total_cong n (λ s. ap (λ b. K s + count (not (eqb b v))) (bit-flip-same s j) ∙ one_of_two (bit s j) v (bit_le s j) hv)
    ∙ total_const n 1 in
    omega (arith, total_flip n j hj K)

-- half of all vectors catch a stuck-at fault
pub half_catch : (n : ℕ) (gs : List Gate) → AllOk n gs → (f : Fault) → StuckOk n (length gs) f → total n (λ x. count (caught gs f x)) * 2 ≡ 2 ^ n
half_catch n gs ok f k =
    ap (λ t. t * 2)
    (total_cong n (λ x. ap count (stuck_caught n gs ok f k x))
    ∙ total_forward n gs ok f.place (λ s. count (not (eqb (bit s f.line) f.value))))
    ∙ half_differ n f.line f.value k.line_in k.value_in

-- ---- many faults

-- all vectors together score half of what there is
pub total_score : (n : ℕ) (gs : List Gate) → AllOk n gs → (fs : List Fault) → All (StuckOk n (length gs)) fs
    → total n (λ x. score gs fs x) * 2 ≡ 2 ^ n * length fs
unfolding score keep
total_score n gs ok [] w = ap (λ t. t * 2) (total_const n 0 ∙ mul-zero (2 ^ n)) ∙ sym (mul-zero (2 ^ n))
total_score n gs ok (f ∷ fs) w =
    let sum : total n (λ x. score gs (f ∷ fs) x) ≡ total n (λ x. count (caught gs f x)) + total n (λ x. score gs fs x) =
    total_cong n (score-cons gs f fs) ∙ total_add n (λ x. count (caught gs f x)) (λ x. score gs fs x) in
    omega (arith, half_catch n gs ok f w.0, total_score n gs ok fs w.1)

-- some vector catches half
pub some_half : (n : ℕ) (gs : List Gate) → AllOk n gs → (fs : List Fault) → All (StuckOk n (length gs)) fs
    → (x : ℕ) × (x < 2 ^ n) × (length fs ≤ 2 * score gs fs x)
some_half n gs ok fs w =
    let r = some_above n (λ x. score gs fs x + score gs fs x) (length fs)
    (omega (arith, total_add n (λ x. score gs fs x) (λ x. score gs fs x), total_score n gs ok fs w)) in
    (r.0, r.1, omega arith)

-- ---- the best vector

-- the better of two is as good as either
pick_best : (F : ℕ → ℕ) (b x : ℕ) → (F b ≤ F (choice (ltb (F b) (F x)) x b)) × (F x ≤ F (choice (ltb (F b) (F x)) x b))
pick_best F b x = by_test (ltb (F b) (F x))
    (λ e. rw e (le_of_lt (ltb-true (F b) (F x) e), le_refl (F x)))
    (λ e. rw e (le_refl (F b), ltb-false (F b) (F x) e))

pub best_of-best : (gs : List Gate) (fs : List Fault) (b : ℕ) (xs : List ℕ) → All (λ x. score gs fs x ≤ score gs fs (best_of gs fs b xs)) (b ∷ xs)
unfolding best_of
best_of-best gs fs b [] = (le_refl (score gs fs b), tt)
best_of-best gs fs b (x ∷ xs) =
    let m : ℕ = choice (ltb (score gs fs b) (score gs fs x)) x b in
    let two = pick_best (score gs fs) b x in
    let rest = best_of-best gs fs m xs in
    (le_trans two.0 rest.0, (le_trans two.1 rest.0, rest.1))

-- it is one of those that it is picked from
best_of-one : (P : ℕ → Type 0) (gs : List Gate) (fs : List Fault) (b : ℕ) (xs : List ℕ) → P b → All P xs → P (best_of gs fs b xs)
unfolding best_of
best_of-one P gs fs b [] h w = h
best_of-one P gs fs b (x ∷ xs) h w =
    let t : Bool = ltb (score gs fs b) (score gs fs x) in
    best_of-one P gs fs (choice t x b) xs (by_test t (λ e. rw e w.0) (λ e. rw e h)) w.1

pub best-lt : (n : ℕ) (gs : List Gate) (fs : List Fault) → best n gs fs < 2 ^ n
unfolding best
best-lt n gs fs = best_of-one (λ x. x < 2 ^ n) gs fs 0 (up_from 0 (2 ^ n)) (pow_pos n) (all-up_from (λ x. x < 2 ^ n) 0 (2 ^ n) (λ i l m. omega arith))

-- no vector scores higher
pub best_above : (n : ℕ) (gs : List Gate) (fs : List Fault) (x : ℕ) → x < 2 ^ n → score gs fs x ≤ score gs fs (best n gs fs)
unfolding best
best_above n gs fs x h =
    up_from-all (λ y. score gs fs y ≤ score gs fs (best_of gs fs 0 (up_from 0 (2 ^ n)))) 0 (2 ^ n)
    (best_of-best gs fs 0 (up_from 0 (2 ^ n))).1 x zero-le (omega arith)

-- it catches at least half
pub best_half : (n : ℕ) (gs : List Gate) → AllOk n gs → (fs : List Fault) → All (StuckOk n (length gs)) fs
    → length fs ≤ 2 * score gs fs (best n gs fs)
best_half n gs ok fs w = let r = some_half n gs ok fs w in omega (arith, best_above n gs fs r.0 r.1)

-- so at most half is left
pub half_uncaught : (n : ℕ) (gs : List Gate) → AllOk n gs → (fs : List Fault) → All (StuckOk n (length gs)) fs
    → 2 * length (uncaught_of gs (best n gs fs ∷ []) fs) ≤ length fs
half_uncaught n gs ok fs w = omega (arith, best_half n gs ok fs w, score-uncaught gs fs (best n gs fs))

-- ---- the best vector, found one after the other; b is the best of those before `next`

module _ (gs : List Gate) (fs : List Fault) where
  up_next : (next end : ℕ) → next < end → up_from next (end - next) ≡ next ∷ up_from (next + 1) (end - (next + 1))
  unfolding up_from
  up_next next end h =
      let k : end - next ≡ suc (end - (next + 1)) = omega arith in
      ap (up_from next) k ∙ ap (λ m. next ∷ up_from m (end - (next + 1))) (sym (add-one next))

  -- all zeros are the first
  pub best_begin : (n : ℕ) → best n gs fs ≡ best_of gs fs 0 (up_from 1 (2 ^ n - 1))
  unfolding best best_of
  best_begin n =
      let all : 2 ^ n ≡ 2 ^ n - 0 = omega arith in
      ap (λ k. best_of gs fs 0 (up_from 0 k)) all
      ∙ ap (best_of gs fs 0) (up_next 0 (2 ^ n) (pow_pos n))
      ∙ ap (λ b. best_of gs fs b (up_from 1 (2 ^ n - 1))) (choice-false (le-ltb (score gs fs 0) (score gs fs 0) (le_refl (score gs fs 0))) 0 0)

  -- a higher score is better, and an equal one is not
  pub best_higher : (b next end : ℕ) → next < end → score gs fs b < score gs fs next
      → best_of gs fs b (up_from next (end - next)) ≡ best_of gs fs next (up_from (next + 1) (end - (next + 1)))
  unfolding best_of
  best_higher b next end h l =
      ap (best_of gs fs b) (up_next next end h)
      ∙ ap (λ m. best_of gs fs m (up_from (next + 1) (end - (next + 1)))) (choice-true (lt-ltb (score gs fs b) (score gs fs next) l) next b)

  pub best_kept : (b next end : ℕ) → next < end → score gs fs next ≤ score gs fs b
      → best_of gs fs b (up_from next (end - next)) ≡ best_of gs fs b (up_from (next + 1) (end - (next + 1)))
  unfolding best_of
  best_kept b next end h l =
      ap (best_of gs fs b) (up_next next end h)
      ∙ ap (λ m. best_of gs fs m (up_from (next + 1) (end - (next + 1)))) (choice-false (le-ltb (score gs fs b) (score gs fs next) l) next b)

  pub best_end : (b next end : ℕ) → end ≤ next → best_of gs fs b (up_from next (end - next)) ≡ b
  unfolding best_of up_from
  best_end b next end h = let k : end - next ≡ 0 = omega arith in ap (λ m. best_of gs fs b (up_from next m)) k
