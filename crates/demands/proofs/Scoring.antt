-- What the score of a vector is, by which the compact set picks: the number of the stuck-at faults still left that it catches.
-- It is counted by one walk through the circuit with one running state, level by level.
use Prim.Native.Nat.{ℕ, zero, suc, ◌+◌, ◌-◌, ◌*◌, ◌≤◌, ◌<◌}
use mathlib.Core.Path.{◌≡◌, refl, sym, ap, ap₂, ◌∙◌, subst}
use mathlib.Core.Bool.{false, not}
use mathlib.Core.List.{List, [], ◌∷◌}
use native.Mathlib.Omega.{arith}
use lib.Bits.{bit_and, bit_or}
use lib.ListN.{length, get_or}
use lib.Dec.{eqb}
use borrow.Author.Tests.{eq-eqb, eqb-true}
use Rattle.basics.specs.Choice.{choice}
use Rattle.basics.specs.Lists.{keep, All}
use Rattle.basics.specs.Sums.{sum_from}
use Rattle.basics.proofs.All.{all_map}
use Rattle.basics.proofs.Lists.{all_keep}
use Rattle.basics.proofs.SumLaws.{sum-cong}
use Rattle.words.specs.Word.{bit, lines_on}
use Rattle.words.specs.Inverse.{inverse}
use Rattle.words.proofs.Bits.{by_bit, bit-and}
use Rattle.words.proofs.Inverse.{not_off, not_on, bit-inverse}
use Rattle.words.proofs.OrLaws.{bit-or}
use Rattle.circuit.specs.Gates.{gates_of}
use Rattle.circuit.specs.Runs.{step, run, forward}
use Rattle.circuit.specs.Sound.{Sound}
use Rattle.circuit.specs.declared.Gate.{Gate}
use Rattle.faults.specs.Classes.{stuck_faults}
use Rattle.faults.specs.declared.Fault.{Fault}
use Rattle.faults.proofs.ClassLists.{list_one}
use Rattle.simulator.specs.Faulty.{caught}
use Rattle.marking.specs.Marks.{is_on, level_marked}
use Rattle.testsets.specs.Left.{left_of, Within}
use Rattle.testsets.specs.Sets.{score}
use Rattle.testsets.proofs.LeftLaws.{newly_caught, score-all}
use Rattle.testsets.proofs.ScoreCall as score-call
use Rattle.demands.proofs.Machine.{Makes, Circuit, Caught, Missed, ones_from, Has}
use Rattle.demands.proofs.MachineLaws.{makes_step, circuit-is}
use Rattle.demands.proofs.SiteTotals.{ones_are}
use Rattle.demands.proofs.HasLaws.{has_value}
use Rattle.demands.proofs.FaultLists.{Class, Kept}
use Rattle.demands.proofs.ClassLaws.{class_is}
use Rattle.demands.proofs.VerdictLaws.{Decides, kept_keep, decides_caught}
use Rattle.demands.proofs.Answering.{Ended}

-- ---- the walk; what is left stands in words, one for each level: in at0 a one for each line whose stuck-at-0 fault is left, in at1 for stuck-at-1

-- of k lines from line a on, those newly caught where the state is s: stuck at 0 is left (a one in w0) and the line is 1, or stuck at 1 is left
-- (a one in w1) and it is 0
abbrev pub newly_from : ℕ → ℕ → ℕ → ℕ → ℕ → ℕ
newly_from w0 w1 s a zero = 0
newly_from w0 w1 s a (suc k) = (bit s a * bit w0 a + (1 - bit s a) * bit w1 a) + newly_from w0 w1 s (suc a) k

-- of all n lines, at level i
abbrev pub newly_at : ℕ → List ℕ → List ℕ → ℕ → ℕ → ℕ
newly_at n at0 at1 i s = newly_from (get_or at0 i 0) (get_or at1 i 0) s 0 n

-- from level i on, which the walk reaches with state s, count is what is newly caught: at this level, and by the walk from the state that the gate
-- makes of s; of no other level is anything known
abbrev pub Walk : ℕ → List ℕ → List ℕ → ℕ → List Gate → ℕ → ℕ → Type 0
Walk n at0 at1 i [] s count = count ≡ newly_at n at0 at1 i s
Walk n at0 at1 i (g ∷ gs) s count = (t : ℕ) × (rest : ℕ) × Makes g s t × Walk n at0 at1 (suc i) gs t rest × (count ≡ newly_at n at0 at1 i s + rest)

-- ---- the score

-- the words of what is left stuck at v
abbrev pub stuck_at : List ℕ → List ℕ → ℕ → List ℕ
stuck_at at0 at1 zero = at0
stuck_at at0 at1 (suc v) = at1

-- the bit of a fault is b: 1 where it is left, and 0 where it is not
abbrev pub LeftBit : List ℕ → List ℕ → ℕ → Fault → Type 0
LeftBit at0 at1 b f = bit (get_or (stuck_at at0 at1 f.value) f.place 0) f.line ≡ b

-- a vector's score: what its walk counts, and the number that it catches of the stuck-at faults that are left
pub record Scores (n : ℕ) (words at0 at1 : List ℕ) (x count : ℕ) : Type 0 where
  pub gs : List Gate
  pub circuit : Circuit n words gs
  pub walk : Walk n at0 at1 0 gs x count
  pub faults : List Fault
  pub stuck_at : Class n gs 1 faults
  pub left : List Fault
  pub left-are : Kept (LeftBit at0 at1 1) (LeftBit at0 at1 0) faults left
  pub caught : List Fault
  pub caught-are : Kept (λ f. Caught gs f x) (λ f. Missed gs f x) left caught
  pub count-is : count ≡ length caught

-- ---- one level: the lines of a word, as the contract counts them, and the bits

module _ (n w0 w1 s : ℕ) where
  abbrev both : ℕ
  both = bit_or (bit_and s w0) (bit_and (inverse n s) w1)

  bit_both : (j : ℕ) → j < n → bit both j ≡ bit s j * bit w0 j + (1 - bit s j) * bit w1 j
  bit_both j h =
      bit-or (bit_and s w0) (bit_and (inverse n s) w1) j
      ∙ ap₂ bit_or (bit-and s w0 j) (bit-and (inverse n s) w1 j ∙ ap (λ v. bit_and v (bit w1 j)) (bit-inverse n s j h))
      ∙ by_bit s j
      (λ p. by_bit w0 j (λ q. by_bit w1 j (λ r. rw (p, q, r)) (λ r. rw (p, q, r))) (λ q. by_bit w1 j (λ r. rw (p, q, r)) (λ r. rw (p, q, r))))
      (λ p. by_bit w0 j (λ q. by_bit w1 j (λ r. rw (p, q, r)) (λ r. rw (p, q, r))) (λ q. by_bit w1 j (λ r. rw (p, q, r)) (λ r. rw (p, q, r))))

  newly_are : (a k : ℕ) → a + k ≤ n → ones_from both a k ≡ newly_from w0 w1 s a k
  newly_are a zero h = refl
  newly_are a (suc k) h = ap₂ ◌+◌ (bit_both a (omega arith)) (newly_are (suc a) k (omega arith))

-- ---- all levels: a sum, as the contract counts, and the walk

module _ (n : ℕ) (at0 at1 : List ℕ) where
  -- level i is reached with s itself
  here : (gs : List Gate) (i s : ℕ) → newly_at n at0 at1 i (forward gs (i - i) s) ≡ newly_at n at0 at1 i s
  unfolding forward run
  here gs i s = let none : i - i ≡ 0 = omega arith in ap (λ m. newly_at n at0 at1 i (forward gs m s)) none

  walk_is : (gs : List Gate) (i s : ℕ) → Walk n at0 at1 i gs s (sum_from (λ k. newly_at n at0 at1 k (forward gs (k - i) s)) i (suc (length gs)))
  unfolding sum_from forward run
  walk_is [] i s = omega (arith, here [] i s)
  walk_is (g ∷ gs) i s =
      let f : ℕ → ℕ = λ k. newly_at n at0 at1 k (forward gs (k - suc i) (step g s)) in
      let next : sum_from (λ k. newly_at n at0 at1 k (forward (g ∷ gs) (k - i) s)) (suc i) (suc (length gs)) ≡ sum_from f (suc i) (suc (length gs)) =
      sum-cong _ f (suc i) (suc (length gs)) (λ k lo hi.
      let less : k - i ≡ suc (k - suc i) = omega arith in ap (λ m. newly_at n at0 at1 k (forward (g ∷ gs) m s)) less) in
      (step g s, sum_from f (suc i) (suc (length gs)), makes_step g s, walk_is gs (suc i) (step g s), omega (arith, here (g ∷ gs) i s, next))

-- ---- which faults are left, as the contract tells it and by their bits

on_by_value : (at0 at1 : List ℕ) (v i j : ℕ) → v ≤ 1
    → choice (eqb v 0) (is_on at0 i j) (choice (eqb v 1) (is_on at1 i j) false) ≡ is_on (stuck_at at0 at1 v) i j
on_by_value at0 at1 zero i j h = refl
on_by_value at0 at1 (suc zero) i j h = refl
on_by_value at0 at1 (suc (suc v)) i j h = absurd (omega arith)

decides_left : (at0 at1 : List ℕ) (f : Fault) → f.value ≤ 1 → Decides (level_marked at0 at1) (LeftBit at0 at1 1) (LeftBit at0 at1 0) f
decides_left at0 at1 f h =
    let w : ℕ = get_or (stuck_at at0 at1 f.value) f.place 0 in
    let j : ℕ = f.line in
    let e : level_marked at0 at1 f ≡ eqb (bit w j) 1 = on_by_value at0 at1 f.value f.place j h in
    record {
      passes = (λ t. eqb-true (bit w j) 1 (sym e ∙ t), λ o. e ∙ eq-eqb (bit w j) 1 o);
      fails = (
        λ t. eqb-true (bit w j) 0 (sym (not_on w j) ∙ ap not (sym e ∙ t)),
        λ z. e ∙ sym (not_off w j) ∙ ap not (eq-eqb (bit w j) 0 z),
      );
    }

-- ---- the promised score is so

module _ (n : ℕ) (words at0 at1 : List ℕ) (x : ℕ) (sound : Sound n words) (on : Within n (gates_of words) at0 at1) where
  abbrev its : List Gate
  its = gates_of words

  score_walked : score its (left_of n its at0 at1) x ≡ sum_from (λ k. newly_at n at0 at1 k (forward its (k - 0) x)) 0 (suc (length its))
  unfolding lines_on
  score_walked =
      let all : suc (length its) - 0 ≡ suc (length its) = omega arith in
      score-all n its sound.gates_ok at0 at1 on x
      ∙ ap (sum_from (λ k. length (lines_on n (newly_caught n its at0 at1 x k))) 0) all
      ∙ sum-cong _ _ 0 (suc (length its)) (λ k lo hi.
      let same : k ≡ k - 0 = omega arith in
      sym (ones_are (newly_caught n its at0 at1 x k) 0 n) ∙ newly_are n (get_or at0 k 0) (get_or at1 k 0) (forward its k x) 0 n (omega arith)
      ∙ ap (λ m. newly_at n at0 at1 k (forward its m x)) same)

  scores : (count : ℕ) → count ≡ score its (left_of n its at0 at1) x → Scores n words at0 at1 x count
  unfolding score left_of
  scores count promised =
      let stuck = subst (Class n its 1) (list_one n its 1 refl) (class_is n its sound.gates_ok 1) in
      let has : All (Has n its) (left_of n its at0 at1) =
      all_map (λ f h. h.1) (left_of n its at0 at1) (all_keep _ (level_marked at0 at1) (stuck_faults n its) stuck.each-is) in
      record {
        gs = its;
        circuit = circuit-is n words sound;
        walk = subst (Walk n at0 at1 0 its x) (sym (promised ∙ score_walked)) (walk_is n at0 at1 its 0 x);
        faults = stuck_faults n its;
        stuck_at = stuck;
        left = left_of n its at0 at1;
        left-are = kept_keep _ _ _ (stuck_faults n its)
            (all_map (λ f h. decides_left at0 at1 f (has_value n its f h.1 h.0)) (stuck_faults n its) stuck.each-is);
        caught = keep (λ f. caught its f x) (left_of n its at0 at1);
        caught-are = kept_keep _ _ _ (left_of n its at0 at1) (all_map (decides_caught n its x) (left_of n its at0 at1) has);
        count-is = promised;
      }

-- ---- over the contract of `testsets::left::Left::score`; the words of what is left are of a sound circuit, within its sites, by their type

pub score_walks : (call : Ended score-call.Post) → score-call.Pre call.lifetimes call.inputs
    → let (left, (vector, _)) = call.inputs in
    let circuit = left.now.circuit in
    Scores circuit.lines circuit.gates.now left.now.at_0 left.now.at_1 vector call.result
score_walks call asked =
    let (left, (vector, _)) = call.inputs in
    scores _ _ _ _ _ left.now.circuit.sound left.now.within call.result call.promised
