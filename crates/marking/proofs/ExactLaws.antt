-- What marks mean: a mark that a vector adds stands for a fault that the circuit has and the vector catches, and for nothing else.
use Rattle.std.specs.Prelude.{ℕ, zero, suc, ◌-◌, ◌≤◌, ◌<◌, ◌≡◌, refl, ◌≢◌, Bool, true, false, ◌&&◌, ◌||◌}
use Rattle.std.specs.Prelude.{List, [], ◌∷◌, length, get_or, replicate, leb, eqb}
use Rattle.std.proofs.Common.{sym, ap, ◌∙◌, arith, ne_eqb, eq-eqb, le-leb}
use Rattle.std.proofs.lemmas.Bool.{false≢true, lt-leb}
use mathlib.Core.Logic.{by_cases}
use mathlib.Core.Bool.{or-false, or_assoc, and-false, and-or_distrib_left}
use native.Mathlib.Decide.{dec_le}
use Rattle.basics.specs.Lists.{some}
use Rattle.basics.proofs.Tests.{by_test, by_equal, and-true, and_both}
use Rattle.words.specs.Word.{bit}
use Rattle.words.proofs.Bits.{bit_of_zero, bit_above}
use Rattle.words.proofs.OrLaws.{on_or}
use Rattle.words.proofs.WordOfLaws.{on_word_of, word_of-lt}
use Rattle.circuit.specs.Gates.{gates_of}
use Rattle.circuit.specs.Sound.{Sound}
use Rattle.faults.specs.Classes.{fault_of}
use Rattle.faults.specs.Rules.{is_fault}
use Rattle.faults.specs.declared.Fault.{Fault}
use Rattle.faults.proofs.ClassLists.{same-fault}
use Rattle.faults.proofs.ClassLaws.{stuck_fault, names-gate, no_value, names-line}
use Rattle.simulator.specs.Faulty.{caught}
use Rattle.marking.specs.Marks.{caught_lines, marked, level_marks, gate_marks, mark_all, is_on, level_marked, gate_marked}
use Rattle.marking.proofs.MarkedLaws.{on_stays, marked-length, marked_at_lem, marked_past, level_marks-length, gate_marks-length}
use Rattle.marking.proofs.MarkedLaws.{level_mark_at, gate_mark_at}

-- what is marked at a place, where the marks reach it and where they do not
on_more : (ws ms : List ℕ) (i j : ℕ) → i < length ws → i < length ms → is_on (marked ws ms) i j ≡ (is_on ws i j || is_on ms i j)
on_more ws ms i j p q = ap (λ w. eqb (bit w j) 1) (marked_at_lem ws ms i p q) ∙ on_or (get_or ws i 0) (get_or ms i 0) j

on_past : (ws ms : List ℕ) (i j : ℕ) → length ms ≤ i → is_on (marked ws ms) i j ≡ is_on ws i j
on_past ws ms i j h = ap (λ w. eqb (bit w j) 1) (marked_past ws ms i h)

-- ---- whatever is marked, a mark stays

pub level_marked_stays : (at0 at1 ms0 ms1 : List ℕ) (f : Fault) → level_marked at0 at1 f ≡ true
    → level_marked (marked at0 ms0) (marked at1 ms1) f ≡ true
level_marked_stays at0 at1 ms0 ms1 f e = by_test (eqb f.value 0)
    (λ t. rw t (on_stays at0 ms0 f.place f.line (rw t at e)))
    (λ t. by_test (eqb f.value 1)
    (λ u. rw (t, u) (on_stays at1 ms1 f.place f.line (rw (t, u) at e)))
    (λ u. absurd (false≢true (rw (t, u) at e))))

pub gate_marked_stays : (ws ms : List ℕ) (f : Fault) → gate_marked ws f ≡ true → gate_marked (marked ws ms) f ≡ true
gate_marked_stays ws ms f e =
    let place = and_both (leb 1 f.place) (eqb f.value 0 && is_on ws (f.place - 1) f.line) e in
    let value = and_both (eqb f.value 0) (is_on ws (f.place - 1) f.line) place.1 in
    and-true place.0 (and-true value.0 (on_stays ws ms (f.place - 1) f.line value.1))

-- ---- words of zeros have no mark

zeros_at : (k i : ℕ) → get_or {A = ℕ} (replicate k 0) i 0 ≡ 0
zeros_at zero i = refl
zeros_at (suc k) zero = refl
zeros_at (suc k) (suc i) = zeros_at k i

zeros_off : (k i j : ℕ) → is_on (replicate k 0) i j ≡ false
zeros_off k i j = ap (λ w. eqb (bit w j) 1) (zeros_at k i) ∙ ne_eqb (bit 0 j) 1 (λ e. omega (arith, bit_of_zero j))

pub zeros_level : (k : ℕ) (f : Fault) → level_marked (replicate k 0) (replicate k 0) f ≡ false
zeros_level k f = by_test (eqb f.value 0)
    (λ t. rw t (zeros_off k f.place f.line))
    (λ t. by_test (eqb f.value 1) (λ u. rw (t, u) (zeros_off k f.place f.line)) (λ u. rw (t, u)))

pub zeros_gate : (k : ℕ) (f : Fault) → gate_marked (replicate k 0) f ≡ false
zeros_gate k f =
    ap (λ b. leb 1 f.place && (eqb f.value 0 && b)) (zeros_off k (f.place - 1) f.line)
    ∙ ap (λ b. leb 1 f.place && b) (and-false (eqb f.value 0)) ∙ and-false (leb 1 f.place)

-- ---- what the marks of a vector are

module _ (n : ℕ) (words : List ℕ) (ok : Sound n words) where
  -- a fault of the circuit that a vector catches
  Catches : Fault → ℕ → Bool
  Catches f x = is_fault n (gates_of words) f && caught (gates_of words) f x

  -- what is no fault is caught by nothing
  none_caught : (f : Fault) (x : ℕ) → (is_fault n (gates_of words) f ≡ true → ⊥) → Catches f x ≡ false
  unfolding Catches
  none_caught f x never = by_test (is_fault n (gates_of words) f) (λ is. absurd (never is)) (λ e. ap (λ b. b && caught (gates_of words) f x) e)

  -- each line of the marks
  on_caught_lines : (class value x i j : ℕ)
      → eqb (bit (caught_lines n (gates_of words) class value x i) j) 1 ≡ Catches (fault_of class i j value) x
  unfolding caught_lines Catches fault_of
  on_caught_lines class value x i j =
      let test : ℕ → Bool = λ line. Catches (fault_of class i line value) x in
      let word : ℕ = caught_lines n (gates_of words) class value x i in
      by_cases (dec_le n j)
      (λ above. ne_eqb (bit word j) 1 (λ on. omega (arith, bit_above n word j (word_of-lt n test) above))
      ∙ sym (none_caught (fault_of class i j value) x (λ is. omega (arith, names-line n words (fault_of class i j value) ok is))))
      (λ below. on_word_of n test j (omega arith))

  -- one vector more

  module _ (x : ℕ) where
    -- a list of words and the marks of a value at each level
    level_on : (ws : List ℕ) (v i j : ℕ) → length (gates_of words) < length ws
        → is_on (marked ws (level_marks n (gates_of words) v x)) i j ≡ (is_on ws i j || Catches (fault_of 1 i j v) x)
    unfolding fault_of
    level_on ws v i j wide =
        let ms : List ℕ = level_marks n (gates_of words) v x in
        let long = level_marks-length n (gates_of words) v x in
        by_cases (dec_le i (length (gates_of words)))
        (λ h. on_more ws ms i j (omega arith) (omega arith)
        ∙ ap (λ b. is_on ws i j || b) (ap (λ w. eqb (bit w j) 1) (level_mark_at n (gates_of words) v x i h) ∙ on_caught_lines 1 v x i j))
        (λ past. on_past ws ms i j (omega arith)
        ∙ sym (ap (λ b. is_on ws i j || b)
        (none_caught (fault_of 1 i j v) x (λ is. omega (arith, (stuck_fault n words (fault_of 1 i j v) ok is refl).place_in)))
        ∙ or-false (is_on ws i j)))

    -- and the marks of a class at each gate
    gate_on : (ws : List ℕ) (class i j : ℕ) → class ≢ 1 → length (gates_of words) ≤ length ws → 1 ≤ i
        → is_on (marked ws (gate_marks n (gates_of words) class x)) (i - 1) j ≡ (is_on ws (i - 1) j || Catches (fault_of class i j 0) x)
    unfolding fault_of
    gate_on ws class i j other wide lo =
        let ms : List ℕ = gate_marks n (gates_of words) class x in
        let long = gate_marks-length n (gates_of words) class x in
        by_cases (dec_le i (length (gates_of words)))
        (λ h. on_more ws ms (i - 1) j (omega arith) (omega arith)
        ∙ ap (λ b. is_on ws (i - 1) j || b)
        (ap (λ w. eqb (bit w j) 1) (gate_mark_at n (gates_of words) class x i lo h) ∙ on_caught_lines class 0 x i j))
        (λ past. on_past ws ms (i - 1) j (omega arith)
        ∙ sym (ap (λ b. is_on ws (i - 1) j || b)
        (none_caught (fault_of class i j 0) x (λ is. omega (arith, (names-gate n words (fault_of class i j 0) ok is other).1)))
        ∙ or-false (is_on ws (i - 1) j)))

    -- the marks of a fault of class 1
    pub level_marked-more : (at0 at1 : List ℕ) (f : Fault) → f.class ≡ 1 → length (gates_of words) < length at0 → length (gates_of words) < length at1
        → level_marked (marked at0 (level_marks n (gates_of words) 0 x)) (marked at1 (level_marks n (gates_of words) 1 x)) f
        ≡ (level_marked at0 at1 f || (is_fault n (gates_of words) f && caught (gates_of words) f x))
    unfolding Catches
    level_marked-more at0 at1 f one wide0 wide1 = by_equal f.value 0
        (λ e. rw (eq-eqb f.value 0 e)
        (level_on at0 0 f.place f.line wide0 ∙ ap (λ h. is_on at0 f.place f.line || Catches h x) (sym (same-fault f one refl e))))
        (λ a. by_equal f.value 1
        (λ e. rw (ne_eqb f.value 0 a, eq-eqb f.value 1 e)
        (level_on at1 1 f.place f.line wide1 ∙ ap (λ h. is_on at1 f.place f.line || Catches h x) (sym (same-fault f one refl e))))
        (λ b. rw (ne_eqb f.value 0 a, ne_eqb f.value 1 b)
        (sym (none_caught f x (λ is. omega (arith, (stuck_fault n words f ok is one).value_in))))))

    -- the marks of a fault of any other class
    pub gate_marked-more : (ws : List ℕ) (class : ℕ) (f : Fault) → f.class ≡ class → class ≢ 1 → length (gates_of words) ≤ length ws
        → gate_marked (marked ws (gate_marks n (gates_of words) class x)) f
        ≡ (gate_marked ws f || (is_fault n (gates_of words) f && caught (gates_of words) f x))
    unfolding Catches
    gate_marked-more ws class f of other wide =
        let not-one : f.class ≢ 1 = λ e. other (sym of ∙ e) in
        by_equal f.place 0
        (λ z. rw (lt-leb 1 f.place (omega arith))
        (sym (none_caught f x (λ is. omega (arith, (names-gate n words f ok is not-one).0)))))
        (λ p. by_equal f.value 0
        (λ e. rw (le-leb 1 f.place (omega arith), eq-eqb f.value 0 e)
        (gate_on ws class f.place f.line other wide (omega arith)
        ∙ ap (λ h. is_on ws (f.place - 1) f.line || Catches h x) (sym (same-fault f of refl e))))
        (λ v. rw (le-leb 1 f.place (omega arith), ne_eqb f.value 0 v)
        (sym (none_caught f x (λ is. v (no_value n words f ok is not-one))))))

  -- a set's vectors in turn

  -- one vector and the rest, of a fault of the circuit
  one_and_rest : (m is one rest : Bool) → (m || (is && one)) || (is && rest) ≡ m || (is && (one || rest))
  one_and_rest m is one rest = or_assoc m (is && one) (is && rest) ∙ ap (λ b. m || b) (sym (and-or_distrib_left is one rest))

  pub level_marked-all : (at0 at1 xs : List ℕ) (f : Fault) → f.class ≡ 1 → length (gates_of words) < length at0 → length (gates_of words) < length at1
      → level_marked (mark_all at0 (level_marks n (gates_of words) 0) xs) (mark_all at1 (level_marks n (gates_of words) 1) xs) f
      ≡ (level_marked at0 at1 f || (is_fault n (gates_of words) f && some (caught (gates_of words) f) xs))
  unfolding mark_all some
  level_marked-all at0 at1 [] f one wide0 wide1 =
      sym (ap (λ b. level_marked at0 at1 f || b) (and-false (is_fault n (gates_of words) f)) ∙ or-false (level_marked at0 at1 f))
  level_marked-all at0 at1 (x ∷ xs) f one wide0 wide1 =
      let next0 : List ℕ = marked at0 (level_marks n (gates_of words) 0 x) in
      let next1 : List ℕ = marked at1 (level_marks n (gates_of words) 1 x) in
      let is : Bool = is_fault n (gates_of words) f in
      let rest : Bool = some (caught (gates_of words) f) xs in
      level_marked-all next0 next1 xs f one (omega (arith, marked-length at0 (level_marks n (gates_of words) 0 x)))
      (omega (arith, marked-length at1 (level_marks n (gates_of words) 1 x)))
      ∙ ap (λ b. b || (is && rest)) (level_marked-more x at0 at1 f one wide0 wide1)
      ∙ one_and_rest (level_marked at0 at1 f) is (caught (gates_of words) f x) rest

  pub gate_marked-all : (ws xs : List ℕ) (class : ℕ) (f : Fault) → f.class ≡ class → class ≢ 1 → length (gates_of words) ≤ length ws
      → gate_marked (mark_all ws (gate_marks n (gates_of words) class) xs) f
      ≡ (gate_marked ws f || (is_fault n (gates_of words) f && some (caught (gates_of words) f) xs))
  unfolding mark_all some
  gate_marked-all ws [] class f of other wide =
      sym (ap (λ b. gate_marked ws f || b) (and-false (is_fault n (gates_of words) f)) ∙ or-false (gate_marked ws f))
  gate_marked-all ws (x ∷ xs) class f of other wide =
      let next : List ℕ = marked ws (gate_marks n (gates_of words) class x) in
      let is : Bool = is_fault n (gates_of words) f in
      let rest : Bool = some (caught (gates_of words) f) xs in
      gate_marked-all next xs class f of other (omega (arith, marked-length ws (gate_marks n (gates_of words) class x)))
      ∙ ap (λ b. b || (is && rest)) (gate_marked-more x ws class f of other wide)
      ∙ one_and_rest (gate_marked ws f) is (caught (gates_of words) f x) rest
