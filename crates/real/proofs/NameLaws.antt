-- Laws of the names x0, x1 and on: they are names, all different, and xj is found at place j.
use Prim.Native.Nat.{ℕ, zero, suc, ◌+◌, ◌<◌}
use mathlib.Core.Path.{◌≡◌, refl, sym, ap, ◌∙◌}
use mathlib.Core.Bool.{true, false, not}
use mathlib.Core.List.{List, [], ◌∷◌, map}
use native.Mathlib.Omega.{arith}
use lib.ListN.{length}
use lib.Dec.{eqb, leb}
use borrow.Author.Tests.{leb-true, le-leb}
use Rattle.basics.specs.Lists.{up_from, some, All}
use Rattle.basics.proofs.Tests.{by_test, and_both, and-true, or-false, or_right, or_left}
use Rattle.basics.proofs.Rising.{Rising}
use Rattle.text.specs.Texts.{ascii, every, same, among, distinct, place}
use Rattle.text.specs.Decimal.{decimal, is_digit}
use Rattle.text.proofs.SameLaws.{same_refl, same_true, place_found, place_passed}
use Rattle.text.proofs.TextLaws.{digits_most}
use Rattle.text.proofs.DecimalLaws.{all_digits, decimal-one}
use Rattle.real.specs.Form.{is_letter, is_name_byte, is_name}
use Rattle.real.specs.Export.{name_of}
use Rattle.real.proofs.JoinLaws.{visible, Visible, every_imp}

digit_visible : (b : ℕ) → is_digit b ≡ true → visible b ≡ true
unfolding is_digit visible
digit_visible b h = let t = and_both (leb 48 b) (leb b 57) h in
    let low = leb-true 48 b t.0 in
    let high = leb-true b 57 t.1 in
    and-true (le-leb 33 b (omega arith)) (le-leb b 126 (omega arith))

pub visible_decimal : (x : ℕ) → every visible (decimal x) ≡ true
visible_decimal x = every_imp is_digit visible digit_visible (decimal x) (all_digits x)

pub visible_name : (j : ℕ) → Visible (name_of j)
unfolding name_of ascii every visible
visible_name j = record { some = omega arith; all = visible_decimal j }

pub is_name_lem : (j : ℕ) → j < 100 → is_name (name_of j) ≡ true
unfolding name_of ascii every is_name is_letter
is_name_lem j h =
    and-true
    (every_imp is_digit is_name_byte (λ b e. or_right (is_letter b) (or_left (eqb b 95) e)) (decimal j) (all_digits j))
    (let w = digits_most 2 j (omega arith) (omega arith) in le-leb (suc (length (decimal j))) 8 (omega arith))

-- two lines have two names
pub names_differ : (i j : ℕ) → (i ≡ j → ⊥) → same (name_of i) (name_of j) ≡ false
unfolding name_of ascii
names_differ i j d = by_test (same (name_of i) (name_of j))
    (λ e. let t = same_true (name_of i) (name_of j) e in let u : decimal i ≡ decimal j = cc in absurd (d (decimal-one i j u)))
    (λ e. e)

-- xj is found at place j
pub place_from : (a k j : ℕ) → j < k → place (map name_of (up_from a k)) (name_of (a + j)) ≡ j
unfolding up_from
place_from a zero j h = absurd (omega arith)
place_from a (suc k) zero h =
    let e : a + 0 ≡ a = omega arith in
    rw e (place_found (name_of a) (map name_of (up_from (suc a) k)) (name_of a) (same_refl (name_of a)))
place_from a (suc k) (suc j) h =
    let e : a + suc j ≡ suc a + j = omega arith in
    rw e (place_passed (name_of a) (map name_of (up_from (suc a) k)) (name_of (suc a + j)) (names_differ a (suc a + j) (λ z. omega arith))
    ∙ ap suc (place_from (suc a) k j (omega arith)))

pub place_of : (n j : ℕ) → j < n → place (map name_of (up_from 0 n)) (name_of j) ≡ j
place_of n j h = let e : 0 + j ≡ j = omega arith in ap (λ i. place (map name_of (up_from 0 n)) (name_of i)) (sym e) ∙ place_from 0 n j h

pub among_from : (a k j : ℕ) → j < k → among (name_of (a + j)) (map name_of (up_from a k)) ≡ true
unfolding up_from among some
among_from a zero j h = absurd (omega arith)
among_from a (suc k) zero h =
    let e : a + 0 ≡ a = omega arith in
    or_left (some (same (name_of (a + 0))) (map name_of (up_from (suc a) k))) (ap (λ i. same (name_of i) (name_of a)) e ∙ same_refl (name_of a))
among_from a (suc k) (suc j) h =
    let e : a + suc j ≡ suc a + j = omega arith in
    or_right (same (name_of (a + suc j)) (name_of a))
    (ap (λ i. some (same (name_of i)) (map name_of (up_from (suc a) k))) e ∙ among_from (suc a) k j (omega arith))

pub declared : (n j : ℕ) → j < n → among (name_of j) (map name_of (up_from 0 n)) ≡ true
declared n j h = let e : 0 + j ≡ j = omega arith in ap (λ i. among (name_of i) (map name_of (up_from 0 n))) (sym e) ∙ among_from 0 n j h

pub all-names : (js : List ℕ) → All (λ j. j < 100) js → every is_name (map name_of js) ≡ true
unfolding every
all-names [] h = refl
all-names (j ∷ js) h = and-true (is_name_lem j h.0) (all-names js h.1)

pub all_declared : (n : ℕ) (js : List ℕ) → All (λ j. j < n) js → every (λ w. among w (map name_of (up_from 0 n))) (map name_of js) ≡ true
unfolding every
all_declared n [] h = refl
all_declared n (j ∷ js) h = and-true (declared n j h.0) (all_declared n js h.1)

pub all_visible : (js : List ℕ) → All Visible (map name_of js)
all_visible [] = tt
all_visible (j ∷ js) = (visible_name j, all_visible js)

-- rising lines have distinct names
none_above : (j : ℕ) (js : List ℕ) → All (λ k. j < k) js → among (name_of j) (map name_of js) ≡ false
unfolding among some
none_above j [] h = refl
none_above j (k ∷ js) h = let l : j < k = h.0 in or-false (names_differ j k (λ z. omega arith)) (none_above j js h.1)

pub distinct_rising : (js : List ℕ) → Rising js → distinct (map name_of js) ≡ true
unfolding distinct
distinct_rising [] h = refl
distinct_rising (j ∷ js) h = and-true (ap not (none_above j js h.0)) (distinct_rising js h.1)
