-- Laws of a plain list of fault records: a record is four words.
use Prim.Native.Nat.{ℕ, zero, suc, ◌+◌, ◌*◌, ◌/◌, ◌<◌, ◌≤◌}
use mathlib.Core.Path.{◌≡◌, refl}
use mathlib.Core.List.{List, [], ◌∷◌}
use native.Mathlib.Nat.{not-suc-le-zero}
use native.Mathlib.Omega.{arith}
use lib.ListN.{length, get_or}
use Rattle.faults.specs.Records.{faults_of, no_fault}

-- as many whole records as the list has fours
pub records_count : (list : List ℕ) → length (faults_of list) ≡ length list / 4
unfolding faults_of
records_count [] = refl
records_count (c ∷ []) = refl
records_count (c ∷ p ∷ []) = refl
records_count (c ∷ p ∷ l ∷ []) = refl
records_count (c ∷ p ∷ l ∷ v ∷ rest) = let r = records_count rest in omega arith

-- four words on, by the list's own constructors
pub four : (i k : ℕ) → 4 * suc i + k ≡ suc (suc (suc (suc (4 * i + k))))
four i k = omega arith

-- the record after i others has the four words from 4 * i
record_four : (list : List ℕ) (i : ℕ) → i < length (faults_of list)
    → record { class = get_or list (4 * i) 0; place = get_or list (4 * i + 1) 0; line = get_or list (4 * i + 2) 0; value = get_or list (4 * i + 3) 0 } ≡ get_or
    (faults_of list) i no_fault
unfolding faults_of
record_four [] i h = absurd (not-suc-le-zero h)
record_four (c ∷ []) i h = absurd (not-suc-le-zero h)
record_four (c ∷ p ∷ []) i h = absurd (not-suc-le-zero h)
record_four (c ∷ p ∷ l ∷ []) i h = absurd (not-suc-le-zero h)
record_four (c ∷ p ∷ l ∷ v ∷ rest) zero h = refl
record_four (c ∷ p ∷ l ∷ v ∷ rest) (suc i) h =
    let e0 : 4 * suc i ≡ suc (suc (suc (suc (4 * i)))) = omega arith in
    rw (four i 1, four i 2, four i 3, e0) (record_four rest i (omega arith))

pub record_words : (list : List ℕ) (i : ℕ) → 4 * i + 4 ≤ length list
    → record { class = get_or list (4 * i) 0; place = get_or list (4 * i + 1) 0; line = get_or list (4 * i + 2) 0; value = get_or list (4 * i + 3) 0 } ≡ get_or
    (faults_of list) i no_fault
record_words list i h = record_four list i (omega (arith, records_count list))
