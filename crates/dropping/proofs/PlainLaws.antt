-- Laws of records in a plain list: records and numbers tell the same, and a record is written by four numbers.
use Rattle.std.specs.Prelude.{ℕ, zero, suc, ◌+◌, ◌*◌, ◌<◌, ◌≤◌, ◌≡◌, refl, List, [], ◌∷◌, length, set}
use Rattle.std.proofs.Common.{ap, arith}
use Rattle.std.proofs.Math.Nat.{not-suc-le-zero}
use Rattle.std.proofs.lemmas.List.{length-set}
use Rattle.faults.specs.Records.{faults_of}
use Rattle.faults.specs.declared.Fault.{Fault}
use Rattle.faults.proofs.RecordLaws.{records_count, four}
use Rattle.dropping.specs.Dropping.{words_of}

pub faults_numbers : (fs : List Fault) → faults_of (words_of fs) ≡ fs
unfolding faults_of words_of
faults_numbers [] = refl
faults_numbers (f ∷ fs) = ap (λ rest. f ∷ rest) (faults_numbers fs)

pub numbers_length : (fs : List Fault) → length (words_of fs) ≡ 4 * length fs
unfolding words_of
numbers_length [] = refl
numbers_length (f ∷ fs) = let r = numbers_length fs in omega arith

-- where no number is left over
pub numbers_faults : (list : List ℕ) → length list ≡ 4 * length (faults_of list) → words_of (faults_of list) ≡ list
unfolding faults_of words_of
numbers_faults [] e = refl
numbers_faults (c ∷ []) e = absurd (omega arith)
numbers_faults (c ∷ p ∷ []) e = absurd (omega arith)
numbers_faults (c ∷ p ∷ l ∷ []) e = absurd (omega arith)
numbers_faults (c ∷ p ∷ l ∷ v ∷ rest) e = ap (λ more. c ∷ p ∷ l ∷ v ∷ more) (numbers_faults rest (omega arith))

-- a number that is written changes no length: std's `length-set`, under a name that a line of tactics can give
pub set_length : (list : List ℕ) (i v : ℕ) → length (set list i v) ≡ length list
set_length list i v = length-set list i v

-- four numbers written
abbrev put_four : List ℕ → ℕ → Fault → List ℕ
put_four list i f = set (set (set (set list (4 * i) f.class) (4 * i + 1) f.place) (4 * i + 2) f.line) (4 * i + 3) f.value

put_four_lem : (list : List ℕ) (i : ℕ) (f : Fault) → i < length (faults_of list) → faults_of (put_four list i f) ≡ set (faults_of list) i f
unfolding faults_of
put_four_lem [] i f h = absurd (not-suc-le-zero h)
put_four_lem (c ∷ []) i f h = absurd (not-suc-le-zero h)
put_four_lem (c ∷ p ∷ []) i f h = absurd (not-suc-le-zero h)
put_four_lem (c ∷ p ∷ l ∷ []) i f h = absurd (not-suc-le-zero h)
put_four_lem (c ∷ p ∷ l ∷ v ∷ rest) zero f h = refl
put_four_lem (c ∷ p ∷ l ∷ v ∷ rest) (suc i) f h =
    let e0 : 4 * suc i ≡ suc (suc (suc (suc (4 * i)))) = omega arith in
    let r = put_four_lem rest i f (omega arith) in
    rw (four i 1, four i 2, four i 3, e0) (ap (λ more. record { class = c; place = p; line = l; value = v } ∷ more) r)

pub put_words : (list : List ℕ) (i : ℕ) (f : Fault) → 4 * i + 4 ≤ length list → faults_of (put_four list i f) ≡ set (faults_of list) i f
put_words list i f h = put_four_lem list i f (omega (arith, records_count list))
