-- Laws of texts that are put one after another.
use Rattle.std.specs.Prelude.{ℕ, ◌+◌, ◌<◌, ◌≤◌, ◌/◌, ◌%◌, ◌≡◌, refl, List, [], ◌∷◌, ◌++◌, length}
use Rattle.std.proofs.Common.{sym, ap, ◌∙◌, arith, length-append}
use Rattle.std.proofs.lemmas.List.Edits.{sets}
use Rattle.basics.proofs.PutLaws.{sets-append}
use Rattle.text.specs.Decimal.{digit, decimal}
use Rattle.text.proofs.TextLaws.{decimal_small, decimal-more, digits_most, room_more}
use Rattle.real_export.specs.Parts.{Put}

pub put_none : (old : List ℕ) (at : ℕ) → Put old at [] old at
put_none old at = record { told = omega arith; kept = refl; stored = λ h. refl }

-- a part, and the rest after it
pub put_then : {old mid new : List ℕ} {at next end : ℕ} {t u : List ℕ} → Put old at t mid next → Put mid next u new end → Put old at (t ++ u) new end
put_then {old} {mid} {new} {at} {next} {end} {t} {u} p q =
    let told = p.told in
    let more = q.told in
    let same = p.kept in
    let long = length-append t u in
    record {
      told = omega arith;
      kept = q.kept ∙ p.kept;
      stored = λ h. q.stored (omega arith) ∙ ap (λ l. sets l next u) (p.stored (omega arith)) ∙ sets-append old at next t u (sym p.told);
    }

pub put_as : {old new : List ℕ} {at end : ℕ} {t u : List ℕ} → Put old at t new end → t ≡ u → Put old at u new end
put_as p e = rw (← e) p

-- ---- numbers below 100

pub digits_one : (x : ℕ) → x < 10 → 1 ≡ length (decimal x)
digits_one x h = rw (decimal_small x h)

pub digits_two : (x : ℕ) → x < 100 → 10 ≤ x → 2 ≡ length (decimal x)
digits_two x h k = rw (room_more x k, decimal_small (x / 10) (omega arith))

pub digits_few : (x : ℕ) → x < 100 → length (decimal x) ≤ 2
digits_few x h = digits_most 2 x (omega arith) (omega arith)

pub put_digit : {old new : List ℕ} {at end : ℕ} (x : ℕ) → x < 10 → Put old at ((48 + x) ∷ []) new end → Put old at (decimal x) new end
unfolding digit
put_digit x h p = put_as p (sym (decimal_small x h))

pub put_digits : {o0 o1 o2 : List ℕ} {at a b : ℕ} (x : ℕ) → x < 100 → 10 ≤ x → Put o0 at ((48 + x / 10) ∷ []) o1 a
    → Put o1 a ((48 + x % 10) ∷ []) o2 b → Put o0 at (decimal x) o2 b
unfolding digit
put_digits x h k p q =
    put_as (put_then p q) (sym (decimal-more x k ∙ ap (λ t. t ++ ((48 + x % 10) ∷ [])) (decimal_small (x / 10) (omega arith))))
