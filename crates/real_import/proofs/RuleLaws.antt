-- What a text is that neither 15 nor 14 refuses.
use Rattle.std.proofs.Common.{ℕ, ◌≡◌, refl, sym, ap, ◌∙◌, false, List}
use Rattle.std.proofs.lemmas.Bool.{false≢true}
use Rattle.basics.proofs.Tests.{or-false}
use Rattle.real.specs.Reading.{Reading, reading}
use Rattle.real.specs.Reading.Reading.{circuit, faulty}
use Rattle.real.proofs.NumberLaws.{faulty_by}
use Rattle.real_import.specs.Rules.{is_refused}

-- it reads as a circuit
pub reads : (text : List ℕ) → is_refused 15 (reading text) ≡ false → is_refused 14 (reading text) ≡ false
    → (n : ℕ) × (words : List ℕ) × (reading text ≡ circuit n words)
reads text fifteen fourteen = by_reading (reading text) refl
  where
    by_reading : (read : Reading) → reading text ≡ read → (n : ℕ) × (words : List ℕ) × (reading text ≡ circuit n words)
    by_reading (circuit n words) e = (n, words, e)
    by_reading (faulty k line) e =
        let neither = or-false (ap (is_refused 15) (sym e) ∙ fifteen) (ap (is_refused 14) (sym e) ∙ fourteen) in
        absurd (false≢true (sym neither ∙ faulty_by text k line e))
