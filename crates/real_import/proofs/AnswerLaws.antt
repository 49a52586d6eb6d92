-- Different answers tell different things.
use Rattle.std.proofs.Common.{◌≡◌, ℕ, Result}
use Rattle.refusals.specs.declared.Refusal.{Refusal}
use Rattle.refusals.specs.Answers.{told}
use Rattle.refusals.proofs.OneAnswer.{told-one}
use Rattle.real_import.specs.Answers.{imported_values}
use Rattle.real_import.specs.declared.Imported.{Imported}

abbrev imported_of : ℕ → ℕ → Imported
imported_of n d = record { lines = n; gates = d }

values-one : (a b : Imported) → imported_values a ≡ imported_values b → a ≡ b
values-one a b e = let same : imported_of a.lines a.gates ≡ imported_of b.lines b.gates = cc in same

pub told_imported-one : (r s : Result Imported Refusal) → told imported_values r ≡ told imported_values s → r ≡ s
told_imported-one r s e = told-one imported_values values-one r s e
