-- What the answer tells: the number of lines and of gates.
use Rattle.std.specs.Prelude.{ℕ, List, [], ◌∷◌}
use Rattle.real_import.specs.declared.Imported.{Imported}

abbrev pub imported_values : Imported → List ℕ
imported_values imported = imported.lines ∷ imported.gates ∷ []
