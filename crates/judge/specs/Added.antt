-- What adding a vector to a coverage tells, and the coverage that it hands back.
use Rattle.std.specs.Prelude.{Result, Ok, Err}
use Rattle.refusals.specs.Tables.{Told}
use Rattle.refusals.specs.Tables.Told.{refused}
use Rattle.refusals.specs.Answers.{number_of, place_of, fine}
use Rattle.judge.specs.declared.coverage.Coverage.{Coverage}
use Rattle.judge.specs.declared.coverage.Unchanged.{Unchanged}

-- nothing is told beside the coverage, or the refusal
abbrev pub told_added : Result Coverage Unchanged → Told
told_added (Ok c) = fine
told_added (Err unchanged) = refused (number_of unchanged.refusal) (place_of unchanged.refusal)

-- either way a coverage is handed back
abbrev pub handed_back : Result Coverage Unchanged → Coverage
handed_back (Ok c) = c
handed_back (Err unchanged) = unchanged.coverage
