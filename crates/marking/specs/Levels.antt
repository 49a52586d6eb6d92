-- The marks of class 1, of both values together.
use Rattle.std.specs.Prelude.{ℕ, List, replicate}
use Rattle.circuit.specs.Limits.{levels}
use Rattle.circuit.specs.declared.Gate.{Gate}
use Rattle.marking.specs.Marks.{marked, level_marks}
use Rattle.marking.specs.declared.marks.LevelMarks.{LevelMarks}

-- nothing is marked
abbrev pub no_levels : LevelMarks
no_levels = record { at_0 = replicate levels 0; at_1 = replicate levels 0 }

-- the marks with those of one vector added
abbrev pub with_levels : LevelMarks → ℕ → List Gate → ℕ → LevelMarks
with_levels marks n gs x = record {
  at_0 = marked marks.at_0 (level_marks n gs 0 x);
  at_1 = marked marks.at_1 (level_marks n gs 1 x);
}
