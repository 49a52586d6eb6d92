-- Coverage so far: which faults the vectors given so far catch, as words of lines.
use Rattle.std.specs.Prelude.{ℕ, Bool, false, List, [], ◌∷◌, replicate, eqb}
use Rattle.basics.specs.Choice.{choice}
use Rattle.circuit.specs.Limits.{most_gates}
use Rattle.circuit.specs.declared.Gate.{Gate}
use Rattle.marking.specs.Marks.{marked, gate_marks, level_marked, gate_marked}
use Rattle.marking.specs.Levels.{no_levels, with_levels}
use Rattle.faults.specs.declared.Fault.{Fault}
use Rattle.judge.specs.declared.coverage.Coverage.{Coverage}

-- nothing is caught
unfoldable pub empty_coverage : Coverage
empty_coverage = record {
  stuck_at = no_levels;
  missing_gates = replicate most_gates 0;
  missing_controls = replicate most_gates 0;
  extra_controls = replicate most_gates 0;
}

-- the coverage with one vector added
unfoldable pub with_vector : Coverage → ℕ → List Gate → ℕ → Coverage
with_vector c n gs x = record {
  stuck_at = with_levels c.stuck_at n gs x;
  missing_gates = marked c.missing_gates (gate_marks n gs 2 x);
  missing_controls = marked c.missing_controls (gate_marks n gs 3 x);
  extra_controls = marked c.extra_controls (gate_marks n gs 4 x);
}

-- and with a set's vectors in turn
unfoldable pub with_all : Coverage → ℕ → List Gate → List ℕ → Coverage
with_all c n gs [] = c
with_all c n gs (x ∷ xs) = with_all (with_vector c n gs x) n gs xs

-- whether a coverage has the mark of a fault; a class that there is not has no marks
unfoldable pub is_marked : Coverage → Fault → Bool
is_marked c f =
    choice (eqb f.class 1) (level_marked c.stuck_at.at_0 c.stuck_at.at_1 f)
    (choice (eqb f.class 2) (gate_marked c.missing_gates f)
    (choice (eqb f.class 3) (gate_marked c.missing_controls f)
    (choice (eqb f.class 4) (gate_marked c.extra_controls f) false)))
