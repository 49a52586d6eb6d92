-- Laws of the rules of making a set: which test breaks which rule, and what is known where none is broken.
use Rattle.std.proofs.Common.{ℕ, ◌+◌, ◌≤◌, ◌≡◌, List, length, ltb, ltb-false}
use Rattle.refusals.specs.Tables.{first_of}
use Rattle.refusals.specs.Answers.{fine}
use Rattle.refusals.proofs.Tables.{fine-parts, fine_row}
use Rattle.circuit.specs.Gates.{gates_of}
use Rattle.circuit.specs.Rules.{circuit_rows}
use Rattle.circuit.specs.Sound.{Sound}
use Rattle.circuit.proofs.RuleLaws.{sound}
use Rattle.testsets.specs.Limits.{most_tried_lines}
use Rattle.testsets.specs.Sets.{bound}
use Rattle.testsets.specs.Rules.{backward_rows, compact_rows}

module _ (n : ℕ) (words : List ℕ) (room : ℕ) where
  -- ---- no rule is broken

  pub record BackwardOk : Type 0 where
    pub circuit : Sound n words
    pub room_fits : length (gates_of words) + 2 ≤ room

  pub backward_ok : fine ≡ first_of (backward_rows n words room) fine → BackwardOk
  unfolding backward_rows
  backward_ok e =
      let w = fine-parts (circuit_rows n words) _ e in
      let short = fine_row (ltb room (length (gates_of words) + 2)) 10 0 fine w.1 in
      record { circuit = sound n words w.0; room_fits = ltb-false room (length (gates_of words) + 2) short.0 }

  pub record CompactOk : Type 0 where
    pub circuit : Sound n words
    pub lines_few : n ≤ most_tried_lines
    pub room_fits : bound n (gates_of words) ≤ room

  pub compact_ok : fine ≡ first_of (compact_rows n words room) fine → CompactOk
  unfolding compact_rows
  compact_ok e =
      let w = fine-parts (circuit_rows n words) _ e in
      let many = fine_row (ltb most_tried_lines n) 11 0 _ w.1 in
      let short = fine_row (ltb room (bound n (gates_of words))) 10 0 fine many.1 in
      record {
        circuit = sound n words w.0;
        lines_few = ltb-false most_tried_lines n many.0;
        room_fits = ltb-false room (bound n (gates_of words)) short.0;
      }
