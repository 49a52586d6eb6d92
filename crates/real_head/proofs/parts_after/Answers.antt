-- `real_head::parts_after` meets its contract: each of the four parts leads on where it may still come, and any other word is refused.
-- Assumes nothing.
use Rattle.std.proofs.Common.{sym}
use Rattle.text.specs.Texts.{ascii}
use Rattle.text_words.specs.Words.{words_of}
use Rattle.real_head.proofs.PartLaws.{is_word, no_word, inputs_next, outputs_next, garbage_next, constants_next, constants_wrong, none_next}
use Rattle.real_head.proofs.parts_after.Goals as goal
use Rattle.real_head.proofs.parts_after.Goals.{else-eq-4-via-then-eq-4+else-is_constants, else-eq-4-via-else-eq-4}

pub returns-then-eq : goal.returns-then-eq
unfolding ascii
returns-then-eq c =
    let a = c.args in
    rw (c.then_some.ensures, is_word (ascii ".inputs") a.word.now _ c.as_slice.ensures c.if-eq.ensures)
    (inputs_next (words_of a.names.now) (words_of a.rest.now) a.parts)

pub returns-then-eq-2 : goal.returns-then-eq-2
unfolding ascii
returns-then-eq-2 c =
    let a = c.args in
    rw (c.then_some-then-eq-2.ensures, is_word (ascii ".outputs") a.word.now _ c.as_slice-2.ensures c.if-eq-2.ensures)
    (outputs_next (words_of a.names.now) (words_of a.rest.now) a.parts)

pub returns-then-eq-3 : goal.returns-then-eq-3
unfolding ascii
returns-then-eq-3 c =
    let a = c.args in
    rw (c.then_some-then-eq-3.ensures, is_word (ascii ".garbage") a.word.now _ c.as_slice-3.ensures c.if-eq-3.ensures)
    (garbage_next (words_of a.names.now) (words_of a.rest.now) a.parts)

pub returns-then-is_constants : goal.returns-then-is_constants
unfolding ascii
returns-then-is_constants c =
    let a = c.args in
    rw (c.then_some-then-is_constants.ensures, is_word (ascii ".constants") a.word.now _ c.as_slice-4.ensures c.if-eq-4.ensures)
    (constants_next (words_of a.names.now) (words_of a.rest.now) a.parts (sym c.if-is_constants.ensures))

pub returns : goal.returns
unfolding ascii
returns c =
    let a = c.args in
    let names = words_of a.names.now in
    let more = words_of a.rest.now in
    elim c.else-eq-4.branch [
      | else-eq-4-via-then-eq-4+else-is_constants w ↦
          rw (is_word (ascii ".constants") a.word.now _ c.as_slice-4.ensures w.if-eq-4.ensures)
          (sym (constants_wrong names more a.parts (sym w.if-is_constants.ensures)))
      | else-eq-4-via-else-eq-4 w ↦
          sym (none_next names more a.parts a.word.now c.requires (no_word (ascii ".inputs") _ _ c.as_slice.ensures c.if-eq.ensures)
          (no_word (ascii ".outputs") _ _ c.as_slice-2.ensures c.if-eq-2.ensures)
          (no_word (ascii ".garbage") _ _ c.as_slice-3.ensures c.if-eq-3.ensures)
          (no_word (ascii ".constants") _ _ c.as_slice-4.ensures w.if-eq-4.ensures))
    ]
