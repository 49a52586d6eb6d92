-- `real_import::lines::gate_turn` meets its contract: the tests are those of the form, in its order, and the gate that is held is the one that
-- the line adds. Assumes nothing.
use Rattle.std.proofs.Common.{refl, sym, arith}
use Rattle.text.specs.Texts.{ascii}
use Rattle.text_words.specs.Words.{words_of}
use Rattle.real.specs.Form.{gate_of}
use Rattle.real_gates.specs.Names.{names_in}
use Rattle.real_gates.proofs.TokenLaws.{token_lines, token_unread, token_least}
use Rattle.real_import.specs.declared.lines.Due.TheVariants.{Gate, Nothing}
use Rattle.real_import.proofs.GateLaws.{no_token, no_gate, a_gate, gate-three, line_other, line_forbidden, line_ends, line_none, line-gate}
use Rattle.real_import.proofs.LineLaws.{leads_on, leads_gate}
use Rattle.real_import.proofs.lines.gate_turn.Goals as goal

pub returns-then-is_other : goal.returns-then-is_other
returns-then-is_other c =
    let a = c.args in
    (line_other (names_in a.names.now) a.here.now a.word.now a.rest.now c.requires.1 (sym c.if-is_other.ensures), c.in_word-place.ensures)

pub returns-then-not-all_plain : goal.returns-then-not-all_plain
returns-then-not-all_plain c =
    let a = c.args in (
      line_forbidden (names_in a.names.now) a.here.now a.word.now a.rest.now c.requires.1 (sym c.if-is_other.ensures)
          (sym c.if-not-all_plain.ensures),
      c.in_word-place.ensures,
    )

pub returns-then-alone : goal.returns-then-alone
unfolding ascii
returns-then-alone c =
    let a = c.args in
    leads_on (names_in a.names.now) a.here.now a.own.now (Gate a.gates) (Nothing a.gates) refl
    (line_ends (names_in a.names.now) a.here.now a.word.now a.rest.now c.requires.1 (sym c.if-is_other.ensures)
    (sym c.if-not-all_plain.ensures) (sym c.if-alone.ensures))

-- no gate: the token, or the words after it
pub returns-in_default : goal.returns-in_default
unfolding ascii
returns-in_default c =
    let a = c.args in
    let names = names_in a.names.now in
    let more = words_of a.rest.now in (
      line_none names a.here.now a.word.now a.rest.now c.requires.1 (sym c.if-is_other.ensures) (sym c.if-not-all_plain.ensures)
          (sym c.if-alone.ensures) (no_token names a.word.now more (token_unread a.word.now more c.in_default.ensures)),
      c.in_word-place.ensures,
    )

pub gate_of-requires : goal.gate_of-requires
gate_of-requires c =
    let a = c.args in
    let more = words_of a.rest.now in
    let token = token_lines a.word.now more _ c.in-Some.ensures in
    (omega (arith, token.1, token_least a.word.now more token.0), token.1)

pub returns-in_default-gate_of : goal.returns-in_default-gate_of
unfolding ascii
returns-in_default-gate_of c =
    let a = c.args in
    let names = names_in a.names.now in
    let more = words_of a.rest.now in (
      line_none names a.here.now a.word.now a.rest.now c.requires.1 (sym c.if-is_other.ensures) (sym c.if-not-all_plain.ensures)
          (sym c.if-alone.ensures)
          (no_gate names a.word.now more (token_lines a.word.now more _ c.in-Some.ensures).0 c.in_default-gate_of.ensures),
      c.in_word-place.ensures,
    )

pub returns : goal.returns
unfolding ascii
returns c =
    let a = c.args in
    let names = names_in a.names.now in
    let more = words_of a.rest.now in
    let read = c.in-Some-gate_of.ensures in
    rw c.hold.ensures
    (leads_gate names a.here.now a.own.now a.gates _ _ (gate_of names more)
    (line-gate names a.here.now a.word.now a.rest.now c.requires.1 (sym c.if-is_other.ensures) (sym c.if-not-all_plain.ensures)
    (sym c.if-alone.ensures) (a_gate names a.word.now more (token_lines a.word.now more _ c.in-Some.ensures).0 read.right))
    (gate-three names more) read.is)
