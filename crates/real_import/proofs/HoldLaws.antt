-- Laws of gates that are held: how they come to be, and the rules of a circuit whose gates are held.
use Rattle.std.proofs.Common.{ℕ, ◌+◌, ◌-◌, ◌*◌, ◌/◌, ◌≤◌, ◌<◌, ◌^◌, min, ◌≡◌, refl, sym, ap, ap₂, ◌∙◌, false, ltb, arith}
use Rattle.std.proofs.Common.{List, [], ◌∷◌, ◌++◌, length, take, drop, length-append, length-take-le, take_at}
use Rattle.std.proofs.lemmas.Bool.{lt-ltb, le-ltb, ltb-false}
use Rattle.std.proofs.lemmas.List.Edits.{sets, sets-eq}
use mathlib.Core.Logic.{by_cases}
use native.Mathlib.Decide.{dec_le}
use lib.Seq.{length-sets}
use Rattle.basics.specs.Choice.{choice}
use Rattle.basics.proofs.Tests.{by_test}
use Rattle.refusals.specs.Tables.{Row, Told, first_of}
use Rattle.refusals.specs.Tables.Row.{refuse◌at◌when◌}
use Rattle.refusals.specs.Tables.Told.{refused}
use Rattle.refusals.specs.Answers.{fine}
use Rattle.refusals.specs.Places.{in_word}
use Rattle.refusals.proofs.Tables.{refused_on, fine_on, fine-parts, fine_row, refused_row}
use Rattle.circuit.specs.Limits.{most_lines, most_gates}
use Rattle.circuit.specs.Gates.{gates_of}
use Rattle.circuit.specs.Rules.{bad_lines, bad_counts, circuit_set_rows, circuit_rows}
use Rattle.circuit.specs.Sound.{Sound}
use Rattle.circuit.proofs.GateLaws.{gates_count}
use Rattle.circuit.proofs.RuleLaws.{sound, lines_right, counts_right}
use Rattle.real_import.specs.Lines.{held_after, Held}
use Rattle.real_import.specs.Results.{held_rows}

-- ---- one gate more

module _ (own : List ℕ) (gates controls target : ℕ) where
  pub held_in : (last : List ℕ) → gates < length own / 3 → last ≡ sets own (3 * gates) (controls ∷ 0 ∷ target ∷ [])
      → last ≡ held_after own gates controls target
  unfolding held_after
  held_in last h e = rw (lt-ltb gates (length own / 3) h) e

  pub held_over : length own / 3 ≤ gates → own ≡ held_after own gates controls target
  unfolding held_after
  held_over h = rw (le-ltb gates (length own / 3) h)

  abbrev three : List ℕ
  three = controls ∷ 0 ∷ target ∷ []

  first-words : 3 * gates + 3 ≤ length own → take (3 * (gates + 1)) (held_after own gates controls target) ≡ take (3 * gates) own ++ three
  unfolding held_after
  first-words h =
      let l = length-take-le (3 * gates) own (omega arith) in
      let e : length (take (3 * gates) own ++ three) ≡ 3 * (gates + 1) = length-append (take (3 * gates) own) three ∙ omega arith in
      rw (lt-ltb gates (length own / 3) (omega arith))
      (ap (take (3 * (gates + 1))) (sets-eq three own (3 * gates) (omega arith))
      ∙ take_at (take (3 * gates) own ++ three) (drop (3 * gates + 3) own) (3 * (gates + 1)) e)

  same_room : length (held_after own gates controls target) ≡ length own
  unfolding held_after
  same_room = by_test (ltb gates (length own / 3))
      (λ e. rw e (length-sets own (3 * gates) three))
      (λ e. rw e)

  pub held_more : (n : ℕ) (before words : List ℕ) → length words ≡ 3 → (n ≤ most_lines → words ≡ three) → Held n own gates before
      → Held n (held_after own gates controls target) (gates + 1) (before ++ words)
  held_more n before words three-long is h = record {
    whole = let w = h.whole in length-append before words ∙ omega arith;
    first = λ narrow fits.
        let r = same_room in
        first-words (omega arith) ∙ ap₂ ◌++◌ (h.first narrow (omega arith)) (sym (is narrow));
  }

pub held_none : (n : ℕ) (own : List ℕ) → Held n own 0 []
held_none n own = record { whole = refl; first = λ narrow fits. refl }

-- ---- the rules

-- a number of lines that no word holds is too large as well
pub lines_in_word : (n : ℕ) → bad_lines (in_word n) ≡ bad_lines n
unfolding in_word bad_lines
lines_in_word n = by_cases (dec_le n 4294967295)
    (λ h. let e : min n (2 ^ 32 - 1) ≡ n = omega arith in rw e)
    (λ h. let e : min n (2 ^ 32 - 1) ≡ 4294967295 = omega arith in rw (e, lt-ltb most_lines n (omega arith), le-ltb n 1 (omega arith)))

word_right : (n : ℕ) → n ≤ most_lines → in_word n ≡ n
unfolding in_word
word_right n h = omega arith

module _ (n gates room : ℕ) (own words : List ℕ) (h : Held n own gates words) where
  abbrev rows : List Row
  rows = held_rows n words room

  pub count : length (gates_of words) ≡ gates
  count = let w = h.whole in gates_count words ∙ omega arith

  pub rule_3 : (k p : ℕ) → refused k p ≡ choice (bad_lines (in_word n)) (refused 3 0) fine → refused k p ≡ first_of rows fine
  unfolding circuit_rows circuit_set_rows
  rule_3 k p e = refused_row (bad_lines n) 3 0 k p _ (e ∙ ap (λ b. choice b (refused 3 0) fine) (lines_in_word n))

  module _ (few : bad_lines (in_word n) ≡ false) where
    pub rule_5 : (k p : ℕ) → refused k p ≡ choice (bad_counts gates 0) (refused 5 0) fine → refused k p ≡ first_of rows fine
    unfolding circuit_rows circuit_set_rows
    rule_5 k p e = rw (sym (lines_in_word n) ∙ few, count) (refused_row (bad_counts gates 0) 5 0 k p _ e)

    module _ (counts : bad_counts gates 0 ≡ false) (wide : 3 * most_gates ≤ length own) where
      same_rows : circuit_rows (in_word n) (take (3 * gates) own) ≡ circuit_rows n words
      same_rows =
          let narrow : n ≤ most_lines = (lines_right n (sym (lines_in_word n) ∙ few)).1 in
          let c = (counts_right gates 0 counts).0 in
          ap₂ circuit_rows (word_right n narrow) (h.first narrow (omega arith))

      pub rule_7 : (k p : ℕ) → refused k p ≡ first_of (circuit_rows (in_word n) (take (3 * gates) own)) fine → refused k p ≡ first_of rows fine
      rule_7 k p e = refused_on (circuit_rows n words) _ fine k p (e ∙ ap (λ t. first_of t fine) same_rows)

      pub rule_10 : (told : Told) (m : ℕ) → fine ≡ first_of (circuit_rows (in_word n) (take (3 * gates) own)) fine → m ≡ length (take (3 * gates) own)
          → told ≡ choice (ltb room m) (refused 10 0) fine → told ≡ first_of rows fine
      rule_10 told m e is t =
          let c = (counts_right gates 0 counts).0 in
          let all : m ≡ length words = is ∙ length-take-le (3 * gates) own (omega arith) ∙ sym h.whole in
          t ∙ ap (λ k. choice (ltb room k) (refused 10 0) fine) all
          ∙ sym (fine_on (circuit_rows n words) (refuse 10 at 0 when ltb room (length words) ∷ []) fine (e ∙ ap (λ t. first_of t fine) same_rows))

  -- where no rule is broken
  module _ (passed : fine ≡ first_of rows fine) (wide : 3 * most_gates ≤ length own) where
    circuit-right : Sound n words
    circuit-right = sound n words (fine-parts (circuit_rows n words) _ passed).0

    pub lines_are : in_word n ≡ n
    lines_are = word_right n circuit-right.lines_fit

    pub room_fits : 3 * gates ≤ room
    room_fits =
        let e = fine_row (ltb room (length words)) 10 0 fine (fine-parts (circuit_rows n words) _ passed).1 in
        omega (arith, ltb-false room (length words) e.0, h.whole)

    pub words_are : take (3 * gates) own ≡ words
    words_are = h.first circuit-right.lines_fit (omega (arith, circuit-right.gates_fit, count))
