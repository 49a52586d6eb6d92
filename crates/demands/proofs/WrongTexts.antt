-- Wrong programs on named texts: each says something that the contracts of the calls that import, the library's and C's, rule out. What is
-- promised there is found by computing.
use Prim.Native.Nat.{ℕ}
use mathlib.Core.Path.{◌≡◌, refl, ap, ◌∙◌}
use mathlib.Core.List.{List, [], ◌∷◌, ◌++◌}
use native.Mathlib.Omega.{arith}
use Rattle.basics.specs.Lists.{some}
use Rattle.refusals.specs.Tables.Told.{answered, refused}
use Rattle.refusals.specs.Places.{in_word}
use Rattle.refusals.proofs.Clashes.{answered-refused}
use Rattle.text.specs.Texts.{ascii, every, begins, same, among, distinct}
use Rattle.text.specs.Decimal.{digit, decimal_in, decimal, is_digit, is_number}
use Rattle.text_words.specs.Words.{in_front, lines_of, is_blank, word_ends, words_of}
use Rattle.real.specs.Form.{is_letter, is_name, controls_of, is_gate, next, is_other, is_plain, step_with, step_of}
use Rattle.real.specs.Reading.{read_from, reading}
use Rattle.real_import.specs.Promises.{import_tells}
use Rattle.real_import.specs.Rules.{import_rows}
use Rattle.demands.proofs.RealCalls.{Importer, Imports, Refuses, told_imported_lem}

-- a circuit of two lines, a and b: four lines of text, then others
abbrev on_two : List ℕ → List ℕ
on_two others = ascii ".version 1.0\n.numvars 2\n.variables a b\n.begin\n" ++ others

-- the name c is not declared
abbrev pub undeclared : List ℕ
undeclared = on_two (ascii "t2 c b\n.end\n")

-- the control a is named twice
abbrev pub twice : List ℕ
twice = on_two (ascii "t3 a a b\n.end\n")

-- .end is missing
abbrev pub unended : List ℕ
unended = on_two (ascii "t1 a\n")

-- a gate token that begins with another letter than t
abbrev pub other_kind : List ℕ
other_kind = on_two (ascii "f2 a b\n.end\n")

-- ---- what is promised

pub promised_are : (room : List ℕ)
    → (import_tells undeclared room ≡ refused 14 5) × (import_tells twice room ≡ refused 14 5)
    × (import_tells unended room ≡ refused 14 6) × (import_tells other_kind room ≡ refused 15 5)
unfolding import_rows reading read_from step_of step_with is_plain is_other next is_gate controls_of is_name is_letter
    ascii every begins same among distinct in_front lines_of is_blank word_ends words_of digit decimal_in decimal is_digit is_number in_word some
promised_are room = (refl, refl, refl, refl)

module _ (I : Importer) (i : I.Call) where
  -- a text that is refused is not answered
  not-answered : (text : List ℕ) (k p : ℕ) → I.text i ≡ text → import_tells text (I.room i) ≡ refused k p → (n d : ℕ) → Imports I i n d → ⊥
  not-answered text k p asked promise n d wrong =
      answered-refused (told_imported_lem I i (answered (n ∷ d ∷ [])) tt wrong ∙ ap (λ t. import_tells t (I.room i)) asked ∙ promise)

  -- and is refused so only
  refused_so : (text : List ℕ) (k p m q : ℕ) → I.text i ≡ text → import_tells text (I.room i) ≡ refused k p → (m ≡ 0 → ⊥) → Refuses I i m q
      → (m ≡ k) × (q ≡ p)
  refused_so text k p m q asked promise proper wrong =
      let same = told_imported_lem I i (refused m q) proper wrong ∙ ap (λ t. import_tells t (I.room i)) asked ∙ promise in
      (cc, cc)

  -- ---- the wrong programs

  -- a name that is not declared is taken for line 0, or for any other
  pub takes_undeclared : I.text i ≡ undeclared → (n d : ℕ) → Imports I i n d → ⊥
  takes_undeclared asked = not-answered undeclared 14 5 asked (promised_are (I.room i)).0

  -- a control named twice is taken for one, or for two
  pub takes_twice : I.text i ≡ twice → (n d : ℕ) → Imports I i n d → ⊥
  takes_twice asked = not-answered twice 14 5 asked (promised_are (I.room i)).1

  -- a text without .end is taken for one with it
  pub takes_unended : I.text i ≡ unended → (n d : ℕ) → Imports I i n d → ⊥
  takes_unended asked = not-answered unended 14 6 asked (promised_are (I.room i)).2

  -- or is refused at its last line
  pub tells_last_line : I.text i ≡ unended → Refuses I i 14 5 → ⊥
  tells_last_line asked wrong =
      let w = (refused_so unended 14 6 14 5 asked (promised_are (I.room i)).2 (λ z. omega arith) wrong).1 in
      omega arith

  -- a gate of another kind is refused as 14
  pub tells_other_kind : I.text i ≡ other_kind → (line : ℕ) → Refuses I i 14 line → ⊥
  tells_other_kind asked line wrong =
      let w = (refused_so other_kind 15 5 14 line asked (promised_are (I.room i)).3 (λ z. omega arith) wrong).0 in
      omega arith
