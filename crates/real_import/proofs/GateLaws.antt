-- Laws of a line that is not skipped where a gate or .end is due, by each outcome of the code's tests.
use Rattle.std.proofs.Common.{◌≡◌, refl, ap, ap₂, ◌∙◌, ℕ, true, false, ◌&&◌, List, length, eqb}
use Rattle.basics.proofs.Tests.{by_test}
use Rattle.text.specs.Texts.{ascii, every, same}
use Rattle.text_words.specs.Words.{words_of}
use Rattle.real.specs.Form.{Word, is_plain, is_other, is_gate, gate_of, next, step_of}
use Rattle.real.specs.Form.Stage.{begun, done}
use Rattle.real.specs.Form.Step.{goes, adds, stops}
use Rattle.real.proofs.StepLaws.{step_other, step_forbidden, step-next, next_end, next-gate, next_none}
use Rattle.real_gates.specs.Tokens.{is_token}
use Rattle.real_gates.specs.Gates.{are_gate}
use Rattle.real_import.specs.Lines.{Counts}

-- ---- a gate by its token and its words

module _ (names : List Word) (token : Word) (words : List Word) where
  pub no_token : is_token token words ≡ false → is_gate names token words ≡ false
  unfolding is_gate
  no_token e = ap (λ b. b && are_gate names words) e

  module _ (right : is_token token words ≡ true) where
    pub no_gate : are_gate names words ≡ false → is_gate names token words ≡ false
    unfolding is_gate
    no_gate e = ap₂ ◌&&◌ right e

    pub a_gate : are_gate names words ≡ true → is_gate names token words ≡ true
    unfolding is_gate
    a_gate e = ap₂ ◌&&◌ right e

pub gate-three : (names words : List Word) → length (gate_of names words) ≡ 3
unfolding gate_of
gate-three names words = refl

-- ---- the line

module _ (names : List Word) (line word rest : List ℕ) (c : Counts line word rest) where
  pub line_other : is_other word ≡ true → step_of (begun names) line ≡ stops 15
  line_other e = step_other (begun names) line word (words_of rest) c.split c.first e

  module _ (known : is_other word ≡ false) where
    pub line_forbidden : every is_plain line ≡ false → step_of (begun names) line ≡ stops 14
    line_forbidden = step_forbidden (begun names) line word (words_of rest) c.split c.first known

    module _ (plain : every is_plain line ≡ true) where
      by_words : step_of (begun names) line ≡ next (begun names) word (words_of rest)
      by_words = step-next (begun names) line word (words_of rest) c.split c.first known plain

      pub line_ends : (same word (ascii ".end") && eqb (length (words_of rest)) 0) ≡ true → step_of (begun names) line ≡ goes (done names)
      line_ends e = by_words ∙ next_end names word (words_of rest) e

      module _ (goes_on : (same word (ascii ".end") && eqb (length (words_of rest)) 0) ≡ false) where
        pub line_none : is_gate names word (words_of rest) ≡ false → step_of (begun names) line ≡ stops 14
        line_none e = by_words ∙ next_none names word (words_of rest) goes_on e

        pub line-gate : is_gate names word (words_of rest) ≡ true → step_of (begun names) line ≡ adds (gate_of names (words_of rest)) (begun names)
        line-gate e = by_words ∙ next-gate names word (words_of rest) goes_on e

  -- after .end
  pub line_after : step_of (done names) line ≡ stops 14
  unfolding next
  line_after = by_test (every is_plain line)
      (λ plain. step-next (done names) line word (words_of rest) c.split c.first refl plain)
      (λ plain. step_forbidden (done names) line word (words_of rest) c.split c.first refl plain)
