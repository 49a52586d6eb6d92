-- Laws of one line, by each outcome of its tests.
use Prim.Native.Nat.{ℕ}
use mathlib.Core.Path.{◌≡◌, ap, ◌∙◌}
use mathlib.Core.Bool.{true, false, ◌&&◌}
use mathlib.Core.List.{List, [], ◌∷◌}
use lib.ListN.{length}
use lib.Dec.{eqb}
use Rattle.basics.proofs.Tests.{choice-true, choice-false}
use Rattle.text.specs.Texts.{ascii, begins, every, same}
use Rattle.text_words.specs.Words.{words_of}
use Rattle.real.specs.Form.{Word, Stage, is_plain, is_other, is_gate, gate_of, gate_due, next, step_with, step_of}
use Rattle.real.specs.Form.Stage.{begun, done}
use Rattle.real.specs.Form.Step.{goes, adds, stops}

module _ (s : Stage) (line : List ℕ) where
  -- a blank line
  pub step_blank : words_of line ≡ [] → step_of s line ≡ goes s
  unfolding step_of step_with
  step_blank e = ap (step_with s line) e

  module _ (word : Word) (more : List Word) (words : words_of line ≡ word ∷ more) where
    pub step_comment : begins (eqb 35) word ≡ true → step_of s line ≡ goes s
    unfolding step_of step_with
    step_comment e = ap (step_with s line) words ∙ choice-true e _ _

    module _ (counts : begins (eqb 35) word ≡ false) where
      pub step_other : (gate_due s && is_other word) ≡ true → step_of s line ≡ stops 15
      unfolding step_of step_with
      step_other e = ap (step_with s line) words ∙ choice-false counts _ _ ∙ choice-true e _ _

      module _ (known : (gate_due s && is_other word) ≡ false) where
        pub step_forbidden : every is_plain line ≡ false → step_of s line ≡ stops 14
        unfolding step_of step_with
        step_forbidden e = ap (step_with s line) words ∙ choice-false counts _ _ ∙ choice-false known _ _ ∙ choice-false e _ _

        pub step-next : every is_plain line ≡ true → step_of s line ≡ next s word more
        unfolding step_of step_with
        step-next e = ap (step_with s line) words ∙ choice-false counts _ _ ∙ choice-false known _ _ ∙ choice-true e _ _

-- where a gate or .end is due
module _ (names : List Word) (word : Word) (more : List Word) where
  pub next_end : (same word (ascii ".end") && eqb (length more) 0) ≡ true → next (begun names) word more ≡ goes (done names)
  unfolding next
  next_end e = choice-true e _ _

  module _ (goes_on : (same word (ascii ".end") && eqb (length more) 0) ≡ false) where
    pub next-gate : is_gate names word more ≡ true → next (begun names) word more ≡ adds (gate_of names more) (begun names)
    unfolding next
    next-gate e = choice-false goes_on _ _ ∙ choice-true e _ _

    pub next_none : is_gate names word more ≡ false → next (begun names) word more ≡ stops 14
    unfolding next
    next_none e = choice-false goes_on _ _ ∙ choice-false e _ _
