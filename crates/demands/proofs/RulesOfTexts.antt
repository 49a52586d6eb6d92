-- Rules 15 and 14 in words: which line of a text is its first faulty one, and by which of the two it is refused.
use Prim.Native.Nat.{ℕ, ◌+◌, ◌-◌, ◌≤◌}
use mathlib.Core.Path.{◌≡◌, refl, sym, ap, ◌∙◌, subst}
use mathlib.Core.Logic.Iff
use mathlib.Core.Logic.{◌↔◌, ◌≢◌, ◌⊎◌, ⊎_elim, by_cases}
use mathlib.Core.Logic.◌⊎◌.{inl, inr}
use mathlib.Core.Bool.{true, false, not, ◌&&◌, false≢true}
use mathlib.Core.List.{List, [], ◌∷◌}
use native.Mathlib.Decide.{dec_le}
use native.Mathlib.Omega.{arith}
use lib.ListN.{length, take, get_or}
use lib.Dec.{eqb, leb}
use borrow.Author.Tests.{leb-true, le-leb, eqb-true, eq-eqb, ne_eqb}
use Rattle.basics.proofs.Tests.{by_test, not_eqb_iff, and_both, and-true}
use Rattle.refusals.specs.Places.{in_word}
use Rattle.text.specs.Texts.{begins, every}
use Rattle.text_words.specs.Words.{lines_of, words_of}
use Rattle.real.specs.Form.{Word, Stage, is_letter, is_other, is_plain, gate_due, next, step_with, step_of}
use Rattle.real.specs.Form.Stage.{start, versioned, counted, named, begun, done}
use Rattle.real.specs.Form.Step.{goes, stops}
use Rattle.real.specs.Reading.{Reading, at_end, reading}
use Rattle.real.specs.Reading.Reading.{circuit, faulty}
use Rattle.real.proofs.StepLaws.{step_other}
use Rattle.real.proofs.FirstFaulty.{Leads, Passed, Stops, first-faulty, faulty-first}
use Rattle.real.proofs.NumberLaws.{by_next, by_step}
use Rattle.real_import.specs.Rules.{is_refused, faulty_line}
use Rattle.real_import.proofs.RuleLaws.{reads}
use Rattle.demands.proofs.RuleWords.{Words, InWords, AsWord, in_word_lem, either}

-- ---- the words

-- a line of a text, counted from 1
abbrev pub line_of : List ℕ → ℕ → List ℕ
line_of text q = get_or (lines_of text) (q - 1) []

-- every line before it leads on, each from what is due to what is due next, and this is due where it stands
abbrev pub LeadTo : List ℕ → ℕ → Stage → Type 0
LeadTo text q due = Passed start (take (q - 1) (lines_of text)) due

-- a line's first word begins with a letter, A (65) to Z (90) or a (97) to z (122), other than t (116)
pub record OtherLetter (line : List ℕ) : Type 0 where
  pub first : ℕ
  pub rest : Word
  pub more : List Word
  pub stands : words_of line ≡ (first ∷ rest) ∷ more
  pub letter : ((65 ≤ first) × (first ≤ 90)) ⊎ ((97 ≤ first) × (first ≤ 122))
  pub other : first ≢ 116

-- a gate, or .end, is due
abbrev pub GateDue : Stage → Type 0
GateDue due = (names : List Word) × (due ≡ begun names)

-- 15: every line before leads on, a gate is due, and the line begins with another letter than t
pub record OtherToken (text : List ℕ) (q : ℕ) : Type 0 where
  pub due : Stage
  pub before : LeadTo text q due
  pub from_1 : 1 ≤ q
  pub in_text : q ≤ length (lines_of text)
  pub gate : GateDue due
  pub token : OtherLetter (line_of text q)

-- a line leads to nothing that may be due next
abbrev pub LeadsNowhere : Stage → List ℕ → Type 0
LeadsNowhere due line = (next : Stage) → Leads (step_of due line) next → ⊥

-- something is still due
abbrev pub StillDue : Stage → Type 0
StillDue due = (names : List Word) → due ≡ done names → ⊥

-- 14: every line before leads on, and this one does not, in another way than by 15; or it is the one after the last, and something is still due
pub record NotOfForm (text : List ℕ) (q : ℕ) : Type 0 where
  pub due : Stage
  pub before : LeadTo text q due
  pub faulty_there : ((1 ≤ q) × (q ≤ length (lines_of text)) × LeadsNowhere due (line_of text q) × (GateDue due → OtherLetter (line_of text q) → ⊥))
      ⊎ ((q ≡ length (lines_of text) + 1) × StillDue due)

-- a rule that is given at a line, and kept where no line is such
abbrev pub AtLine : (ℕ → Type 0) → Words
AtLine Faulty = AsWord (record { Given = Faulty; Kept = (q : ℕ) → Faulty q → ⊥ })

abbrev pub OtherTokens : List ℕ → Words
OtherTokens text = AtLine (OtherToken text)

abbrev pub TextForm : List ℕ → Words
TextForm text = AtLine (NotOfForm text)

-- ---- a line that is refused by 15

letter_is : (b : ℕ) → (is_letter b ≡ true) ↔ (((65 ≤ b) × (b ≤ 90)) ⊎ ((97 ≤ b) × (b ≤ 122)))
unfolding is_letter
letter_is b = either (leb 65 b && leb b 90) (leb 97 b && leb b 122) (between 65 90) (between 97 122)
  where
    between : (low high : ℕ) → ((leb low b && leb b high) ≡ true) ↔ ((low ≤ b) × (b ≤ high))
    between low high = (
      λ e. let w = and_both (leb low b) (leb b high) e in (leb-true low b w.0, leb-true b high w.1),
      λ w. and-true (le-leb low b w.0) (le-leb b high w.1),
    )

module _ (line : List ℕ) where
  other_letter : (word : Word) (more : List Word) → words_of line ≡ word ∷ more → is_other word ≡ true → OtherLetter line
  unfolding is_other begins
  other_letter [] more e t = absurd (false≢true t)
  other_letter (b ∷ rest) more e t =
      let w = and_both (is_letter b) (not (eqb b 116)) t in
      record { first = b; rest = rest; more = more; stands = e; letter = (letter_is b).0 w.0; other = (not_eqb_iff b 116).0 w.1 }

  is_other_lem : (w : OtherLetter line) → is_other (w.first ∷ w.rest) ≡ true
  unfolding is_other begins
  is_other_lem w = and-true ((letter_is w.first).1 w.letter) ((not_eqb_iff w.first 116).1 w.other)

  no_comment : (w : OtherLetter line) → begins (eqb 35) (w.first ∷ w.rest) ≡ false
  unfolding begins
  no_comment w = ne_eqb 35 w.first (λ e. ⊎_elim (λ v. omega (arith, v.0)) (λ v. omega (arith, v.0)) w.letter)

due_gate : (due : Stage) → gate_due due ≡ true → GateDue due
due_gate start e = absurd (false≢true e)
due_gate versioned e = absurd (false≢true e)
due_gate (counted number) e = absurd (false≢true e)
due_gate (named names parts) e = absurd (false≢true e)
due_gate (begun names) e = (names, refl)
due_gate (done names) e = absurd (false≢true e)

clash : (k m : ℕ) → stops k ≡ stops m → k ≡ m
clash k m e = cc

-- only another gate token is refused by 15
not_fifteen : (due : Stage) (word : Word) (more : List Word) → next due word more ≡ stops 15 → ⊥
not_fifteen due word more = by_next (λ step. step ≡ stops 15 → ⊥)
    (λ stage e. let z : ◌≡◌ {A = ℕ} 0 1 = cc in omega arith)
    (λ words stage e. let z : ◌≡◌ {A = ℕ} 0 1 = cc in omega arith)
    (λ e. omega (arith, clash 14 15 e)) due word more

module _ (due : Stage) (line : List ℕ) where
  fifteen_with : (words : List Word) → words_of line ≡ words → step_with due line words ≡ stops 15 → GateDue due × OtherLetter line
  unfolding step_with
  fifteen_with [] e s = let z : ◌≡◌ {A = ℕ} 0 1 = cc in absurd (omega arith)
  fifteen_with (word ∷ more) e s = by_test (begins (eqb 35) word)
      (λ c. let skipped : goes due ≡ stops 15 = rw c at s in let z : ◌≡◌ {A = ℕ} 0 1 = cc in absurd (omega arith))
      (λ c. by_test (gate_due due && is_other word)
      (λ t. let w = and_both (gate_due due) (is_other word) t in (due_gate due w.0, other_letter line word more e w.1))
      (λ t. by_test (every is_plain line)
      (λ p. absurd (not_fifteen due word more (rw (c, t, p) at s)))
      (λ p. let fourteen : stops 14 ≡ stops 15 = rw (c, t, p) at s in absurd (omega (arith, clash 14 15 fourteen)))))

  pub fifteen : (step_of due line ≡ stops 15) ↔ (GateDue due × OtherLetter line)
  unfolding step_of
  fifteen = (
    fifteen_with (words_of line) refl,
    λ w.
        let o = w.1 in
        let gate : gate_due due ≡ true = ap gate_due w.0.1 in
        step_other due line (o.first ∷ o.rest) o.more o.stands (no_comment line o) (and-true gate (is_other_lem line o)),
  )

  -- any other that does not lead on is refused by 14
  pub fourteen : (step_of due line ≡ stops 14) ↔ (LeadsNowhere due line × (GateDue due → OtherLetter line → ⊥))
  fourteen = (
    λ e. (
      λ next lead. rw e at lead,
      λ gate letter. omega (arith, clash 14 15 (sym e ∙ fifteen.1 (gate, letter))),
    ),
    λ w. by_step (λ step. step_of due line ≡ step → step_of due line ≡ stops 14)
        (λ stage e. absurd (w.0 stage (rw e refl)))
        (λ words stage e. absurd (w.0 stage (rw e refl)))
        (λ e. e)
        (λ e. let v = fifteen.0 e in absurd (w.1 v.0 v.1)) due line refl,
  )

-- ---- the line where a reading stops

still_due : (due : Stage) → StillDue due → (at : ℕ) → at_end at due ≡ faulty 14 at
still_due start w at = refl
still_due versioned w at = refl
still_due (counted number) w at = refl
still_due (named names parts) w at = refl
still_due (begun names) w at = refl
still_due (done names) w at = absurd (w names refl)

same_number : (k m p q : ℕ) → faulty k p ≡ faulty m q → k ≡ m
same_number k m p q e = cc

ends_by : (due : Stage) (k at : ℕ) → at_end at due ≡ faulty k at → (k ≡ 14) × StillDue due
ends_by due k at e = (sym (same_number 14 k at at (sym (still_due due due_is at) ∙ e)), due_is)
  where
    due_is : StillDue due
    due_is names done-is = let z : ◌≡◌ {A = ℕ} 0 1 = cc in omega arith

module _ (text : List ℕ) where
  abbrev pub Stopped : ℕ → ℕ → Type 0
  Stopped k q = (1 ≤ q) × Stops start (lines_of text) k (q - 1)

  pub stopped : (k q : ℕ) → (reading text ≡ faulty k q) ↔ Stopped k q
  unfolding reading
  stopped k q = (
    λ e.
        let r = first-faulty 1 start (lines_of text) k q e in
        let same : r.0 ≡ q - 1 = omega (arith, r.1) in
        (omega (arith, r.1), subst (Stops start (lines_of text) k) same r.2),
    λ w. faulty-first 1 start (lines_of text) k (q - 1) w.1 ∙ ap (faulty k) (omega (arith, w.0)),
  )

  -- in the text, or after its last line
  by_line : {C : Type 0} (k q : ℕ) → Stopped k q → (q ≤ length (lines_of text) → C) → (q ≡ length (lines_of text) + 1 → C) → C
  by_line k q w within after = by_cases (dec_le q (length (lines_of text))) within (λ beyond. after (omega (arith, w.0, w.1.within)))

  other_token : (q : ℕ) → Stopped 15 q ↔ OtherToken text q
  other_token q = (
    λ w.
        let s = w.1 in
        by_line 15 q w
        (λ h.
        let v = (fifteen s.stage (line_of text q)).0 (s.refused (omega arith)) in
        record { due = s.stage; before = s.passed; from_1 = w.0; in_text = h; gate = v.0; token = v.1 })
        (λ h. absurd (omega (arith, (ends_by s.stage 15 0 (s.ended (omega arith) 0)).0))),
    λ w. (
      w.from_1,
      record {
        stage = w.due;
        within = omega (arith, w.in_text);
        passed = w.before;
        refused = λ h. (fifteen w.due (line_of text q)).1 (w.gate, w.token);
        ended = λ h. absurd (omega (arith, w.in_text, w.from_1));
      },
    ),
  )

  not_of_form : (q : ℕ) → Stopped 14 q ↔ NotOfForm text q
  not_of_form q = (
    λ w.
        let s = w.1 in
        record {
          due = s.stage;
          before = s.passed;
          faulty_there = by_line 14 q w
              (λ h. let v = (fourteen s.stage (line_of text q)).0 (s.refused (omega arith)) in inl (w.0, h, v.0, v.1))
              (λ h. inr (h, (ends_by s.stage 14 0 (s.ended (omega arith) 0)).1));
        },
    λ w. ⊎_elim
        (λ v. (
          v.0,
          record {
            stage = w.due;
            within = omega (arith, v.1);
            passed = w.before;
            refused = λ h. (fourteen w.due (line_of text q)).1 (v.2, v.3);
            ended = λ h. absurd (omega (arith, v.0, v.1));
          },
        ))
        (λ v. (
          omega (arith, v.0),
          record {
            stage = w.due;
            within = omega (arith, v.0);
            passed = w.before;
            refused = λ h. absurd (omega (arith, v.0));
            ended = λ h. still_due w.due v.1;
          },
        ))
        w.faulty_there,
  )

-- ---- the rules

refused_at : (k : ℕ) (read : Reading) (q : ℕ) → ((is_refused k read ≡ true) × (faulty_line read ≡ q)) ↔ (read ≡ faulty k q)
refused_at k (circuit n words) q = (λ w. absurd (false≢true w.0), λ e. let z : ◌≡◌ {A = ℕ} 0 1 = cc in absurd (omega arith))
refused_at k (faulty told line) q = (
  λ w. let number = eqb-true told k w.0 in (λ i. faulty (number i) (w.1 i)),
  λ e. (eq-eqb told k (same_number told k line q e), cc),
)

none_refused : (k : ℕ) (read : Reading) → (is_refused k read ≡ false) ↔ ((q : ℕ) → read ≡ faulty k q → ⊥)
none_refused k read = (
  λ e q f. false≢true (sym e ∙ ((refused_at k read q).1 f).0),
  λ none. by_test (is_refused k read) (λ t. absurd (none (faulty_line read) ((refused_at k read (faulty_line read)).0 (t, refl)))) (λ t. t),
)

module _ (text : List ℕ) where
  line_rule : (k : ℕ) {Faulty : ℕ → Type 0} → ((q : ℕ) → (reading text ≡ faulty k q) ↔ Faulty q)
      → InWords (in_word (faulty_line (reading text))) (is_refused k (reading text)) (AtLine Faulty)
  line_rule k means = in_word_lem (record {
    given = λ q. Iff.trans (refused_at k (reading text) q) (means q);
    not_given = (
      λ e q w. (none_refused k (reading text)).0 e q ((means q).1 w),
      λ none. (none_refused k (reading text)).1 (λ q e. none q ((means q).0 e)),
    );
  })

  pub other_tokens_rule : InWords (in_word (faulty_line (reading text))) (is_refused 15 (reading text)) (OtherTokens text)
  other_tokens_rule = line_rule 15 (λ q. Iff.trans (stopped text 15 q) (other_token text q))

  pub text_form_rule : InWords (in_word (faulty_line (reading text))) (is_refused 14 (reading text)) (TextForm text)
  text_form_rule = line_rule 14 (λ q. Iff.trans (stopped text 14 q) (not_of_form text q))

  -- both are kept exactly if the text reads as a circuit, whose rules come then
  pub kept_reads : ((OtherTokens text).Kept × (TextForm text).Kept) ↔ ((n : ℕ) × (words : List ℕ) × (reading text ≡ circuit n words))
  kept_reads = (
    λ w. reads text (other_tokens_rule.not_given.1 w.0) (text_form_rule.not_given.1 w.1),
    λ w. (other_tokens_rule.not_given.0 (ap (is_refused 15) w.2), text_form_rule.not_given.0 (ap (is_refused 14) w.2)),
  )
