-- Different verdicts tell different things, and so do different answers of a vector that is added, with the coverages that they hand back.
use Rattle.std.specs.Prelude.{ℕ, ◌≡◌, Option, Some, None, Result, Ok, Err, [], ◌∷◌, refl}
use Rattle.std.proofs.Common.{arith}
use Rattle.refusals.specs.Tables.Told.{answered}
use Rattle.refusals.proofs.Clashes.{answered-refused, refused-answered}
use Rattle.refusals.proofs.OneAnswer.{refusal-one}
use Rattle.faults.specs.declared.Fault.{Fault}
use Rattle.marking.specs.Firsts.{told_first}
use Rattle.judge.specs.Added.{told_added, handed_back}
use Rattle.judge.specs.Answers.{verdict_values}
use Rattle.judge.specs.declared.Verdict.{Verdict}
use Rattle.judge.specs.declared.coverage.Coverage.{Coverage}
use Rattle.judge.specs.declared.coverage.Unchanged.{Unchanged}

-- a verdict that shows a fault is not a complete one
pub shown_complete {ℓ} : {A : Type ℓ} {a b c d k p l v : ℕ}
    → answered (a ∷ b ∷ 0 ∷ k ∷ p ∷ l ∷ v ∷ []) ≡ answered (c ∷ d ∷ 1 ∷ 0 ∷ 0 ∷ 0 ∷ 0 ∷ []) → A
shown_complete e = let z : ◌≡◌ {A = ℕ} 0 1 = cc in absurd (omega arith)

equal_fields : (f h : Fault) → f.class ≡ h.class → f.place ≡ h.place → f.line ≡ h.line → f.value ≡ h.value → f ≡ h
equal_fields f h c p l v = λ i. record { class = c i; place = p i; line = l i; value = v i }

told_first-one : (f h : Option Fault) → told_first f ≡ told_first h → f ≡ h
told_first-one None None e = refl
told_first-one None (Some h) e = let z : ◌≡◌ {A = ℕ} 1 0 = cc in absurd (omega arith)
told_first-one (Some f) None e = let z : ◌≡◌ {A = ℕ} 0 1 = cc in absurd (omega arith)
told_first-one (Some f) (Some h) e = let same : f ≡ h = equal_fields f h (cc) (cc) (cc) (cc) in cc

pub verdict_values-one : (v w : Verdict) → verdict_values v ≡ verdict_values w → v ≡ w
verdict_values-one v w e =
    let caught : v.caught ≡ w.caught = cc in
    let total : v.total ≡ w.total = cc in
    let told : told_first v.first ≡ told_first w.first = cc in
    let first = told_first-one v.first w.first told in
    λ i. record { caught = caught i; total = total i; first = first i }

-- ---- a vector that is added

unchanged-one : (p q : Unchanged) → p.refusal ≡ q.refusal → p.coverage ≡ q.coverage → p ≡ q
unchanged-one p q r c = λ i. record { refusal = r i; coverage = c i }

pub added-one : (r s : Result Coverage Unchanged) → told_added r ≡ told_added s → handed_back r ≡ handed_back s → r ≡ s
added-one (Ok c) (Ok d) e f = cc
added-one (Ok c) (Err q) e f = answered-refused e
added-one (Err p) (Ok d) e f = refused-answered e
added-one (Err p) (Err q) e f = let same : p ≡ q = unchanged-one p q (refusal-one p.refusal q.refusal e) f in cc
