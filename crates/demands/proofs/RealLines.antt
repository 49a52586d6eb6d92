-- The .real form: what is read of a text is what is read of the lines that count, by their words.
use Prim.Native.Nat.{ℕ, suc}
use mathlib.Core.Path.{◌≡◌, refl, sym, ap, ◌∙◌}
use mathlib.Core.Bool.{true, false, ◌&&◌, false≢true}
use mathlib.Core.List.{List, [], ◌∷◌, ◌++◌, map}
use native.Mathlib.Omega.{arith}
use lib.ListN.{length}
use lib.Dec.{eqb, leb}
use borrow.Author.Tests.{eqb-true}
use Rattle.basics.specs.Lists.{All}
use Rattle.basics.proofs.Tests.{by_test, and_both, choice-true, choice-false}
use Rattle.text.specs.Texts.{ascii, every, begins, same}
use Rattle.text.specs.Decimal.{decimal}
use Rattle.text.proofs.SameLaws.{same_true}
use Rattle.text_words.specs.Words.{words_of}
use Rattle.real.specs.Form.{Stage, Step, is_letter, is_plain, is_gate, is_other, gate_due, next, step_with, step_of}
use Rattle.real.specs.Form.Stage.{start, versioned, counted, named, begun, done}
use Rattle.real.specs.Form.Step.{goes, adds, stops}
use Rattle.real.specs.Reading.{Reading, with_gate, at_end, onward, read_from}
use Rattle.real.specs.Reading.Reading.{circuit, faulty}
use Rattle.demands.proofs.FaultLists.{Kept}
use Rattle.demands.proofs.FaultLists.Kept.{none, stays, goes as leaves}
use Rattle.demands.proofs.RealForm.{Word, Skipped, Counts, Plain}
use Rattle.demands.proofs.RealForm.Skipped.{blank, comment}
use Rattle.demands.proofs.RealFormLaws.{every_means, means_every, plain_iff}

-- ---- readings that are circuits

pub clash {ℓ} : {A : Type ℓ} {k p n : ℕ} {words : List ℕ} → faulty k p ≡ circuit n words → A
clash e = let z : ◌≡◌ {A = ℕ} 0 1 = cc in absurd (omega arith)

pub same-circuit : {n m : ℕ} {ws vs : List ℕ} → circuit n ws ≡ circuit m vs → (n ≡ m) × (ws ≡ vs)
same-circuit e = (cc, cc)

pub gate-circuit : (g : List ℕ) (r : Reading) (n : ℕ) (words : List ℕ) → with_gate g r ≡ circuit n words
    → (rest : List ℕ) × (r ≡ circuit n rest) × (words ≡ g ++ rest)
gate-circuit g (circuit m rest) n words e = let w = same-circuit e in (rest, ap (λ k. circuit k rest) w.0, sym w.1)
gate-circuit g (faulty k p) n words e = clash e

end_any : (at other : ℕ) (s : Stage) (n : ℕ) (words : List ℕ) → at_end at s ≡ circuit n words → at_end other s ≡ circuit n words
end_any at other start n words e = clash e
end_any at other versioned n words e = clash e
end_any at other (counted number) n words e = clash e
end_any at other (named names parts) n words e = clash e
end_any at other (begun names) n words e = clash e
end_any at other (done names) n words e = e

-- ---- the lines that count

-- what is read of the words of some lines that count, from a stage on
unfoldable pub read_words : Stage → List (List Word) → Reading
read_words s [] = at_end 0 s
read_words s ([] ∷ lines) = faulty 14 0
read_words s ((w ∷ more) ∷ lines) = onward 0 (next s w more) (λ t. read_words t lines)

abbrev Counted : Stage → List (List ℕ) → ℕ → List ℕ → Type 0
Counted s ls n words =
    (lines : List (List ℕ)) × Kept Counts Skipped ls lines × All (All Plain) lines × (read_words s (map words_of lines) ≡ circuit n words)

comment_line : (l : List ℕ) (w : Word) (more : List Word) → words_of l ≡ w ∷ more → begins (eqb 35) w ≡ true → Skipped l
unfolding begins
comment_line l [] more e h = absurd (false≢true h)
comment_line l (b ∷ rest) more e h = comment rest more (e ∙ ap (λ c. (c ∷ rest) ∷ more) (sym (eqb-true 35 b h)))

no_hash : (l : List ℕ) (w : Word) (more : List Word) → words_of l ≡ w ∷ more → begins (eqb 35) w ≡ false → Counts l
unfolding begins
no_hash l w more e h (blank b) = let z : ◌≡◌ {A = ℕ} 0 1 = cc in absurd (omega arith)
no_hash l w more e h (comment rest others c) =
    let same : w ≡ 35 ∷ rest = cc in
    false≢true (sym h ∙ ap (begins (eqb 35)) same)

-- the first of some lines, from a stage on, given what is known of the others from every stage
module _ (at : ℕ) (s : Stage) (l : List ℕ) (ls : List (List ℕ)) (n : ℕ)
    (others : (t : Stage) (words : List ℕ) → read_from (suc at) t ls ≡ circuit n words → Counted t ls n words) where
  skipped : (words : List ℕ) → Skipped l → read_from (suc at) s ls ≡ circuit n words → Counted s (l ∷ ls) n words
  skipped words h e = let c = others s words e in (c.0, leaves h c.1, c.2, c.3)

  counts : (w : Word) (more : List Word) → words_of l ≡ w ∷ more → Counts l → All Plain l → (step : Step) → next s w more ≡ step
      → (words : List ℕ) → onward at step (λ t. read_from (suc at) t ls) ≡ circuit n words → Counted s (l ∷ ls) n words
  unfolding read_words
  counts w more split c plain (goes t) q words e =
      let r = others t words e in
      (l ∷ r.0, stays c r.1, (plain, r.2), rw (split, q) r.3)
  counts w more split c plain (adds g t) q words e =
      let v = gate-circuit g (read_from (suc at) t ls) n words e in
      let r = others t v.0 v.1 in
      (l ∷ r.0, stays c r.1, (plain, r.2), rw (split, q) (ap (with_gate g) r.3 ∙ ap (circuit n) (sym v.2)))
  counts w more split c plain (stops k) q words e = clash e

  first-line : (ws : List Word) → words_of l ≡ ws → (words : List ℕ) → onward at (step_with s l ws) (λ t. read_from (suc at) t ls) ≡ circuit n words
      → Counted s (l ∷ ls) n words
  unfolding step_with
  first-line [] q words e = skipped words (blank q) e
  first-line (w ∷ more) q words e = by_test (begins (eqb 35) w)
      (λ t. skipped words (comment_line l w more q t) (rw t at e))
      (λ t. by_test (gate_due s && is_other w)
      (λ o. clash (rw (t, o) at e))
      (λ o. by_test (every is_plain l)
      (λ p. counts w more q (no_hash l w more q t) (every_means is_plain Plain plain_iff l p) (next s w more) refl words (rw (t, o, p) at e))
      (λ p. clash (rw (t, o, p) at e))))

pub lines_counted : (at : ℕ) (s : Stage) (ls : List (List ℕ)) (n : ℕ) (words : List ℕ) → read_from at s ls ≡ circuit n words → Counted s ls n words
unfolding read_from step_of read_words
lines_counted at s [] n words e = ([], none, tt, end_any at 0 s n words e)
lines_counted at s (l ∷ ls) n words e = first-line at s l ls n (λ t ws f. lines_counted (suc at) t ls n ws f) (words_of l) refl words e

-- the other way round: a line that is skipped leads nowhere, and one that counts is read by its words, where it leads to a circuit

-- what stops by 15 would stop by 14 too
no_end : (w : Word) (more : List Word) → is_other w ≡ true → same w (ascii ".end") && eqb (length more) 0 ≡ false
unfolding is_other begins ascii is_letter
no_end w more o = by_test (same w (ascii ".end") && eqb (length more) 0)
    (λ e.
    let w-is = same_true w (ascii ".end") (and_both (same w (ascii ".end")) (eqb (length more) 0) e).0 in
    absurd (false≢true (ap is_other (sym w-is) ∙ o)))
    (λ e. e)

no_gate : (names : List Word) (w : Word) (more : List Word) → is_other w ≡ true → is_gate names w more ≡ false
unfolding is_gate is_other begins ascii is_letter
no_gate names w more o = by_test (is_gate names w more)
    (λ e.
    let t = ascii "t" ++ decimal (length more) in
    let w-is = same_true w t (and_both (leb 1 (length more)) (same w t) (and_both _ _ e).0).1 in
    absurd (false≢true (ap is_other (sym w-is) ∙ o)))
    (λ e. e)

other_stops : (s : Stage) (w : Word) (more : List Word) → gate_due s && is_other w ≡ true → next s w more ≡ stops 14
unfolding next is_gate
other_stops start w more e = absurd (false≢true e)
other_stops versioned w more e = absurd (false≢true e)
other_stops (counted number) w more e = absurd (false≢true e)
other_stops (named names parts) w more e = absurd (false≢true e)
other_stops (done names) w more e = absurd (false≢true e)
other_stops (begun names) w more e =
    choice-false (no_end w more e) _ _ ∙ choice-false (no_gate names w more e) _ _

skipped_step : (s : Stage) (l : List ℕ) → Skipped l → step_of s l ≡ goes s
unfolding step_of step_with begins
skipped_step s l (blank e) = ap (step_with s l) e
skipped_step s l (comment rest more e) = ap (step_with s l) e

-- what leads to a circuit leads there from any line on
onward-circuit : (at : ℕ) (step : Step) (f g : Stage → Reading) (n : ℕ)
    → ((t : Stage) (words : List ℕ) → f t ≡ circuit n words → g t ≡ circuit n words) → (words : List ℕ) → onward 0 step f ≡ circuit n words
    → onward at step g ≡ circuit n words
onward-circuit at (goes t) f g n h words e = h t words e
onward-circuit at (adds ws t) f g n h words e =
    let r = gate-circuit ws (f t) n words e in
    ap (with_gate ws) (h t r.0 r.1) ∙ ap (circuit n) (sym r.2)
onward-circuit at (stops k) f g n h words e = clash e

counted_step : (s : Stage) (l : List ℕ) (w : Word) (more : List Word) → words_of l ≡ w ∷ more → Counts l → All Plain l → gate_due s && is_other w ≡ false
    → step_of s l ≡ next s w more
unfolding step_of step_with
counted_step s l w more q c p o = ap (step_with s l) q
    ∙ choice-false (by_test (begins (eqb 35) w) (λ t. absurd (c (comment_line l w more q t))) (λ t. t)) _ _
    ∙ choice-false o _ _
    ∙ choice-true (means_every is_plain Plain plain_iff l p) _ _

module _ (at : ℕ) (s : Stage) (l : List ℕ) (counts : Counts l) (plain : All Plain l) (lines : List (List Word)) (n : ℕ) (rest : Stage → Reading)
    (others : (t : Stage) (words : List ℕ) → read_words t lines ≡ circuit n words → rest t ≡ circuit n words) where
  line_read : (ws : List Word) → words_of l ≡ ws → (words : List ℕ) → read_words s (ws ∷ lines) ≡ circuit n words
      → onward at (step_of s l) rest ≡ circuit n words
  unfolding read_words
  line_read [] q words e = absurd (counts (blank q))
  line_read (w ∷ more) q words e = by_test (gate_due s && is_other w)
      (λ o. clash (rw (other_stops s w more o) at e))
      (λ o. ap (λ step. onward at step rest) (counted_step s l w more q counts plain o)
      ∙ onward-circuit at (next s w more) (λ t. read_words t lines) rest n others words e)

pub counted_lines : (at : ℕ) (s : Stage) (ls lines : List (List ℕ)) → Kept Counts Skipped ls lines → All (All Plain) lines → (n : ℕ) (words : List ℕ)
    → read_words s (map words_of lines) ≡ circuit n words → read_from at s ls ≡ circuit n words
unfolding read_from read_words
counted_lines at s ls lines none p n words e = end_any 0 at s n words e
counted_lines at s ls lines (stays {a = l} {ys = more} {zs = kept} c k) p n words e =
    line_read at s l c p.0 (map words_of kept) n (λ t. read_from (suc at) t more)
    (λ t ws f. counted_lines (suc at) t more kept k p.1 n ws f) (words_of l) refl words e
counted_lines at s ls lines (leaves {a = l} {ys = more} h k) p n words e =
    ap (λ step. onward at step (λ t. read_from (suc at) t more)) (skipped_step s l h) ∙ counted_lines (suc at) s more lines k p n words e
