-- Laws of the optional lines of the .real form: the tests of the reading are the words of the grammar.
use Prim.Native.Nat.{ℕ, zero, suc}
use mathlib.Core.Path.{◌≡◌, refl, sym, ap, ap₂, ◌∙◌}
use mathlib.Core.Logic.{◌≢◌, ⊎_elim}
use mathlib.Core.Bool.{Bool, true, false, not, ◌||◌, false≢true}
use mathlib.Core.List.Memᴰ
use mathlib.Core.List.{List, [], ◌∷◌}
use native.Mathlib.Omega.{arith}
use lib.ListN.{length, replicate, length-replicate}
use lib.Dec.{eqb}
use borrow.Author.Tests.{eqb-true, eq-eqb, ne_eqb}
use Rattle.basics.specs.Lists.{some, keep}
use Rattle.basics.proofs.Tests.{by_test, and_both, and-true, or_left, or_right}
use Rattle.text.specs.Texts.{ascii, every, same, among}
use Rattle.text.proofs.SameLaws.{same_true}
use Rattle.real.specs.Form.{is_constants, optional_parts}
use Rattle.demands.proofs.RealForm.{Word, Optional}
use Rattle.demands.proofs.RealForm.Optional.{inputs, outputs, garbage, constants}
use Rattle.demands.proofs.RealFormLaws.{text_iff, differs, among_mean}

-- the parts that may still come: those that came are out
pub part_kept : (w v : Word) (parts : List Word) → among v (keep (λ p. not (same p w)) parts) ≡ true → (among v parts ≡ true) × (w ≢ v)
unfolding among some keep
part_kept w v [] e = absurd (false≢true e)
part_kept w v (p ∷ parts) e = by_test (same p w)
    (λ s. let r = part_kept w v parts (rw s at e) in (or_right (same v p) r.0, r.1))
    (λ s. by_test (same v p)
    (λ q. (or_left (some (same v) parts) q, λ z. false≢true (sym s ∙ (text_iff p w).1 (sym (same_true v p q) ∙ sym z))))
    (λ q. let r = part_kept w v parts (rw (s, q) at e) in (or_right (same v p) r.0, r.1)))

pub kept_part : (w v : Word) (parts : List Word) → among v parts ≡ true → w ≢ v → among v (keep (λ p. not (same p w)) parts) ≡ true
unfolding among some keep
kept_part w v [] e d = absurd (false≢true e)
kept_part w v (p ∷ parts) e d = by_test (same p w)
    (λ s.
    let none : same v p ≡ false = differs v p (λ z. d (sym (same_true p w s) ∙ sym z)) in
    rw s (kept_part w v parts (rw none at e) d))
    (λ s. rw s (by_test (same v p) (λ q. or_left _ q) (λ q. or_right (same v p) (kept_part w v parts (rw q at e) d))))

-- one word of n hyphens
hyphens : (n : ℕ) (t : Word) → length t ≡ n → every (eqb 45) t ≡ true → t ≡ replicate n 45
unfolding every
hyphens zero [] h e = refl
hyphens zero (b ∷ t) h e = absurd (omega arith)
hyphens (suc n) [] h e = absurd (omega arith)
hyphens (suc n) (b ∷ t) h e =
    let w = and_both (eqb 45 b) (every (eqb 45) t) e in
    ap₂ (λ x l. x ∷ l) (sym (eqb-true 45 b w.0)) (hyphens n t (omega arith) w.1)

all_hyphens : (n : ℕ) → every (eqb 45) (replicate n 45) ≡ true
unfolding every
all_hyphens zero = refl
all_hyphens (suc n) = all_hyphens n

constants_mean : (n : ℕ) (more : List Word) → is_constants n more ≡ true → more ≡ replicate n 45 ∷ []
unfolding is_constants
constants_mean n [] e = absurd (false≢true e)
constants_mean n (t ∷ []) e =
    let w = and_both (eqb (length t) n) (every (eqb 45) t) e in
    ap (λ l. l ∷ []) (hyphens n t (eqb-true (length t) n w.0) w.1)
constants_mean n (t ∷ u ∷ more) e = absurd (false≢true (sym (ne_eqb (suc (suc (length more))) 1 (λ z. omega arith)) ∙ (and_both _ _ e).0))

mean_constants : (n : ℕ) → is_constants n (replicate n 45 ∷ []) ≡ true
unfolding is_constants
mean_constants n = and-true (eq-eqb (length (replicate n 45)) n (length-replicate n 45)) (all_hyphens n)

-- the test of an optional line
abbrev pub part_ok : ℕ → Word → List Word → Bool
part_ok n w more = not (same w (ascii ".constants")) || is_constants n more

pub optional_means : (n : ℕ) (w : Word) (more : List Word) → among w optional_parts ≡ true → part_ok n w more ≡ true → Optional n (w ∷ more)
unfolding optional_parts
optional_means n w more e ok =
    let m = among_mean w (ascii ".inputs" ∷ ascii ".outputs" ∷ ascii ".garbage" ∷ ascii ".constants" ∷ []) e in
    ⊎_elim (λ q. inputs more (ap (λ v. v ∷ more) q))
    (λ m. ⊎_elim (λ q. outputs more (ap (λ v. v ∷ more) q))
    (λ m. ⊎_elim (λ q. garbage more (ap (λ v. v ∷ more) q))
    (λ m. ⊎_elim
    (λ q. constants (ap₂ (λ v l. v ∷ l) q (constants_mean n more (rw ((text_iff w (ascii ".constants")).1 q) at ok))))
    (λ m. absurd (Memᴰ.not-nil m))
    (Memᴰ.cases_cons m)) (Memᴰ.cases_cons m)) (Memᴰ.cases_cons m)) (Memᴰ.cases_cons m)

-- an optional line passes it, and is no .begin
pub record Passes (n : ℕ) (line : List Word) : Type 0 where
  pub word : Word
  pub more : List Word
  pub line-is : line ≡ word ∷ more
  pub part : among word optional_parts ≡ true
  pub ok : part_ok n word more ≡ true
  pub no_begin : same word (ascii ".begin") ≡ false

pub optional_passes : (n : ℕ) (line : List Word) → Optional n line → Passes n line
unfolding ascii same among some optional_parts
optional_passes n line (inputs more e) = record { word = ascii ".inputs"; more = more; line-is = e; part = refl; ok = refl; no_begin = refl }
optional_passes n line (outputs more e) = record { word = ascii ".outputs"; more = more; line-is = e; part = refl; ok = refl; no_begin = refl }
optional_passes n line (garbage more e) = record { word = ascii ".garbage"; more = more; line-is = e; part = refl; ok = refl; no_begin = refl }
optional_passes n line (constants e) = record {
  word = ascii ".constants";
  more = replicate n 45 ∷ [];
  line-is = e;
  part = refl;
  ok = mean_constants n;
  no_begin = refl;
}
