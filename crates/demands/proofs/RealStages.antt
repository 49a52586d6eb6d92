-- The .real form, stage by stage: the words of the lines that count are read as a circuit exactly if they say it.
use Prim.Native.Nat.{ℕ, suc, ◌≤◌}
use mathlib.Core.Path.{◌≡◌, refl, sym, ap, ap₂, ◌∙◌, subst}
use mathlib.Core.Logic.{◌≢◌}
use mathlib.Core.Bool.{Bool, true, false, not, ◌&&◌}
use mathlib.Core.List.{List, [], ◌∷◌, ◌++◌, map}
use native.Mathlib.Omega.{arith}
use lib.ListN.{length, get_or}
use lib.Dec.{eqb}
use borrow.Author.Tests.{eqb-true}
use Rattle.basics.specs.Choice.{choice}
use Rattle.basics.specs.Lists.{keep, All}
use Rattle.basics.proofs.Tests.{by_test, and_both, and-true, choice-true, choice-false}
use Rattle.circuit.specs.declared.Gate.{Gate}
use Rattle.text.specs.Texts.{ascii, every, same, among, distinct}
use Rattle.text.specs.Decimal.{decimal, is_number}
use Rattle.text.proofs.SameLaws.{same_refl, same_true}
use Rattle.text.proofs.DecimalLaws.{number_of}
use Rattle.text_words.specs.Words.{words_of}
use Rattle.real.specs.Form.{Stage, is_name, is_gate, optional_parts, gate_of, next}
use Rattle.real.specs.Form.Stage.{start, versioned, counted, named, begun, done}
use Rattle.real.specs.Form.Step.{goes, adds, stops}
use Rattle.real.specs.Reading.{Reading, with_gate, onward}
use Rattle.real.specs.Reading.Reading.{circuit}
use Rattle.demands.proofs.Machine.{flat}
use Rattle.demands.proofs.RealForm.{Word, Name, Once, Optional, kind, SayGates, SayCircuit}
use Rattle.demands.proofs.RealFormLaws.{words-some, names_mean, mean_names, distinct_mean, mean_distinct, gate_said, gate_means, gate_tested}
use Rattle.demands.proofs.RealParts.{part_kept, kept_part, part_ok, optional_means, optional_passes}
use Rattle.demands.proofs.RealLines.{clash, same-circuit, gate-circuit, read_words}

-- ---- from words that are read as a circuit, stage by stage

when-goes : (test : Bool) (t : Stage) (f : Stage → Reading) (n : ℕ) (words : List ℕ)
    → onward 0 (choice test (goes t) (stops 14)) f ≡ circuit n words → (test ≡ true) × (f t ≡ circuit n words)
when-goes true t f n words e = (refl, e)
when-goes false t f n words e = clash e

alone : (more : List Word) → eqb (length more) 0 ≡ true → more ≡ []
alone [] e = refl
alone (w ∷ more) e = let z = eqb-true (suc (length more)) 0 e in absurd (omega arith)

one_word : (more : List Word) → eqb (length more) 1 ≡ true → more ≡ get_or more 0 [] ∷ []
one_word [] e = let z = eqb-true 0 1 e in absurd (omega arith)
one_word (w ∷ []) e = refl
one_word (w ∷ v ∷ more) e = let z = eqb-true (suc (suc (length more))) 1 e in absurd (omega arith)

-- a line of each stage before the names are known
module _ (n : ℕ) (words : List ℕ) where
  version_read : (lines : List (List Word)) → read_words start lines ≡ circuit n words
      → (version : List Word) × (rest : List (List Word)) × (lines ≡ (ascii ".version" ∷ version) ∷ rest)
      × (read_words versioned rest ≡ circuit n words)
  unfolding read_words next
  version_read [] e = clash e
  version_read ([] ∷ rest) e = clash e
  version_read ((w ∷ more) ∷ rest) e =
      let r = when-goes (same w (ascii ".version")) versioned (λ t. read_words t rest) n words e in
      (more, rest, ap (λ v. (v ∷ more) ∷ rest) (same_true w (ascii ".version") r.0), r.1)

  numvars_read : (lines : List (List Word)) → read_words versioned lines ≡ circuit n words
      → (number : Word) × (rest : List (List Word)) × (lines ≡ (ascii ".numvars" ∷ number ∷ []) ∷ rest)
      × (read_words (counted number) rest ≡ circuit n words)
  unfolding read_words next
  numvars_read [] e = clash e
  numvars_read ([] ∷ rest) e = clash e
  numvars_read ((w ∷ more) ∷ rest) e =
      let number = get_or more 0 [] in
      let one = eqb (length more) 1 in
      let r = when-goes (same w (ascii ".numvars") && (one && is_number number)) (counted number) (λ t. read_words t rest) n words e in
      let u = and_both (same w (ascii ".numvars")) (one && is_number number) r.0 in (
        number,
        rest,
        ap₂ (λ v l. (v ∷ l) ∷ rest) (same_true w (ascii ".numvars") u.0) (one_word more (and_both one (is_number number) u.1).0),
        r.1,
      )

  variables_read : (number : Word) (lines : List (List Word)) → read_words (counted number) lines ≡ circuit n words
      → (names : List Word) × (rest : List (List Word)) × (lines ≡ (ascii ".variables" ∷ names) ∷ rest) × (every is_name names ≡ true)
      × (distinct names ≡ true) × (number ≡ decimal (length names)) × (read_words (named names optional_parts) rest ≡ circuit n words)
  unfolding read_words next
  variables_read number [] e = clash e
  variables_read number ([] ∷ rest) e = clash e
  variables_read number ((w ∷ more) ∷ rest) e =
      let count = same number (decimal (length more)) in
      let r = when-goes (same w (ascii ".variables") && (every is_name more && (distinct more && count))) (named more optional_parts)
      (λ t. read_words t rest) n words e in
      let u = and_both (same w (ascii ".variables")) (every is_name more && (distinct more && count)) r.0 in
      let v = and_both (every is_name more) (distinct more && count) u.1 in
      let x = and_both (distinct more) count v.1 in (
        more,
        rest,
        ap (λ v. (v ∷ more) ∷ rest) (same_true w (ascii ".variables") u.0),
        v.0,
        x.0,
        same_true number (decimal (length more)) x.1,
        r.1,
      )

-- lines of kinds that may come
abbrev MayCome : List Word → List (List Word) → Type 0
MayCome parts lines = All (λ line. among (kind line) parts ≡ true) lines

-- optional lines, and .begin
record Parts (names parts : List Word) (lines : List (List Word)) (n : ℕ) (words : List ℕ) : Type 0 where
  optional : List (List Word)
  rest : List (List Word)
  lines_are : lines ≡ optional ++ ((ascii ".begin" ∷ []) ∷ rest)
  are : All (Optional (length names)) optional
  may_come : MayCome parts optional
  once : Once (map kind optional)
  on : read_words (begun names) rest ≡ circuit n words

after-part : (w : Word) (parts : List Word) (lines : List (List Word)) → MayCome (keep (λ p. not (same p w)) parts) lines
    → MayCome parts lines × All (λ v. w ≢ v) (map kind lines)
after-part w parts [] a = (tt, tt)
after-part w parts (line ∷ lines) a =
    let k = part_kept w (kind line) parts a.0 in
    let r = after-part w parts lines a.1 in
    ((k.0, r.0), (k.1, r.1))

parts-read : (names : List Word) (lines : List (List Word)) (parts : List Word) (n : ℕ) (words : List ℕ)
    → ((w : Word) → among w parts ≡ true → among w optional_parts ≡ true) → read_words (named names parts) lines ≡ circuit n words
    → Parts names parts lines n words
unfolding read_words next
parts-read names [] parts n words sub e = clash e
parts-read names ([] ∷ rest) parts n words sub e = clash e
parts-read names ((w ∷ more) ∷ rest) parts n words sub e = by_test (same w (ascii ".begin") && eqb (length more) 0)
    (λ b.
    let u = and_both (same w (ascii ".begin")) (eqb (length more) 0) b in
    record {
      optional = [];
      rest = rest;
      lines_are = ap₂ (λ v l. (v ∷ l) ∷ rest) (same_true w (ascii ".begin") u.0) (alone more u.1);
      are = tt;
      may_come = tt;
      once = tt;
      on = rw b at e;
    })
    (λ b.
    let left = keep (λ p. not (same p w)) parts in
    let r = when-goes (among w parts && part_ok (length names) w more) (named names left) (λ t. read_words t rest) n words (rw b at e) in
    let u = and_both (among w parts) (part_ok (length names) w more) r.0 in
    let others = parts-read names rest left n words (λ v m. sub v (part_kept w v parts m).0) r.1 in
    let a = after-part w parts others.optional others.may_come in
    record {
      optional = (w ∷ more) ∷ others.optional;
      rest = others.rest;
      lines_are = ap (λ l. (w ∷ more) ∷ l) others.lines_are;
      are = (optional_means (length names) w more (sub w u.0) u.1, others.are);
      may_come = (u.0, a.0);
      once = (a.1, others.once);
      on = others.on;
    })

-- gates, .end, and nothing after
record Gates (names : List Word) (lines : List (List Word)) (n : ℕ) (words : List ℕ) : Type 0 where
  gate_lines : List (List Word)
  gates : List Gate
  lines_are : lines ≡ gate_lines ++ ((ascii ".end" ∷ []) ∷ [])
  are : SayGates names gate_lines gates
  as_many : length names ≡ n
  words_are : words ≡ flat gates

done-read : (names : List Word) (lines : List (List Word)) (n : ℕ) (words : List ℕ) → read_words (done names) lines ≡ circuit n words
    → (lines ≡ []) × (length names ≡ n) × (words ≡ [])
unfolding read_words next
done-read names [] n words e = let w = same-circuit e in (refl, w.0, sym w.1)
done-read names ([] ∷ rest) n words e = clash e
done-read names ((w ∷ more) ∷ rest) n words e = clash e

gates_read : (names : List Word) → Once names → (lines : List (List Word)) (n : ℕ) (words : List ℕ) → read_words (begun names) lines ≡ circuit n words
    → Gates names lines n words
unfolding read_words next gate_of
gates_read names o [] n words e = clash e
gates_read names o ([] ∷ rest) n words e = clash e
gates_read names o ((w ∷ more) ∷ rest) n words e = by_test (same w (ascii ".end") && eqb (length more) 0)
    (λ b.
    let u = and_both (same w (ascii ".end")) (eqb (length more) 0) b in
    let d = done-read names rest n words (rw b at e) in
    record {
      gate_lines = [];
      gates = [];
      lines_are = λ i. (same_true w (ascii ".end") u.0 i ∷ alone more u.1 i) ∷ d.0 i;
      are = refl;
      as_many = d.1;
      words_are = d.2;
    })
    (λ b. by_test (is_gate names w more)
    (λ g.
    let r = gate-circuit (gate_of names more) (read_words (begun names) rest) n words (rw (b, g) at e) in
    let others = gates_read names o rest n r.0 r.1 in
    let said = gate_said names more in
    record {
      gate_lines = (w ∷ more) ∷ others.gate_lines;
      gates = said ∷ others.gates;
      lines_are = ap (λ l. (w ∷ more) ∷ l) others.lines_are;
      are = (said, others.gates, refl, gate_means names o w more g, others.are);
      as_many = others.as_many;
      words_are = r.2 ∙ ap (λ l. gate_of names more ++ l) others.words_are;
    })
    (λ g. clash (rw (b, g) at e)))

-- ---- the words of a circuit

abbrev Some : List (List Word) → Type 0
Some lines = All (All (λ w. 1 ≤ length w)) lines

pub some_words : (lines : List (List ℕ)) → Some (map words_of lines)
some_words [] = tt
some_words (l ∷ lines) = (words-some l, some_words lines)

pub said : (lines : List (List Word)) (n : ℕ) (words : List ℕ) → Some lines → read_words start lines ≡ circuit n words → SayCircuit lines n words
said lines n words some e =
    let (version, lines₁, e₁, on₁) = version_read n words lines e in
    let (number, lines₂, e₂, on₂) = numvars_read n words lines₁ on₁ in
    let (names, lines₃, e₃, ok, distinct, count, on₃) = variables_read n words number lines₂ on₂ in
    let p = parts-read names lines₃ optional_parts n words (λ w m. m) on₃ in
    let once = distinct_mean names distinct in
    let g = gates_read names once p.rest n words p.on in
    let head : lines ≡ (ascii ".version" ∷ version) ∷ (ascii ".numvars" ∷ number ∷ []) ∷ (ascii ".variables" ∷ names) ∷ lines₃
    = e₁ ∙ ap (λ l. (ascii ".version" ∷ version) ∷ l) (e₂ ∙ ap (λ l. (ascii ".numvars" ∷ number ∷ []) ∷ l) e₃) in
    let number_is : number ≡ decimal n = count ∙ ap decimal g.as_many in
    let rest-is : lines₃ ≡ p.optional ++ ((ascii ".begin" ∷ []) ∷ (g.gate_lines ++ ((ascii ".end" ∷ []) ∷ [])))
    = p.lines_are ∙ ap (λ l. p.optional ++ ((ascii ".begin" ∷ []) ∷ l)) g.lines_are in
    record {
      version = version;
      names = names;
      optional = p.optional;
      gate_lines = g.gate_lines;
      gates = g.gates;
      lines_are = head ∙ ap₂ (λ number rest. (ascii ".version" ∷ version) ∷ (ascii ".numvars" ∷ number ∷ []) ∷ (ascii ".variables" ∷ names) ∷ rest)
          number_is rest-is;
      names-are = names_mean names (subst Some head some).1.1.0.1 ok;
      names_once = once;
      as_many = g.as_many;
      optional_are = subst (λ k. All (Optional k) p.optional) g.as_many p.are;
      optional_once = p.once;
      gates_are = g.are;
      words_are = g.words_are;
    }

-- ---- the other way round: the words of a circuit are read as it

still_come : (w : Word) (parts : List Word) (lines : List (List Word)) → MayCome parts lines → All (λ v. w ≢ v) (map kind lines)
    → MayCome (keep (λ p. not (same p w)) parts) lines
still_come w parts [] a o = tt
still_come w parts (line ∷ lines) a o = (kept_part w (kind line) parts a.0 o.0, still_come w parts lines a.1 o.1)

leads : (s : Stage) (w : Word) (more : List Word) (rest : List (List Word)) (t : Stage) → next s w more ≡ goes t
    → read_words s ((w ∷ more) ∷ rest) ≡ read_words t rest
unfolding read_words
leads s w more rest t e = ap (λ step. onward 0 step (λ u. read_words u rest)) e

module _ (names : List Word) (rest : List (List Word)) where
  parts_go : (parts : List Word) (optional : List (List Word)) → All (Optional (length names)) optional
      → MayCome parts optional → Once (map kind optional)
      → read_words (named names parts) (optional ++ ((ascii ".begin" ∷ []) ∷ rest)) ≡ read_words (begun names) rest
  unfolding next
  parts_go parts [] a m o = leads (named names parts) (ascii ".begin") [] rest (begun names)
      (choice-true (and-true (same_refl (ascii ".begin")) refl) _ _)
  parts_go parts (line ∷ optional) a m o =
      let p = optional_passes (length names) line a.0 in
      let w = p.word in
      let left = keep (λ v. not (same v w)) parts in
      let here : among w parts ≡ true = subst (λ l. among (kind l) parts ≡ true) p.line-is m.0 in
      let apart : All (λ v. w ≢ v) (map kind optional) = subst (λ l. All (λ v. kind l ≢ v) (map kind optional)) p.line-is o.0 in
      let others = optional ++ ((ascii ".begin" ∷ []) ∷ rest) in
      let step : next (named names parts) w p.more ≡ goes (named names left)
      = choice-false (ap (λ b. b && eqb (length p.more) 0) p.no_begin) _ _ ∙ choice-true (and-true here p.ok) _ _ in
      ap (λ l. read_words (named names parts) (l ∷ others)) p.line-is
      ∙ leads (named names parts) w p.more others (named names left) step
      ∙ parts_go left optional a.1 (still_come w parts optional m.1 apart) o.1

gates_go : (names : List Word) → Once names → (lines : List (List Word)) (gs : List Gate) → SayGates names lines gs
    → read_words (begun names) (lines ++ ((ascii ".end" ∷ []) ∷ [])) ≡ circuit (length names) (flat gs)
unfolding read_words next same ascii
gates_go names o [] gs e = ap (λ l. circuit (length names) (flat l)) (sym e)
gates_go names o (line ∷ lines) gs s =
    let g = s.0 in
    let t = gate_tested names o line g s.3 in
    let others = lines ++ ((ascii ".end" ∷ []) ∷ []) in
    let no_end : same t.token (ascii ".end") ≡ false = ap (λ w. same w (ascii ".end")) t.token_is in
    let step : next (begun names) t.token t.ws ≡ adds (g.controls ∷ g.spare ∷ g.target ∷ []) (begun names)
    = choice-false (ap (λ b. b && eqb (length t.ws) 0) no_end) _ _ ∙ choice-true t.passes _ _ ∙ ap (λ ws. adds ws (begun names)) t.says in
    ap (λ l. read_words (begun names) (l ∷ others)) t.line-is
    ∙ ap (λ st. onward 0 st (λ u. read_words u others)) step
    ∙ ap (with_gate (g.controls ∷ g.spare ∷ g.target ∷ [])) (gates_go names o lines s.1 s.4)
    ∙ ap (λ l. circuit (length names) (flat l)) (sym s.2)

all-parts : (n : ℕ) (optional : List (List Word)) → All (Optional n) optional → MayCome optional_parts optional
all-parts n [] a = tt
all-parts n (line ∷ optional) a =
    let p = optional_passes n line a.0 in
    (subst (λ l. among (kind l) optional_parts ≡ true) (sym p.line-is) p.part, all-parts n optional a.1)

head_read : (version names : List Word) (n : ℕ) (rest : List (List Word)) → All Name names → Once names → length names ≡ n
    → read_words start ((ascii ".version" ∷ version) ∷ (ascii ".numvars" ∷ decimal n ∷ []) ∷ (ascii ".variables" ∷ names) ∷ rest)
    ≡ read_words (named names optional_parts) rest
unfolding next
head_read version names n rest are once many =
    leads start (ascii ".version") version _ versioned (choice-true (same_refl (ascii ".version")) _ _)
    ∙ leads versioned (ascii ".numvars") (decimal n ∷ []) _ (counted (decimal n))
    (choice-true (and-true (same_refl (ascii ".numvars")) (number_of n)) _ _)
    ∙ leads (counted (decimal n)) (ascii ".variables") names rest (named names optional_parts)
    (choice-true
    (and-true (same_refl (ascii ".variables"))
    (and-true (mean_names names are)
    (and-true (mean_distinct names once) (ap (λ k. same (decimal n) (decimal k)) many ∙ same_refl (decimal n)))))
    _ _)

pub say_read : (lines : List (List Word)) (n : ℕ) (words : List ℕ) → SayCircuit lines n words → read_words start lines ≡ circuit n words
say_read lines n words s =
    let names = s.names in
    let optional_are = subst (λ k. All (Optional k) s.optional) (sym s.as_many) s.optional_are in
    ap (read_words start) s.lines_are
    ∙ head_read s.version names n _ s.names-are s.names_once s.as_many
    ∙ parts_go names _ optional_parts s.optional optional_are (all-parts (length names) s.optional optional_are) s.optional_once
    ∙ gates_go names s.names_once s.gate_lines s.gates s.gates_are
    ∙ ap₂ circuit s.as_many (sym s.words_are)
