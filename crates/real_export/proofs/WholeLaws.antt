-- The parts of a text as they are put make the text.
use Rattle.std.specs.Prelude.{ℕ, suc, ◌+◌, ◌≤◌, ◌≡◌, refl, List, [], ◌∷◌, ◌++◌, map, length, eqb}
use Rattle.std.proofs.Common.{sym, ap, ap₂, ◌∙◌, arith, append_assoc, length-append}
use Rattle.std.proofs.lemmas.Bool.{eq-eqb}
use Rattle.std.proofs.lemmas.List.{append-nil}
use Rattle.basics.specs.Lists.{up_from, each, onto}
use Rattle.basics.proofs.All.{all_map}
use Rattle.basics.proofs.Kept.{keep-every}
use Rattle.basics.proofs.Lists.{all-up_from}
use Rattle.basics.proofs.PutLaws.{sets_front}
use Rattle.words.specs.Word.{bit, all_ones, lines_on}
use Rattle.words.proofs.Masks.{bit-all_ones}
use Rattle.text.specs.Texts.{ascii}
use Rattle.text.specs.Decimal.{decimal}
use Rattle.circuit.specs.Gates.{gates_of}
use Rattle.circuit.specs.Sound.{Sound}
use Rattle.circuit.specs.declared.Gate.{Gate}
use Rattle.real.specs.Export.{name_of, gate_line, head_lines, joined, line_text, real_text}
use Rattle.real_export.specs.Parts.{Put, spaced_name, names_on, gate_text, head_text}
use Rattle.real_export.proofs.EachLaws.{each_append, each_few}
use Rattle.real_export.proofs.PutLaws.{put_then, put_as}
use Rattle.real_export.proofs.PartLaws.{names_on_lem, gate_few, head_few}

-- ---- names

spaced : (js : List ℕ) → each (λ w. ascii " " ++ w) (map name_of js) ≡ each spaced_name js
unfolding each spaced_name
spaced [] = refl
spaced (j ∷ js) = ap (λ t. spaced_name j ++ t) (spaced js)

names-all : (n : ℕ) → each spaced_name (up_from 0 n) ≡ names_on n (all_ones n)
unfolding lines_on
names-all n = ap (each spaced_name) (sym (keep-every (λ j. eqb (bit (all_ones n) j) 1) (up_from 0 n)
    (all-up_from _ 0 n (λ j l m. eq-eqb (bit (all_ones n) j) 1 (bit-all_ones n j (omega arith)))))) ∙ names_on_lem n (all_ones n)

-- ---- lines

gate_shape : (d m l : List ℕ) → ((ascii "t" ++ d) ++ (m ++ l)) ++ ascii "\n" ≡ ascii "t" ++ (d ++ (m ++ (l ++ ascii "\n")))
unfolding ascii
gate_shape d m l = ap (λ x. 116 ∷ x) (append_assoc d (m ++ l) (10 ∷ []) ∙ ap (λ x. d ++ x) (append_assoc m l (10 ∷ [])))

gate_text_lem : (n : ℕ) (g : Gate) → line_text (gate_line n g) ≡ gate_text n g
unfolding line_text gate_line joined gate_text each
gate_text_lem n g =
    let d = decimal (suc (length (lines_on n g.controls))) in
    let js = lines_on n g.controls in
    let e : each (λ w. ascii " " ++ w) (map name_of (js ++ (g.target ∷ []))) ≡ names_on n g.controls ++ spaced_name g.target =
    spaced (js ++ (g.target ∷ []))
    ∙ each_append spaced_name js (g.target ∷ [])
    ∙ ap₂ (λ a b. a ++ b) (names_on_lem n g.controls) (append-nil (spaced_name g.target)) in
    ap (λ x. ((ascii "t" ++ d) ++ x) ++ ascii "\n") e ∙ gate_shape d (names_on n g.controls) (spaced_name g.target)

gate_texts : (n : ℕ) (gs : List Gate) → each line_text (map (gate_line n) gs) ≡ each (gate_text n) gs
unfolding each
gate_texts n [] = refl
gate_texts n (g ∷ gs) = ap₂ (λ a b. a ++ b) (gate_text_lem n g) (gate_texts n gs)

head_shape : (d m k : List ℕ) → m ≡ k
    → ((d ++ []) ++ (10 ∷ [])) ++ (ascii ".variables" ++ ((m ++ (10 ∷ [])) ++ ascii ".begin\n"))
    ≡ d ++ (ascii "\n.variables" ++ (k ++ ascii "\n.begin\n"))
unfolding ascii
head_shape d m k e =
    ap (λ x. (x ++ (10 ∷ [])) ++ (ascii ".variables" ++ ((m ++ (10 ∷ [])) ++ ascii ".begin\n"))) (append-nil d)
    ∙ append_assoc d (10 ∷ []) (ascii ".variables" ++ ((m ++ (10 ∷ [])) ++ ascii ".begin\n"))
    ∙ ap (λ y. d ++ (ascii "\n.variables" ++ y)) (append_assoc m (10 ∷ []) (ascii ".begin\n") ∙ ap (λ x. x ++ ascii "\n.begin\n") e)

head_text_lem : (n : ℕ) → each line_text (head_lines n) ≡ head_text n
unfolding each line_text head_lines joined head_text ascii
head_text_lem n =
    ap (λ x. ascii ".version 1.0\n.numvars " ++ x)
    (head_shape (decimal n) (each (λ w. 32 ∷ w) (map name_of (up_from 0 n))) (names_on n (all_ones n)) (spaced (up_from 0 n) ∙ names-all n))

end_text : each line_text ((ascii ".end" ∷ []) ∷ []) ≡ ascii ".end\n"
unfolding each line_text joined ascii
end_text = refl

-- ---- the whole text

module _ (n : ℕ) (words : List ℕ) where
  text_parts : head_text n ++ (each (gate_text n) (gates_of words) ++ ascii ".end\n") ≡ real_text n words
  unfolding real_text
  text_parts = sym (
      each_append line_text (head_lines n) (map (gate_line n) (gates_of words) ++ ((ascii ".end" ∷ []) ∷ []))
      ∙ ap₂ (λ a b. a ++ b) (head_text_lem n)
      (each_append line_text (map (gate_line n) (gates_of words)) ((ascii ".end" ∷ []) ∷ [])
      ∙ ap₂ (λ a b. a ++ b) (gate_texts n (gates_of words)) end_text))

  pub text_length : length (real_text n words) ≡ length (head_text n) + length (each (gate_text n) (gates_of words)) + 5
  unfolding ascii
  text_length = omega (
    arith,
    ap length text_parts,
    length-append (head_text n) (each (gate_text n) (gates_of words) ++ ascii ".end\n"),
    length-append (each (gate_text n) (gates_of words)) (ascii ".end\n"),
  )

  -- the longest text
  module _ (ok : Sound n words) where
    pub gates_few : length (each (gate_text n) (gates_of words)) ≤ 124928
    gates_few = omega (
      arith,
      ok.gates_fit,
      each_few (gate_text n) 122 (gates_of words) (all_map (λ g. gate_few n g ok.lines_fit) (gates_of words) ok.gates_ok),
    )

    pub text_few : length (real_text n words) ≤ 125094
    text_few = omega (arith, text_length, gates_few, head_few n ok.lines_fit)

  pub put_whole : {o0 o1 o2 o3 : List ℕ} {a b c : ℕ} → Put o0 0 (head_text n) o1 a → Put o1 a (each (gate_text n) (gates_of words)) o2 b
      → Put o2 b (ascii ".end\n") o3 c → Put o0 0 (real_text n words) o3 c
  put_whole p q r = put_as (put_then p (put_then q r)) text_parts

  -- what is put where there is room for all of it
  module _ {out new : List ℕ} {end : ℕ} (p : Put out 0 (real_text n words) new end) where
    pub put_length : end ≡ length (real_text n words)
    put_length = omega (arith, p.told)

    pub put_onto : length (real_text n words) ≤ length out → new ≡ onto (real_text n words) out
    put_onto h = p.stored (omega arith) ∙ sets_front out (real_text n words) h
