-- Laws of the parts of a text: which names stand in them, how long they are, and that they are what is put.
use Rattle.std.specs.Prelude.{ℕ, zero, suc, ◌+◌, ◌*◌, ◌^◌, ◌<◌, ◌≤◌, ◌≡◌, ◌≢◌, refl, min, List, [], ◌∷◌, ◌++◌, length, get_or, take, drop, false, eqb, ltb}
use Rattle.std.proofs.Common.{sym, ap, ◌∙◌, arith, length-append, length-drop, take_all, eqb-true}
use Rattle.std.proofs.lemmas.Bool.{ne_eqb, eqb-false, ltb-true, ltb-false}
use Rattle.basics.specs.Lists.{up_from, keep, each}
use Rattle.basics.proofs.Fills.{fill_next}
use Rattle.basics.proofs.Kept.{keep-up_from-cong}
use Rattle.basics.proofs.ListMore.{first_kept}
use Rattle.basics.proofs.Tests.{by_test, by_equal, choice-false}
use Rattle.words.specs.Word.{bit, flip, all_ones, lines_on}
use Rattle.words.proofs.Lines.{bit-flip-same, bit_flip_other, flip-lt}
use Rattle.words.proofs.AndLaws.{length_lines_le, lines_wide, lines_zero, lowest_first, lowest_lt}
use Rattle.words.proofs.SplitLaws.{length-wide}
use Rattle.text.specs.Texts.{ascii}
use Rattle.text.specs.Decimal.{decimal}
use Rattle.circuit.specs.Limits.{most_lines}
use Rattle.circuit.specs.Controls.{is_control}
use Rattle.circuit.specs.Gates.{no_gate, gate_at}
use Rattle.circuit.specs.Sound.{GateOk}
use Rattle.circuit.specs.declared.Gate.{Gate}
use Rattle.circuit.proofs.GateLaws.{gate_entry}
use Rattle.real.specs.Export.{name_of}
use Rattle.real_export.specs.Parts.{Put, spaced_name, name_if, names_on, gate_text, head_text}
use Rattle.real_export.proofs.EachLaws.{each_keep, each_next, each_front}
use Rattle.real_export.proofs.PutLaws.{put_none, put_then, put_as, digits_one, digits_few}

-- ---- names

pub name_length : (j : ℕ) → length (spaced_name j) ≡ 2 + length (decimal j)
unfolding spaced_name name_of ascii
name_length j = omega arith

module _ (w j : ℕ) where
  pub name_off : (bit w j ≡ 1 → ⊥) → [] ≡ name_if w j
  unfolding name_if
  name_off d = sym (choice-false (ne_eqb (bit w j) 1 d) _ _)

  name_most : length (name_if w j) ≤ length (spaced_name j)
  unfolding name_if
  name_most = by_test (eqb (bit w j) 1) (λ e. rw e (omega arith)) (λ e. rw e (omega arith))

-- the names of k lines from line a on: ten lines have one digit
all-names : (a k : ℕ) → a + k ≤ most_lines → length (each spaced_name (up_from a k)) + min (a + k) 10 ≤ 4 * k + min a 10
unfolding each up_from
all-names a zero h = omega arith
all-names a (suc k) h =
    let rest = all-names (suc a) k (omega arith) in
    let split = length-append (spaced_name a) (each spaced_name (up_from (suc a) k)) in
    by_test (ltb a 10)
    (λ e. let t = ltb-true a 10 e in omega (arith, split, rest, name_length a, digits_one a t))
    (λ e. let t = ltb-false a 10 e in omega (arith, split, rest, name_length a, digits_few a (omega arith)))

-- some of the names, also with that of a line that is not among them
some-names : (w a k : ℕ) → length (each (name_if w) (up_from a k)) ≤ length (each spaced_name (up_from a k))
unfolding each up_from
some-names w a zero = omega arith
some-names w a (suc k) = omega (
  arith,
  length-append (name_if w a) (each (name_if w) (up_from (suc a) k)),
  length-append (spaced_name a) (each spaced_name (up_from (suc a) k)),
  name_most w a,
  some-names w (suc a) k,
)

one_more_name : (w t a k : ℕ) → (bit w t ≡ 1 → ⊥) → a ≤ t → t < a + k
    → length (each (name_if w) (up_from a k)) + length (spaced_name t) ≤ length (each spaced_name (up_from a k))
unfolding each up_from
one_more_name w t a zero off h l = absurd (omega arith)
one_more_name w t a (suc k) off h l =
    let on = length-append (name_if w a) (each (name_if w) (up_from (suc a) k)) in
    let all = length-append (spaced_name a) (each spaced_name (up_from (suc a) k)) in
    by_equal a t
    (λ e. omega (
      arith,
      on,
      all,
      ap length (name_off w t off),
      ap (λ j. length (name_if w j)) e,
      ap (λ j. length (spaced_name j)) e,
      some-names w
          (suc a) k,
    ))
    (λ e. omega (arith, on, all, name_most w a, one_more_name w t (suc a) k off (omega arith) (omega arith)))

pub names_few : (n w : ℕ) → n ≤ most_lines → length (names_on n w) ≤ 118
names_few n w h = omega (arith, some-names w 0 n, all-names 0 n (omega arith))

-- ---- the names, one a turn

pub put_name : {o0 o1 o2 o3 : List ℕ} {at a b c : ℕ} (j : ℕ) → Put o0 at (32 ∷ []) o1 a → Put o1 a (120 ∷ []) o2 b → Put o2 b (decimal j) o3 c
    → Put o0 at (spaced_name j) o3 c
unfolding spaced_name name_of ascii
put_name j p q r = put_then p (put_then q r)

pub names_on_lem : (n w : ℕ) → each spaced_name (lines_on n w) ≡ names_on n w
unfolding lines_on name_if
names_on_lem n w = each_keep spaced_name (λ j. eqb (bit w j) 1) (up_from 0 n)

-- a word of n lines has no name of a line above them
pub names_wide : (n w : ℕ) → n ≤ most_lines → w < 2 ^ n → names_on most_lines w ≡ names_on n w
names_wide n w h k = sym (names_on_lem most_lines w) ∙ ap (each spaced_name) (lines_wide n most_lines w h k) ∙ names_on_lem n w

-- where the first line is inverted, the others stay
others-stay : (w a k b : ℕ) (rest : List ℕ) → keep (λ j. eqb (bit w j) 1) (up_from a k) ≡ b ∷ rest
    → keep (λ j. eqb (bit (flip w b) j) 1) (up_from a k) ≡ rest
unfolding keep up_from
others-stay w a zero b rest e = absurd (omega (arith, ap length e))
others-stay w a (suc k) b rest e = by_test (eqb (bit w a) 1)
    (λ on.
    let parts : a ∷ keep (λ j. eqb (bit w j) 1) (up_from (suc a) k) ≡ b ∷ rest = rw on at e in
    let first : a ≡ b = ap (λ l. get_or l 0 0) parts in
    let off : eqb (bit (flip w a) a) 1 ≡ false =
    ne_eqb (bit (flip w a) a) 1 (λ o. omega (arith, o, bit-flip-same w a, eqb-true (bit w a) 1 on)) in
    let same = keep-up_from-cong (λ j. eqb (bit (flip w a) j) 1) (λ j. eqb (bit w j) 1) (suc a) k
    (λ j l m. ap (λ x. eqb x 1) (bit_flip_other w a j (λ q. omega arith))) in
    let here : keep (λ j. eqb (bit (flip w a) j) 1) (up_from a (suc k)) ≡ rest = rw off (same ∙ ap (drop 1) parts) in
    ap (λ x. keep (λ j. eqb (bit (flip w x) j) 1) (up_from a (suc k))) (sym first) ∙ here)
    (λ off.
    let parts : keep (λ j. eqb (bit w j) 1) (up_from (suc a) k) ≡ b ∷ rest = rw off at e in
    let on = eqb-true (bit w b) 1 (first_kept (λ j. eqb (bit w j) 1) (up_from (suc a) k) b rest parts).passes in
    let other : bit (flip w b) a ≡ bit w a = bit_flip_other w b a (λ q. eqb-false (bit w a) 1 off (ap (bit w) (sym q) ∙ on)) in
    rw (other, off) (others-stay w (suc a) k b rest parts))

lines-left : (w b : ℕ) (rest : List ℕ) → lines_on most_lines w ≡ b ∷ rest → lines_on most_lines (flip w b) ≡ rest
unfolding lines_on
lines-left w b rest e = others-stay w 0 most_lines b rest e

-- the names of i lines are put, and those of a word are left
pub record Naming (old : List ℕ) (at w i : ℕ) (new : List ℕ) (end left : ℕ) : Type 0 where
  pub begun : Put old at (each spaced_name (take i (lines_on most_lines w))) new end
  pub rest : drop i (lines_on most_lines w) ≡ lines_on most_lines left
  pub fits : left < 2 ^ most_lines

pub naming_none : (old : List ℕ) (at w : ℕ) → w < 2 ^ most_lines → Naming old at w 0 old at w
unfolding each
naming_none old at w h = record { begun = put_none old at; rest = refl; fits = h }

pub naming_all : {old new : List ℕ} {at w i end left : ℕ} → Naming old at w i new end left → i ≡ length (lines_on most_lines w)
    → Put old at (names_on most_lines w) new end
naming_all {old} {new} {at} {w} {i} n e =
    put_as n.begun (ap (each spaced_name) (take_all i (lines_on most_lines w) (omega arith)) ∙ names_on_lem most_lines w)

module _ {old new : List ℕ} {at w i end left : ℕ} (n : Naming old at w i new end left) (h : i < length (lines_on most_lines w)) where
  pub naming_some : left ≢ 0
  naming_some z = omega (
    arith,
    length-drop i (lines_on most_lines w),
    ap length (n.rest ∙ ap (lines_on most_lines) z ∙ lines_zero most_lines),
  )

  module _ (line : ℕ) (lowest : line ≡ get_or (lines_on 32 left) 0 0) where
    first-left : lines_on most_lines left ≡ line ∷ drop 1 (lines_on most_lines left)
    first-left = lowest_first most_lines left (omega arith) n.fits naming_some ∙ ap (λ j. j ∷ drop 1 (lines_on most_lines left)) (sym lowest)

    pub naming_line : line < most_lines
    naming_line = omega (arith, lowest, lowest_lt most_lines left (omega arith) n.fits naming_some)

    next-line : (line ≡ get_or (lines_on most_lines w) i 0) × (drop (i + 1) (lines_on most_lines w) ≡ drop 1 (lines_on most_lines left))
    next-line =
        let next = fill_next (lines_on most_lines w) (drop 1 (lines_on most_lines left)) i line (n.rest ∙ first-left) in
        (next.1, next.2)

    names-next : each spaced_name (take (i + 1) (lines_on most_lines w)) ≡ each spaced_name (take i (lines_on most_lines w)) ++ spaced_name line
    names-next = each_next spaced_name (lines_on most_lines w) i 0 h
        ∙ ap (λ j. each spaced_name (take i (lines_on most_lines w)) ++ spaced_name j) (sym next-line.0)

    pub naming_room : (room : ℕ) → at + length (names_on most_lines w) < room → end + length (spaced_name line) < room
    naming_room room fit = omega (
      arith,
      n.begun.told,
      ap length names-next,
      length-append (each spaced_name (take i (lines_on most_lines w))) (spaced_name line),
      each_front spaced_name (lines_on most_lines w) (i + 1),
      ap length (names_on_lem most_lines w),
    )

    pub naming_more : {more : List ℕ} {to : ℕ} → Put new end (spaced_name line) more to → Naming old at w (i + 1) more to (flip left line)
    naming_more q = record {
      begun = put_as (put_then n.begun q) (sym names-next);
      rest = next-line.1 ∙ sym (lines-left left line (drop 1 (lines_on most_lines left)) first-left);
      fits = flip-lt most_lines left line n.fits naming_line;
    }

-- ---- the line of a gate

module _ (n : ℕ) (g : Gate) (fits : n ≤ most_lines) (ok : GateOk n g) where
  -- the ones of a mask of n lines are its lines
  pub gate_lines : (ones : ℕ) → ones ≡ length (lines_on 32 g.controls) → ones + 1 ≡ suc (length (lines_on n g.controls))
  gate_lines ones e = omega (arith, length-wide n 32 g.controls fits ok.controls_in)

  pub lines_below : suc (length (lines_on n g.controls)) < 100
  lines_below = omega (arith, length_lines_le n g.controls)

  pub target_below : g.target < 100
  target_below = omega (arith, ok.target_in)

  pub gate-length : length (gate_text n g)
      ≡ 4 + length (decimal (suc (length (lines_on n g.controls)))) + length (names_on n g.controls) + length (decimal g.target)
  unfolding gate_text ascii
  gate-length =
      let d = decimal (suc (length (lines_on n g.controls))) in
      let m = names_on n g.controls in
      let t = spaced_name g.target in
      omega (
        arith,
        length-append d (m ++ (t ++ (10 ∷ []))),
        length-append m (t ++ (10 ∷ [])),
        length-append t (10 ∷ []),
        name_length g.target,
      )

  -- its mask is one of n lines
  gate-names : names_on most_lines g.controls ≡ names_on n g.controls
  gate-names = names_wide n g.controls fits ok.controls_in

  -- the same by the ones of the mask
  pub gate_long : {ones : ℕ} → ones ≡ length (lines_on 32 g.controls)
      → length (gate_text n g) ≡ 2 + length (decimal (ones + 1)) + length (names_on most_lines g.controls) + length (spaced_name g.target)
  gate_long many =
      omega (arith, gate-length, ap (λ x. length (decimal x)) (gate_lines _ many), ap length gate-names, name_length g.target)

  -- t and a number, at most 32 names, and LF
  pub gate_few : length (gate_text n g) ≤ 122
  unfolding is_control
  gate_few = omega (
    arith,
    gate-length,
    digits_few (suc (length (lines_on n g.controls))) lines_below,
    name_length g.target,
    one_more_name g.controls g.target 0 n (eqb-false (bit g.controls g.target) 1 ok.apart) (omega arith)
        (omega (arith, ok.target_in)),
    all-names 0 n (omega arith),
  )

  pub put_gate : {o0 o1 o2 o3 o4 o5 : List ℕ} {at a b c d e ones : ℕ} → ones ≡ length (lines_on 32 g.controls)
      → Put o0 at (116 ∷ []) o1 a → Put o1 a (decimal (ones + 1)) o2 b → Put o2 b (names_on most_lines g.controls) o3 c
      → Put o3 c (spaced_name g.target) o4 d → Put o4 d (10 ∷ []) o5 e → Put o0 at (gate_text n g) o5 e
  unfolding gate_text ascii
  put_gate many p q r s t = put_then p (put_then (put_as q (ap decimal (gate_lines _ many))) (put_then (put_as r gate-names) (put_then s t)))

-- ---- the gates, one a turn

pub put_no_gates : (n : ℕ) (old : List ℕ) (at : ℕ) → Put old at (each (gate_text n) []) old at
unfolding each
put_no_gates n old at = put_none old at

module _ (n : ℕ) (gates : List Gate) (i number : ℕ) (g : Gate) (h : i < length gates) (e : number ≡ i + 1) (read : g ≡ gate_at gates number) where
  gates_next : each (gate_text n) (take (i + 1) gates) ≡ each (gate_text n) (take i gates) ++ gate_text n g
  gates_next = each_next (gate_text n) gates i no_gate h
      ∙ ap (λ gate. each (gate_text n) (take i gates) ++ gate_text n gate) (sym (read ∙ gate_entry gates i number e))

  pub gate_room : (room at end : ℕ) → end ≡ at + length (each (gate_text n) (take i gates)) → at + length (each (gate_text n) gates) < room
      → end + length (gate_text n g) < room
  gate_room room at end told fits = omega (
    arith,
    ap length gates_next,
    length-append (each (gate_text n) (take i gates)) (gate_text n g),
    each_front (gate_text n) gates (i + 1),
  )

  pub put_gates_next : {o0 o1 o2 : List ℕ} {at a b : ℕ} → Put o0 at (each (gate_text n) (take i gates)) o1 a → Put o1 a (gate_text n g) o2 b
      → Put o0 at (each (gate_text n) (take (i + 1) gates)) o2 b
  put_gates_next p q = put_as (put_then p q) (sym gates_next)

-- ---- the lines before the gates

module _ (n : ℕ) where
  pub head_length : length (head_text n) ≡ 41 + length (decimal n) + length (names_on n (all_ones n))
  unfolding head_text ascii
  head_length = omega (
    arith,
    length-append (decimal n) (ascii "\n.variables" ++ (names_on n (all_ones n) ++ ascii "\n.begin\n")),
    length-append (names_on n (all_ones n)) (ascii "\n.begin\n"),
  )

  pub head_few : n ≤ most_lines → length (head_text n) ≤ 161
  head_few h =
      let d = digits_few n (omega arith) in
      let m = names_few n (all_ones n) h in
      let l = head_length in
      omega arith

  pub put_head : {o0 o1 o2 o3 o4 o5 : List ℕ} {a b c d e : ℕ} → Put o0 0 (ascii ".version 1.0\n.numvars ") o1 a → Put o1 a (decimal n) o2 b
      → Put o2 b (ascii "\n.variables") o3 c → Put o3 c (names_on n (all_ones n)) o4 d → Put o4 d (ascii "\n.begin\n") o5 e
      → Put o0 0 (head_text n) o5 e
  unfolding head_text
  put_head p q r s t = put_then p (put_then q (put_then r (put_then s t)))
