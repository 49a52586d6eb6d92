-- Laws of lines: what was joined is split again.
use Rattle.std.proofs.Common.{ℕ, suc, ◌+◌, ◌-◌, ◌<◌, ◌≤◌, ◌≡◌, refl, sym, ap, ◌∙◌, Bool, true, false, ◌&&◌, eqb, arith}
use Rattle.std.proofs.Common.{List, [], ◌∷◌, ◌++◌, length, take, drop, Option, Some, None, MatchOption, Bor}
use Rattle.std.specs.List.{position_or_len}
use Rattle.std.specs.Option.{unwrap_or}
use Rattle.std.proofs.lemmas.Bool.{not-true, eqb-true, eqb-false, ne_eqb, false≢true}
use Rattle.std.proofs.lemmas.List.{append-nil, append_assoc, drop_more, drop_all, take_all, take-take, take-append-drop, length-take-le, length-drop}
use Rattle.std.proofs.lemmas.List.Sums.{passes_at_first}
use lib.Pointwise.{pointwise}
use mathlib.Core.Bool.{and-true}
use Rattle.basics.proofs.Tests.{by_test, and_both, choice-true, choice-false}
use Rattle.basics.proofs.Tests.{and-true as and-true-both}
use Rattle.text.specs.Texts.{every, begins}
use Rattle.text_words.specs.Words.{in_front, lines_of}
use Rattle.text_words.specs.Runs.{in_line, IsFirstLine}

abbrev pub is_lf : ℕ → Bool
is_lf b = eqb b 10

-- one byte: a CR before LF, another of a line
cr_passed : (b : ℕ) (rest : List ℕ) → eqb b 10 ≡ false → (eqb b 13 && begins (eqb 10) rest) ≡ true → lines_of (b ∷ rest) ≡ lines_of rest
unfolding lines_of
cr_passed b rest h e = choice-false h _ _ ∙ choice-true e _ _

line_on : (b : ℕ) (rest : List ℕ) → eqb b 10 ≡ false → (eqb b 13 && begins (eqb 10) rest) ≡ false → lines_of (b ∷ rest) ≡ in_front b (lines_of rest)
unfolding lines_of
line_on b rest h e = choice-false h _ _ ∙ choice-false e _ _

and_second : (a : Bool) {b : Bool} → b ≡ false → (a && b) ≡ false
and_second true e = e
and_second false e = refl

no_start : (c : ℕ) → eqb c 10 ≡ false → eqb 10 c ≡ false
no_start c h = ne_eqb 10 c (λ e. eqb-false c 10 h (sym e))

-- the last byte is CR (13)
unfoldable pub ends_cr : List ℕ → Bool
ends_cr [] = false
ends_cr (b ∷ []) = eqb b 13
ends_cr (b ∷ c ∷ l) = ends_cr (c ∷ l)

-- bytes put in front of the first line, one by one
fronted : List ℕ → List (List ℕ) → List (List ℕ)
fronted [] ts = ts
fronted (b ∷ l) ts = in_front b (fronted l ts)

fronted_cons : (l t : List ℕ) (ts : List (List ℕ)) → fronted l (t ∷ ts) ≡ (l ++ t) ∷ ts
unfolding fronted in_front
fronted_cons [] t ts = refl
fronted_cons (b ∷ l) t ts = ap (in_front b) (fronted_cons l t ts)

fronted_nil : (b : ℕ) (l : List ℕ) → fronted (b ∷ l) [] ≡ (b ∷ l) ∷ []
unfolding fronted in_front
fronted_nil b [] = refl
fronted_nil b (c ∷ l) = ap (in_front b) (fronted_nil c l)

-- bytes that hold no LF stand in front of the lines that follow
lead : (l tail : List ℕ) → every in_line l ≡ true → (ends_cr l && begins (eqb 10) tail) ≡ false → lines_of (l ++ tail) ≡ fronted l (lines_of tail)
unfolding every fronted ends_cr begins
lead [] tail h e = refl
lead (b ∷ []) tail h e = line_on b tail (not-true (eqb b 10) (and_both (in_line b) true h).0) e
lead (b ∷ c ∷ l) tail h e =
    let t = and_both (in_line b) (every in_line (c ∷ l)) h in
    let u = and_both (in_line c) (every in_line l) t.1 in
    line_on b ((c ∷ l) ++ tail) (not-true (eqb b 10) t.0) (and_second (eqb b 13) (no_start c (not-true (eqb c 10) u.0)))
    ∙ ap (in_front b) (lead (c ∷ l) tail t.1 e)

-- a line in front is the first, by each of its ends
module _ (l : List ℕ) (h : every in_line l ≡ true) where
  pub line_lf : (rest : List ℕ) → ends_cr l ≡ false → lines_of (l ++ (10 ∷ rest)) ≡ l ∷ lines_of rest
  unfolding lines_of
  line_lf rest e = lead l (10 ∷ rest) h (ap (λ b. b && begins (eqb 10) (10 ∷ rest)) e)
      ∙ fronted_cons l [] (lines_of rest) ∙ ap (λ t. t ∷ lines_of rest) (append-nil l)

  pub line_cr_lf : (rest : List ℕ) → lines_of (l ++ (13 ∷ 10 ∷ rest)) ≡ l ∷ lines_of rest
  unfolding lines_of begins
  line_cr_lf rest = lead l (13 ∷ 10 ∷ rest) h (and_second (ends_cr l) refl)
      ∙ fronted_cons l [] (lines_of rest) ∙ ap (λ t. t ∷ lines_of rest) (append-nil l)

pub line_last : (b : ℕ) (l : List ℕ) → every in_line (b ∷ l) ≡ true → lines_of (b ∷ l) ≡ (b ∷ l) ∷ []
unfolding lines_of begins
line_last b l h = ap lines_of (sym (append-nil (b ∷ l))) ∙ lead (b ∷ l) [] h (and_second (ends_cr (b ∷ l)) refl) ∙ fronted_nil b l

-- ---- the first line

-- what stands before the first LF has none
before_lf : (text : List ℕ) → every in_line (take (position_or_len is_lf text) text) ≡ true
unfolding every
before_lf [] = refl
before_lf (b ∷ rest) =
    let n = position_or_len is_lf rest in
    let k : 1 + n ≡ suc n = omega arith in
    by_test (eqb b 10)
    (λ e. rw e)
    (λ e. rw (e, k) (rw e (before_lf rest)))

-- the last byte is CR, as `strip_suffix` asks
ends_cr_is : (l : List ℕ) → pointwise eqb (drop (length l - 1) l) (13 ∷ []) ≡ ends_cr l
unfolding ends_cr
ends_cr_is [] = refl
ends_cr_is (b ∷ []) = and-true (eqb b 13)
ends_cr_is (b ∷ c ∷ l) =
    let k : suc (suc (length l)) - 1 ≡ suc (suc (length l) - 1) = omega arith in
    rw k (ends_cr_is (c ∷ l))

ends_split : (l : List ℕ) → ends_cr l ≡ true → l ≡ take (length l - 1) l ++ (13 ∷ [])
unfolding ends_cr
ends_split [] e = absurd (false≢true e)
ends_split (b ∷ []) e = rw (eqb-true b 13 e)
ends_split (b ∷ c ∷ l) e =
    let k : suc (suc (length l)) - 1 ≡ suc (suc (length l) - 1) = omega arith in
    rw k (ap (λ r. b ∷ r) (ends_split (c ∷ l) e))

every_front : (xs ys : List ℕ) → every in_line (xs ++ ys) ≡ true → every in_line xs ≡ true
unfolding every
every_front [] ys h = refl
every_front (x ∷ xs) ys h = let w = and_both (in_line x) (every in_line (xs ++ ys)) h in and-true-both w.0 (every_front xs ys w.1)

-- the bytes before an end that is found make the first line, without a CR
module _ (text : List ℕ) (end : ℕ) (is : end ≡ position_or_len is_lf text) (some : end < length text) where
  feed : drop end text ≡ 10 ∷ drop (end + 1) text
  feed = drop_more text end 0 some ∙ ap (λ b. b ∷ drop (end + 1) text) (eqb-true _ 10 (rw is (passes_at_first is_lf text 0 (omega arith))))

  plain : every in_line (take end text) ≡ true
  plain = rw is (before_lf text)

  parted : text ≡ take end text ++ (10 ∷ drop (end + 1) text)
  parted = sym (take-append-drop end text) ∙ ap (λ r. take end text ++ r) feed

  lengths : length (take end text) + length (drop (end + 1) text) < length text
  lengths = omega (arith, length-take-le end text, length-drop (end + 1) text)

  ends_text : drop (end + 1) text ≡ drop (length text - length (drop (end + 1) text)) text
  ends_text = ap (λ n. drop n text) (omega (arith, length-drop (end + 1) text))

  -- as `strip_suffix` finds a CR, or none
  pub line_stripped : (found : Option (Bor (List ℕ))) (whole : Bor (List ℕ)) → whole.now ≡ take end text
      → MatchOption found (pointwise eqb (drop (length (take end text) - 1) (take end text)) (13 ∷ []) ≡ false)
      (λ x. (pointwise eqb (drop (length (take end text) - 1) (take end text)) (13 ∷ []) ≡ true)
      × (x.now ≡ take (length (take end text) - 1) (take end text)) × (length x.now + 1 ≡ length (take end text)))
      → IsFirstLine text (unwrap_or found whole).now (drop (end + 1) text)
  line_stripped None whole w h = rw w (record {
    split = ap lines_of parted ∙ line_lf (take end text) plain (drop (end + 1) text) (sym (ends_cr_is (take end text)) ∙ h);
    within = let l = lengths in omega arith;
    shorter = let l = lengths in omega arith;
    starts = ap (λ n. take n text) (omega (arith, length-take-le end text));
    ends = ends_text;
  })
  line_stripped (Some x) whole w h =
      let s = ends_split (take end text) (sym (ends_cr_is (take end text)) ∙ h.0) in
      let f = every_front (take (length (take end text) - 1) (take end text)) (13 ∷ []) (sym (ap (every in_line) s) ∙ plain) in
      record {
        split = ap lines_of (parted ∙ ap (λ l. l ++ (10 ∷ drop (end + 1) text)) s ∙ append_assoc _ (13 ∷ []) (10 ∷ drop (end + 1) text))
            ∙ line_cr_lf _ f (drop (end + 1) text) ∙ rw h.1;
        within = let l = lengths in let m = h.2 in omega arith;
        shorter = let l = lengths in omega arith;
        starts = let m = h.2 in h.1 ∙ take-take _ end text (omega (arith, length-take-le end text)) ∙ ap (λ n. take n text) (omega arith);
        ends = ends_text;
      }

-- no LF: the whole text is the last line
pub line_whole : (text : List ℕ) → 1 ≤ length text → length text ≤ position_or_len is_lf text → IsFirstLine text text []
unfolding lines_of
line_whole [] some none = absurd (omega arith)
line_whole (b ∷ l) some none = record {
  split = line_last b l (sym (ap (every in_line) (take_all _ (b ∷ l) none)) ∙ before_lf (b ∷ l));
  within = omega arith;
  shorter = omega arith;
  starts = sym (take_all (length (b ∷ l)) (b ∷ l) (omega arith));
  ends = sym (drop_all (length (b ∷ l) - 0) (b ∷ l) (omega arith));
}
