-- Laws of words that are joined by single blanks into lines, and of lines that are ended by LF: both are split again.
use Prim.Native.Nat.{ℕ, ◌≤◌}
use mathlib.Core.Path.{◌≡◌, refl, sym, ap, ◌∙◌}
use mathlib.Core.Bool.{Bool, true, false, not, ◌&&◌}
use mathlib.Core.List.{List, [], ◌∷◌, ◌++◌, map, append_assoc}
use native.Mathlib.Omega.{arith}
use lib.ListN.{length}
use lib.Dec.{eqb, leb}
use borrow.Author.Tests.{leb-true, le-leb, ne_eqb}
use Rattle.basics.specs.Lists.{each, All}
use Rattle.basics.proofs.Tests.{and_both, and-true, or-false, or_right}
use Rattle.text.specs.Texts.{ascii, every}
use Rattle.text_words.specs.Words.{is_blank, word_ends, words_of, lines_of}
use Rattle.text_words.specs.Runs.{in_line, is_ink}
use Rattle.text.proofs.EveryLaws.{every_append}
use Rattle.text_words.proofs.WordLaws.{blanks_first, word_first}
use Rattle.text_words.proofs.LineLaws.{ends_cr, line_lf}
use Rattle.real.specs.Form.{Word, is_plain}
use Rattle.real.specs.Export.{joined, line_text}

-- a visible byte, and a word of such
unfoldable pub visible : ℕ → Bool
visible b = leb 33 b && leb b 126

pub record Visible (w : Word) : Type 0 where
  pub some : 1 ≤ length w
  pub all : every visible w ≡ true

pub every_imp : (p q : ℕ → Bool) → ((b : ℕ) → p b ≡ true → q b ≡ true) → (t : List ℕ) → every p t ≡ true → every q t ≡ true
unfolding every
every_imp p q f [] h = refl
every_imp p q f (b ∷ t) h = let w = and_both (p b) (every p t) h in and-true (f b w.0) (every_imp p q f t w.1)

visible_ink : (b : ℕ) → visible b ≡ true → is_ink b ≡ true
unfolding visible is_blank
visible_ink b h = let w = leb-true 33 b (and_both (leb 33 b) (leb b 126) h).0 in
    ap not (or-false (ne_eqb b 32 (λ e. omega arith)) (ne_eqb b 9 (λ e. omega arith)))

visible_plain : (b : ℕ) → visible b ≡ true → is_plain b ≡ true
unfolding visible is_plain
visible_plain b h = let t = and_both (leb 33 b) (leb b 126) h in let w = leb-true 33 b t.0 in
    or_right (eqb b 9) (and-true (le-leb 32 b (omega arith)) t.1)

-- a plain line holds no LF, and no CR at its end
not_plain : (b : ℕ) → is_plain b ≡ true → (b ≡ 10 → ⊥) × (b ≡ 13 → ⊥)
unfolding is_plain
not_plain b h = (λ e. clash (sym h ∙ ap is_plain e), λ e. clash (sym h ∙ ap is_plain e))
  where
    clash : true ≡ false → ⊥
    clash e = let z : ◌≡◌ {A = ℕ} 0 1 = cc in omega arith

plain_in_line : (b : ℕ) → is_plain b ≡ true → in_line b ≡ true
plain_in_line b h = ap not (ne_eqb b 10 (not_plain b h).0)

plain_no_cr : (l : List ℕ) → every is_plain l ≡ true → ends_cr l ≡ false
unfolding every ends_cr
plain_no_cr [] h = refl
plain_no_cr (b ∷ []) h = ne_eqb b 13 (not_plain b (and_both (is_plain b) true h).0).1
plain_no_cr (b ∷ c ∷ l) h = plain_no_cr (c ∷ l) (and_both (is_plain b) (every is_plain (c ∷ l)) h).1

-- ---- words

tail_of : List Word → List ℕ
tail_of ws = each (λ w. ascii " " ++ w) ws

tail_ends : (ws : List Word) → word_ends (tail_of ws) ≡ true
unfolding tail_of each ascii word_ends is_blank
tail_ends [] = refl
tail_ends (w ∷ ws) = refl

first_word : (w : Word) (rest : List ℕ) → Visible w → word_ends rest ≡ true → words_of (w ++ rest) ≡ w ∷ words_of rest
first_word [] rest v e = let z = v.some in absurd (omega arith)
first_word (b ∷ w) rest v e = word_first b w rest (every_imp visible is_ink visible_ink (b ∷ w) v.all) e

words_tail : (ws : List Word) → All Visible ws → words_of (tail_of ws) ≡ ws
unfolding tail_of each ascii words_of is_blank every
words_tail [] h = refl
words_tail (w ∷ ws) h = blanks_first (32 ∷ []) (w ++ tail_of ws) refl ∙ first_word w (tail_of ws) h.0 (tail_ends ws) ∙ ap (λ t. w ∷ t)
    (words_tail ws h.1)

pub joined_words : (w : Word) (ws : List Word) → All Visible (w ∷ ws) → words_of (joined (w ∷ ws)) ≡ w ∷ ws
unfolding joined tail_of
joined_words w ws h = first_word w (tail_of ws) h.0 (tail_ends ws) ∙ ap (λ t. w ∷ t) (words_tail ws h.1)

plain_word : (w : Word) → Visible w → every is_plain w ≡ true
plain_word w v = every_imp visible is_plain visible_plain w v.all

plain_tail : (ws : List Word) → All Visible ws → every is_plain (tail_of ws) ≡ true
unfolding tail_of each ascii every is_plain
plain_tail [] h = refl
plain_tail (w ∷ ws) h = every_append is_plain w (tail_of ws) (plain_word w h.0) (plain_tail ws h.1)

pub joined_plain : (ws : List Word) → All Visible ws → every is_plain (joined ws) ≡ true
unfolding joined tail_of every
joined_plain [] h = refl
joined_plain (w ∷ ws) h = every_append is_plain w (tail_of ws) (plain_word w h.0) (plain_tail ws h.1)

-- ---- lines

pub joined_lines : (ls : List (List Word)) → All (All Visible) ls → lines_of (each line_text ls) ≡ map joined ls
unfolding each line_text ascii lines_of
joined_lines [] h = refl
joined_lines (l ∷ ls) h =
    let p = joined_plain l h.0 in
    ap lines_of (append_assoc (joined l) (10 ∷ []) (each line_text ls))
    ∙ line_lf (joined l) (every_imp is_plain in_line plain_in_line (joined l) p) (each line_text ls) (plain_no_cr (joined l) p)
    ∙ ap (λ t. joined l ∷ t) (joined_lines ls h.1)
