-- The tests of the .real form mean what the grammar says: names, names that stand once, their lines, optional lines and gates.
use Prim.Native.Nat.{ℕ, zero, suc, ◌+◌, ◌-◌, ◌^◌, ◌≤◌}
use mathlib.Core.Path.{◌≡◌, refl, sym, ap, ap₂, ◌∙◌, subst}
use mathlib.Core.Logic.{◌↔◌, ◌≢◌, ◌⊎◌, ⊎_elim}
use mathlib.Core.Bool.{Bool, true, false, not, ◌&&◌, ◌||◌, false≢true}
use mathlib.Core.List.Memᴰ
use mathlib.Core.List.{List, [], ◌∷◌, ◌++◌, Memᴰ}
use native.Mathlib.Omega.{arith}
use lib.ListN.{length, take, length-append}
use lib.Seq.{take-suc, take-length, take_at, get_or_at}
use lib.Dec.{eqb, leb}
use borrow.Author.Tests.{leb-true, le-leb, not-true}
use Rattle.basics.specs.Choice.{choice}
use Rattle.basics.specs.Lists.{some, All}
use Rattle.basics.proofs.Tests.{by_test, by_equal, and_both, and-true, or_left, or_right}
use Rattle.basics.proofs.Lists.{some_entry, all_entry}
use Rattle.words.specs.Word.{bit, flip}
use Rattle.words.proofs.Bits.{by_bit, bit_of_zero, word_ext_all}
use Rattle.words.proofs.Lines.{bit-flip-same, bit_flip_other, flip-adds}
use Rattle.circuit.specs.declared.Gate.{Gate}
use Rattle.text.specs.Texts.{ascii, every, same, among, distinct, place}
use Rattle.text.specs.Decimal.{decimal, is_digit}
use Rattle.text.proofs.EveryLaws.{every_append}
use Rattle.text.proofs.SameLaws.{same_refl, same_true, place_found, place_passed}
use Rattle.text_words.specs.Words.{in_front, is_blank, word_ends, words_of}
use Rattle.real.specs.Form.{is_letter, is_name_byte, is_name, is_plain, is_gate, controls_of, target_of, mask_of, gate_of}
use Rattle.demands.proofs.RuleWords.{either}
use Rattle.demands.proofs.RulesInWords.{at_least, equal}
use Rattle.demands.proofs.RealForm.{Word, Plain, Letter, Digit, Name, Once, NameOf, SaysGate}

-- ---- tests in words

both_pass : (a b : Bool) {P Q : Type 0} → ((a ≡ true) ↔ P) → ((b ≡ true) ↔ Q) → (a && b ≡ true) ↔ (P × Q)
both_pass a b p q = (
  λ e. let w = and_both a b e in (p.0 w.0, q.0 w.1),
  λ w. and-true (p.1 w.0) (q.1 w.1),
)

pub text_iff : (t u : Word) → (same t u ≡ true) ↔ (t ≡ u)
text_iff t u = (same_true t u, λ e. ap (same t) (sym e) ∙ same_refl t)

pub differs : (t u : Word) → t ≢ u → same t u ≡ false
differs t u d = by_test (same t u) (λ e. absurd (d (same_true t u e))) (λ e. e)

module _ {A : Type 0} (p : A → Bool) (P : A → Type 0) (means : (a : A) → (p a ≡ true) ↔ P a) where
  pub every_means : (xs : List A) → every p xs ≡ true → All P xs
  unfolding every
  every_means [] e = tt
  every_means (x ∷ xs) e = let w = and_both (p x) (every p xs) e in ((means x).0 w.0, every_means xs w.1)

  pub means_every : (xs : List A) → All P xs → every p xs ≡ true
  unfolding every
  means_every [] w = refl
  means_every (x ∷ xs) w = and-true ((means x).1 w.0) (means_every xs w.1)

pub plain_iff : (b : ℕ) → (is_plain b ≡ true) ↔ Plain b
unfolding is_plain
plain_iff b = either (eqb b 9) (leb 32 b && leb b 126) (equal b 9) (both_pass (leb 32 b) (leb b 126) (at_least 32 b) (at_least b 126))

letter_iff : (b : ℕ) → (is_letter b ≡ true) ↔ Letter b
unfolding is_letter
letter_iff b = either (leb 65 b && leb b 90) (leb 97 b && leb b 122)
    (both_pass (leb 65 b) (leb b 90) (at_least 65 b) (at_least b 90))
    (both_pass (leb 97 b) (leb b 122) (at_least 97 b) (at_least b 122))

digit_iff : (b : ℕ) → (is_digit b ≡ true) ↔ Digit b
unfolding is_digit
digit_iff b = both_pass (leb 48 b) (leb b 57) (at_least 48 b) (at_least b 57)

name_byte_iff : (b : ℕ) → (is_name_byte b ≡ true) ↔ (Letter b ⊎ (Digit b ⊎ (b ≡ 95)))
name_byte_iff b = either (is_letter b) (is_digit b || eqb b 95) (letter_iff b) (either (is_digit b) (eqb b 95) (digit_iff b) (equal b 95))

-- ---- words are never empty

front_some : (b : ℕ) (ts : List Word) → All (λ w. 1 ≤ length w) ts → All (λ w. 1 ≤ length w) (in_front b ts)
unfolding in_front
front_some b [] w = (omega arith, tt)
front_some b (t ∷ ts) w = (omega arith, w.1)

choice-all : {A : Type 0} (P : A → Type 0) (t : Bool) (xs ys : List A) → All P xs → All P ys → All P (choice t xs ys)
choice-all P true xs ys v w = v
choice-all P false xs ys v w = w

pub words-some : (line : List ℕ) → All (λ w. 1 ≤ length w) (words_of line)
unfolding words_of
words-some [] = tt
words-some (b ∷ rest) =
    let w = words-some rest in
    choice-all _ (is_blank b) (words_of rest) (choice (word_ends rest) ((b ∷ []) ∷ words_of rest) (in_front b (words_of rest))) w
    (choice-all _ (word_ends rest) ((b ∷ []) ∷ words_of rest) (in_front b (words_of rest)) (omega arith, w) (front_some b (words_of rest) w))

-- ---- names

pub names_mean : (ws : List Word) → All (λ w. 1 ≤ length w) ws → every is_name ws ≡ true → All Name ws
unfolding every is_name
names_mean [] h e = tt
names_mean (w ∷ ws) h e =
    let v = and_both (every is_name_byte w && leb (length w) 8) (every is_name ws) e in
    let u = and_both (every is_name_byte w) (leb (length w) 8) v.0 in (
      record { some = h.0; most = leb-true (length w) 8 u.1; bytes = every_means is_name_byte _ name_byte_iff w u.0 },
      names_mean ws h.1 v.1,
    )

pub mean_names : (ws : List Word) → All Name ws → every is_name ws ≡ true
unfolding every is_name
mean_names [] n = refl
mean_names (w ∷ ws) n =
    and-true (and-true (means_every is_name_byte _ name_byte_iff w n.0.bytes) (le-leb (length w) 8 n.0.most)) (mean_names ws n.1)

-- ---- a word among some

pub among_mean : (t : Word) (us : List Word) → among t us ≡ true → Memᴰ t us
unfolding among
among_mean t us e = let r = some_entry (same t) us e in Memᴰ.cast (same_true t r.0 r.2) r.1

none_among : (t : Word) (us : List Word) → among t us ≡ false → All (λ u. t ≢ u) us
unfolding among some
none_among t [] e = tt
none_among t (u ∷ us) e = by_test (same t u)
    (λ s. absurd (false≢true (sym e ∙ or_left (some (same t) us) s)))
    (λ s. (λ q. false≢true (sym s ∙ (text_iff t u).1 q), none_among t us (rw s at e)))

among_none : (t : Word) (us : List Word) → All (λ u. t ≢ u) us → among t us ≡ false
among_none t us w = by_test (among t us) (λ e. absurd (all_entry (λ u. t ≢ u) (among_mean t us e) w refl)) (λ e. e)

pub distinct_mean : (us : List Word) → distinct us ≡ true → Once us
unfolding distinct
distinct_mean [] e = tt
distinct_mean (u ∷ us) e =
    let w = and_both (not (among u us)) (distinct us) e in
    (none_among u us (not-true (among u us) w.0), distinct_mean us w.1)

pub mean_distinct : (us : List Word) → Once us → distinct us ≡ true
unfolding distinct
mean_distinct [] o = refl
mean_distinct (u ∷ us) o = and-true (ap not (among_none u us o.0)) (mean_distinct us o.1)

-- ---- the line of a name

-- a declared name has a line, and the place that is found is it
pub place-named : (names : List Word) (w : Word) → among w names ≡ true → NameOf names (place names w) w
unfolding among some
place-named [] w e = absurd (false≢true e)
place-named (v ∷ names) w e = by_test (same v w)
    (λ s. subst (λ p. NameOf (v ∷ names) p w) (sym (place_found v names w s)) (omega arith, same_true v w s))
    (λ s.
    let none : same w v ≡ false = differs w v (λ q. false≢true (sym s ∙ (text_iff v w).1 (sym q))) in
    let r = place-named names w (rw none at e) in
    subst (λ p. NameOf (v ∷ names) p w) (sym (place_passed v names w s)) (omega (arith, r.0), r.1))

named_at : (names : List Word) (P : Word → Type 0) → All P names → (j : ℕ) (w : Word) → NameOf names j w → P w
named_at [] P a j w h = absurd (omega (arith, h.0))
named_at (v ∷ names) P a zero w h = subst P h.1 a.0
named_at (v ∷ names) P a (suc j) w h = named_at names P a.1 j w (omega (arith, h.0), h.1)

pub named-place : (names : List Word) → Once names → (j : ℕ) (w : Word) → NameOf names j w → place names w ≡ j
named-place [] o j w h = absurd (omega (arith, h.0))
named-place (v ∷ names) o zero w h = place_found v names w ((text_iff v w).1 h.1)
named-place (v ∷ names) o (suc j) w h =
    let rest : NameOf names j w = (omega (arith, h.0), h.1) in
    place_passed v names w (differs v w (named_at names (λ u. v ≢ u) o.0 j w rest)) ∙ ap suc (named-place names o.1 j w rest)

pub named-among : (names : List Word) (j : ℕ) (w : Word) → NameOf names j w → among w names ≡ true
unfolding among some
named-among [] j w h = absurd (omega (arith, h.0))
named-among (v ∷ names) zero w h = or_left (some (same w) names) ((text_iff w v).1 (sym h.1))
named-among (v ∷ names) (suc j) w h = or_right (same w v) (named-among names j w (omega (arith, h.0), h.1))

-- ---- the mask of some names

-- line j is on in the mask exactly if it is named
abbrev Named : List Word → List Word → ℕ → Type 0
Named names ws j = (w : Word) × Memᴰ w ws × NameOf names j w

module _ (names : List Word) (once : Once names) where
  mask_on : (ws : List Word) → every (λ w. among w names) ws ≡ true → Once ws → (j : ℕ) → (bit (mask_of names ws) j ≡ 1) ↔ Named names ws j
  unfolding mask_of every
  mask_on [] d o j = (
    λ e. let z = bit_of_zero j in absurd (omega arith),
    λ v. absurd (Memᴰ.not-nil v.1),
  )
  mask_on (w ∷ ws) d o j =
      let u = and_both (among w names) (every (λ v. among v names) ws) d in
      let p = place names w in
      let m = mask_of names ws in
      let there : NameOf names p w = place-named names w u.0 in
      let others = mask_on ws u.1 o.1 in
      let off : bit m p ≡ 0 = by_bit m p (λ e. e)
      (λ e. let v = (others p).0 e in absurd (all_entry (λ x. w ≢ x) v.1 o.0 (sym there.1 ∙ v.2.1))) in
      let is : 2 ^ p + m ≡ flip m p = omega (arith, flip-adds m p off) in
      rw is (by_equal p j
      (λ q. (
        λ e. (w, Memᴰ.head refl, subst (λ i. NameOf names i w) q there),
        λ v. subst (λ i. bit (flip m p) i ≡ 1) q (rw (bit-flip-same m p, off)),
      ))
      (λ n. (
        λ e. let v = (others j).0 (sym (bit_flip_other m p j n) ∙ e) in (v.0, Memᴰ.tail v.1, v.2),
        λ v. bit_flip_other m p j n ∙ (others j).1 (⊎_elim
            (λ q. absurd (n (named-place names once j w (subst (NameOf names j) q v.2))))
            (λ t. (v.0, t, v.2))
            (Memᴰ.cases_cons v.1)),
      )))

-- two masks with the same lines are the same
pub mask_one : (a b : ℕ) {P : ℕ → Type 0} → ((j : ℕ) → (bit a j ≡ 1) ↔ P j) → ((j : ℕ) → (bit b j ≡ 1) ↔ P j) → a ≡ b
mask_one a b f g = word_ext_all a b (λ j. by_bit a j
    (λ off. by_bit b j (λ o. off ∙ sym o) (λ o. let w = (f j).1 ((g j).0 o) in absurd (omega arith)))
    (λ on. on ∙ sym ((g j).1 ((f j).0 on))))

-- ---- gates

-- the target is named last
last_apart : (ws : List Word) → 1 ≤ length ws → ws ≡ controls_of ws ++ (target_of ws ∷ [])
unfolding controls_of target_of
last_apart ws h =
    let n = length ws - 1 in
    let e : suc n ≡ length ws = omega arith in
    sym (take-length ws) ∙ ap (λ k. take k ws) (sym e) ∙ take-suc ws n [] (omega arith)

module _ (cs : List Word) (t : Word) where
  length_last : length (cs ++ (t ∷ [])) ≡ suc (length cs)
  length_last = length-append cs (t ∷ []) ∙ omega arith

  controls_last : controls_of (cs ++ (t ∷ [])) ≡ cs
  unfolding controls_of
  controls_last = take_at cs (t ∷ []) (length (cs ++ (t ∷ [])) - 1) (omega (arith, length_last))

  target_last : target_of (cs ++ (t ∷ [])) ≡ t
  unfolding target_of
  target_last = get_or_at cs t [] [] (length (cs ++ (t ∷ [])) - 1) (omega (arith, length_last))

-- the gate of some names
abbrev pub gate_said : List Word → List Word → Gate
gate_said names ws = record { controls = mask_of names (controls_of ws); spare = 0; target = place names (target_of ws) }

every-parts : {A : Type 0} (p : A → Bool) (xs ys : List A) → every p (xs ++ ys) ≡ true → (every p xs ≡ true) × (every p ys ≡ true)
unfolding every
every-parts p [] ys e = (refl, e)
every-parts p (x ∷ xs) ys e =
    let w = and_both (p x) (every p (xs ++ ys)) e in
    let v = every-parts p xs ys w.1 in
    (and-true w.0 v.0, v.1)

module _ (names : List Word) (once : Once names) where
  abbrev is_declared : Word → Bool
  is_declared w = among w names

  all_declared : (ws : List Word) → every is_declared ws ≡ true → All (λ w. (j : ℕ) × NameOf names j w) ws
  unfolding every
  all_declared [] e = tt
  all_declared (w ∷ ws) e =
      let v = and_both (is_declared w) (every is_declared ws) e in
      ((place names w, place-named names w v.0), all_declared ws v.1)

  declared_all : (ws : List Word) → All (λ w. (j : ℕ) × NameOf names j w) ws → every is_declared ws ≡ true
  unfolding every
  declared_all [] a = refl
  declared_all (w ∷ ws) a = and-true (named-among names a.0.0 w a.0.1) (declared_all ws a.1)

  pub gate_means : (token : Word) (ws : List Word) → is_gate names token ws ≡ true → SaysGate names (token ∷ ws) (gate_said names ws)
  unfolding is_gate every
  gate_means token ws e =
      let cs = controls_of ws in
      let t = target_of ws in
      let counted = leb 1 (length ws) && same token (ascii "t" ++ decimal (length ws)) in
      let w = and_both counted (every is_declared ws && distinct cs) e in
      let u = and_both (leb 1 (length ws)) (same token (ascii "t" ++ decimal (length ws))) w.0 in
      let v = and_both (every is_declared ws) (distinct cs) w.1 in
      let parts : ws ≡ cs ++ (t ∷ []) = last_apart ws (leb-true 1 (length ws) u.0) in
      let many : length ws ≡ suc (length cs) = ap length parts ∙ length_last cs t in
      let d = every-parts is_declared cs (t ∷ []) (sym (ap (every is_declared) parts) ∙ v.0) in
      let o = distinct_mean cs v.1 in
      record {
        controls = cs;
        target = t;
        line-is = ap₂ (λ a b. a ∷ b) (same_true token (ascii "t" ++ decimal (length ws)) u.1 ∙ ap (λ k. ascii "t" ++ decimal k) many) parts;
        declared = all_declared cs d.0;
        once = o;
        controls_are = mask_on names once cs d.0 o;
        target_is = place-named names t (and_both (is_declared t) true d.1).0;
        spare_is = refl;
      }

  -- what a line says is a gate to the test, and the same
  pub record Tested (line : List Word) (g : Gate) : Type 0 where
    pub token : Word
    pub ws : List Word
    pub line-is : line ≡ token ∷ ws
    pub token_is : token ≡ ascii "t" ++ decimal (length ws)
    pub passes : is_gate names token ws ≡ true
    pub says : gate_of names ws ≡ g.controls ∷ g.spare ∷ g.target ∷ []

  pub gate_tested : (line : List Word) (g : Gate) → SaysGate names line g → Tested line g
  unfolding is_gate gate_of every
  gate_tested line g s =
      let cs = s.controls in
      let t = s.target in
      let ws = cs ++ (t ∷ []) in
      let token = ascii "t" ++ decimal (suc (length cs)) in
      let many = length_last cs t in
      let all : every is_declared cs ≡ true = declared_all cs s.declared in
      let is : token ≡ ascii "t" ++ decimal (length ws) = ap (λ k. ascii "t" ++ decimal k) (sym many) in
      let mask : mask_of names (controls_of ws) ≡ g.controls = ap (mask_of names) (controls_last cs t)
      ∙ mask_one (mask_of names cs) g.controls (mask_on names once cs all s.once) s.controls_are in
      let target : place names (target_of ws) ≡ g.target = ap (place names) (target_last cs t)
      ∙ named-place names once g.target t s.target_is in
      let spare : 0 ≡ g.spare = sym s.spare_is in
      record {
        token = token;
        ws = ws;
        line-is = s.line-is;
        token_is = is;
        passes = and-true
            (and-true (le-leb 1 (length ws) (omega (arith, many))) ((text_iff token (ascii "t" ++ decimal (length ws))).1 is))
            (and-true (every_append is_declared cs (t ∷ []) all (and-true (named-among names g.target t s.target_is) refl))
            (ap distinct (controls_last cs t) ∙ mean_distinct cs s.once));
        says = λ i. mask i ∷ spare i ∷ target i ∷ [];
      }
