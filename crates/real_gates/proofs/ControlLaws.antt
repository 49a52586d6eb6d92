-- Laws of controls read one by one: each that is declared and new makes one line of the mask 1, and any other ends the reading.
use Rattle.std.specs.Prelude.{ℕ, zero, suc, ◌+◌, ◌-◌, ◌^◌, ◌<◌, ◌≤◌, ◌≡◌, refl, Bool, true, false, not, ◌&&◌, ◌||◌, eqb}
use Rattle.std.specs.Prelude.{Option, Some, None, is_some, List, [], ◌∷◌, ◌++◌, length, take, drop}
use Rattle.std.proofs.Common.{sym, ap, ◌∙◌, arith, add-one, get_or, drop-cons, length-drop, take-suc, take-take, get_or-take, length-take-le}
use Rattle.std.proofs.lemmas.Bool.{eq-eqb, ne_eqb, not-true, false≢true}
use mathlib.Core.Bool.{and_assoc, or_assoc, and-true as and-all, or-false as or-none}
use Rattle.basics.specs.Lists.{some}
use Rattle.basics.proofs.Tests.{by_test, by_equal, and_both, and-true, and_left, and_right, or-false, or_right, or_neither}
use Rattle.words.specs.Word.{bit, flip}
use Rattle.words.proofs.Bits.{bit_le, bit_of_zero}
use Rattle.words.proofs.Lines.{bit-flip-same, bit_flip_other, flip-adds}
use Rattle.text.specs.Texts.{every, same, among, distinct, place}
use Rattle.text.proofs.SameLaws.{same_refl, same_true, place_found, place_passed, among_placed, among_nowhere}
use Rattle.text_words.specs.Runs.{IsPlace}
use Rattle.text_words.proofs.PlaceLaws.{place-le}
use Rattle.real.specs.Form.{Word, mask_of}
use Rattle.real_gates.specs.Gates.{are_controls, Masked}

-- a word is declared where it has a place
pub among_found : (names : List Word) (word : Word) (found : Option ℕ) → IsPlace names word found → is_some found ≡ among word names
among_found names word None p = sym (among_nowhere names word p)
among_found names word (Some i) p = sym (among_placed names word (λ z. omega (arith, p.0, p.1)))

-- ---- one text more at the end

some_last : {A : Type 0} (p : A → Bool) (xs : List A) (x : A) → some p (xs ++ (x ∷ [])) ≡ some p xs || p x
unfolding some
some_last p [] x = or-none (p x)
some_last p (y ∷ xs) x = ap (λ b. p y || b) (some_last p xs x) ∙ sym (or_assoc (p y) (some p xs) (p x))

among_last : (t : Word) (us : List Word) (u : Word) → among t (us ++ (u ∷ [])) ≡ among t us || same t u
unfolding among
among_last t us u = some_last (same t) us u

distinct_last : (us : List Word) (u : Word) → distinct us ≡ true → among u us ≡ false → distinct (us ++ (u ∷ [])) ≡ true
unfolding distinct among some
distinct_last [] u d e = refl
distinct_last (v ∷ us) u d e =
    let w = and_both (not (among v us)) (distinct us) d in
    let n = or_neither (same u v) (among u us) e in
    let other : same v u ≡ false =
    by_test (same v u) (λ s. absurd (false≢true (sym n.0 ∙ ap (same u) (same_true v u s) ∙ same_refl u))) (λ s. s) in
    let none : among v us ≡ false = not-true (among v us) w.0 in
    and-true (ap not (among_last v us u ∙ or-false none other)) (distinct_last us u w.1 n.1)

pub every_last : {A : Type 0} (p : A → Bool) (xs : List A) (x : A) → every p (xs ++ (x ∷ [])) ≡ every p xs && p x
unfolding every
every_last p [] x = and-all (p x)
every_last p (y ∷ xs) x = ap (λ b. p y && b) (every_last p xs x) ∙ sym (and_assoc (p y) (every p xs) (p x))

-- ---- one entry that fails, one that stood before

every_fails : {A : Type 0} (p : A → Bool) (xs : List A) (i : ℕ) (z : A) → i < length xs → p (get_or xs i z) ≡ false → every p xs ≡ false
unfolding every
every_fails p [] i z h e = absurd (omega arith)
every_fails p (x ∷ xs) zero z h e = and_left (every p xs) e
every_fails p (x ∷ xs) (suc i) z h e = and_right (p x) (every_fails p xs i z (omega arith) e)

distinct_fails : (us : List Word) (i : ℕ) → i < length us → among (get_or us i []) (take i us) ≡ true → distinct us ≡ false
unfolding distinct among some
distinct_fails [] i h e = absurd (omega arith)
distinct_fails (u ∷ us) zero h e = absurd (false≢true e)
distinct_fails (u ∷ us) (suc i) h e = by_test (same (get_or us i []) u)
    (λ s. and_left (distinct us) (ap not (ap (λ t. among t us) (sym (same_true (get_or us i []) u s))
    ∙ among_placed us (get_or us i []) (λ z. let m = place-le us i (omega arith) in omega arith))))
    (λ s. and_right (not (among u us)) (distinct_fails us i (omega arith) (ap (λ b. b || among (get_or us i []) (take i us)) (sym s) ∙ e)))

-- ---- the controls so far

abbrev pub declared : List Word → Word → Bool
declared names w = among w names

-- a text stands where its place is
placed : (us : List Word) (t : Word) → place us t < length us → get_or us (place us t) [] ≡ t
placed [] t h = absurd (omega arith)
placed (u ∷ us) t h = by_test (same u t)
    (λ e. ap (λ i. get_or (u ∷ us) i []) (place_found u us t e) ∙ same_true u t e)
    (λ e. let w = place_passed u us t e in ap (λ i. get_or (u ∷ us) i []) w ∙ placed us t (omega arith))

-- the mask of one word more
mask_more : (names ws : List Word) (w : Word) → mask_of names (ws ++ (w ∷ [])) ≡ mask_of names ws + 2 ^ place names w
unfolding mask_of
mask_more names [] w = omega arith
mask_more names (v ∷ ws) w = let i = mask_more names ws w in omega arith

-- the mask of some controls: the line of a declared text is 1 where it is one of them
pub record Masks (names ws : List Word) (m : ℕ) : Type 0 where
  pub right : are_controls names ws ≡ true
  pub is : m ≡ mask_of names ws
  pub on : (t : Word) → place names t < length names → eqb (bit m (place names t)) 1 ≡ among t ws

masks_none : (names : List Word) → Masks names [] 0
unfolding every distinct among some mask_of
masks_none names = record { right = refl; is = refl; on = λ t h. rw (bit_of_zero (place names t)) }

masks_last : (names ws : List Word) (m : ℕ) (w : Word) → Masks names ws m → place names w < length names → bit m (place names w) ≡ 0
    → Masks names (ws ++ (w ∷ [])) (flip m (place names w))
masks_last names ws m w k h e =
    let r = and_both (every (declared names) ws) (distinct ws) k.right in
    let new : among w ws ≡ false = sym (k.on w h) ∙ ne_eqb (bit m (place names w)) 1 (λ z. omega arith) in
    record {
      right = and-true
          (every_last (declared names) ws w ∙ and-true r.0 (among_placed names w (λ z. omega arith)))
          (distinct_last ws w r.1 new);
      is = flip-adds m (place names w) e ∙ ap (λ x. x + 2 ^ place names w) k.is ∙ sym (mask_more names ws w);
      on = λ t l. by_equal (place names w) (place names t)
          (λ z.
          let same_text : w ≡ t = sym (placed names w h) ∙ ap (λ i. get_or names i []) z ∙ placed names t l in
          eq-eqb (bit (flip m (place names w)) (place names t)) 1
          (ap (bit (flip m (place names w))) (sym z) ∙ bit-flip-same m (place names w) ∙ ap (λ b. 1 - b) e)
          ∙ sym (among_last t ws w ∙ or_right (among t ws) (ap (same t) same_text ∙ same_refl t)))
          (λ d.
          let other : same t w ≡ false = by_test (same t w) (λ s. absurd (d (ap (place names) (sym (same_true t w s))))) (λ s. s) in
          ap (λ b. eqb b 1) (bit_flip_other m (place names w) (place names t) d) ∙ k.on t l
          ∙ sym (among_last t ws w ∙ ap (λ b. among t ws || b) other ∙ or-none (among t ws)));
    }

-- some words were read: the others, and the mask of these
pub record Reading (names words left : List Word) (mask i : ℕ) : Type 0 where
  pub rest : left ≡ drop i words
  pub masks : Masks names (take i words) mask

pub reading_none : (names words : List Word) → Reading names words words 0 0
reading_none names words = record { rest = refl; masks = masks_none names }

pub masked : {names words left : List Word} {mask i : ℕ} → Reading names words left mask i → Masked names words i mask left
masked k = record { rest = k.rest; right = k.masks.right; is = k.masks.is }

-- the next word: it is one control more, or ends the reading
module _ {names words left : List Word} {mask i wanted : ℕ} (k : Reading names words left mask i)
    (h : i < wanted) (enough : wanted ≤ length words) where
  pub some_left : left ≡ [] → ⊥
  some_left e = let y = ap length (sym k.rest ∙ e) in omega (arith, length-drop i words)

  module _ {word : Word} {more : List Word} (e : left ≡ word ∷ more) where
    parts : word ∷ more ≡ get_or words i [] ∷ drop (suc i) words
    parts = sym e ∙ k.rest ∙ drop-cons words i [] (omega arith)

    next : get_or words i [] ≡ word
    next = let p = parts in cc

    after : more ≡ drop (suc i) words
    after = let p = parts in cc

    here : get_or (take wanted words) i [] ≡ word
    here = get_or-take wanted words i [] h ∙ next

    earlier : take i (take wanted words) ≡ take i words
    earlier = take-take i wanted words (omega arith)

    below : i < length (take wanted words)
    below = let f = length-take-le wanted words enough in omega arith

    pub not_declared : place names word ≡ length names → are_controls names (take wanted words) ≡ false
    not_declared f = and_left (distinct (take wanted words)) (every_fails (declared names) (take wanted words) i [] below
        (ap (declared names) here ∙ among_nowhere names word f))

    module _ {line : ℕ} (p : line ≡ place names word) (q : line < length names) where
      pub twice_named : bit mask line ≡ 1 → are_controls names (take wanted words) ≡ false
      twice_named f = and_right (every (declared names) (take wanted words)) (distinct_fails (take wanted words) i below
          (rw (here, earlier) (sym (k.masks.on word (omega arith)) ∙ eq-eqb (bit mask (place names word)) 1 (rw (← p) f))))

      pub control_more : (bit mask line ≡ 1 → ⊥) → Reading names words more (flip mask line) (i + 1)
      control_more d =
          let w : take (i + 1) words ≡ take i words ++ (word ∷ []) = rw (add-one i, ← next) (take-suc words i [] (omega arith)) in
          let b = bit_le mask line in
          let off : bit mask line ≡ 0 = omega arith in
          record {
            rest = rw (add-one i) after;
            masks = rw (w, p) (masks_last names (take i words) mask word k.masks (omega arith) (rw (← p) off));
          }
