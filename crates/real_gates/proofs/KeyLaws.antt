-- Laws of names as numbers: a key tells its name, so the place of a name's key is the name's place.
use Rattle.std.specs.Prelude.{ℕ, zero, suc, ◌+◌, ◌-◌, ◌*◌, ◌^◌, ◌<◌, ◌≤◌, ◌≡◌, refl, true, false, ◌&&◌, ◌||◌, eqb, leb}
use Rattle.std.specs.Prelude.{Option, Some, None, MatchOption, List, [], ◌∷◌, ◌++◌, map, length, take, drop}
use Rattle.std.specs.Borrow.{Bor}
use Rattle.std.specs.List.{position, position_or_len}
use Rattle.std.proofs.Common.{ap, ap₂, sym, ◌∙◌, arith, add-one}
use Rattle.std.proofs.Common.{get_or, set, drop-cons, take-suc, take-suc-set, take-take, take_all}
use Rattle.std.proofs.lemmas.Bool.{eq-eqb, ne_eqb, eqb-true, eqb-false, leb-true, false≢true}
use Rattle.std.proofs.lemmas.List.{append-nil, append_assoc, get_or-append_right, length-append, length-drop, length-map, map-append, nil_from_length}
use lib.Pow.{pow-add, pow_mono}
use lib.Pointwise.{pointwise}
use Rattle.basics.proofs.Tests.{by_test, and_both}
use Rattle.text.specs.Texts.{every, same, place}
use Rattle.text.specs.Decimal.{is_digit}
use Rattle.text.proofs.SameLaws.{same_refl, same_true, same_is_pointwise, place_passed, place_none}
use Rattle.text_words.specs.Runs.{IsPlace}
use Rattle.text_words.proofs.PlaceLaws.{placed}
use Rattle.real.specs.Form.{Word, is_letter, is_name_byte, is_name}
use Rattle.real_gates.specs.Keys.{key_of, AreKeys}

-- ---- the key of a word, from its last byte on, eight bits a byte

pub record Keying (word left : Word) (key : ℕ) : Type 0 where
  pub tail : Word
  pub whole : word ≡ left ++ tail
  pub is : key ≡ key_of tail
  pub below : key < 2 ^ (8 * length tail)

pub keying_none : {word left : Word} → left ≡ word → Keying word left 0
unfolding key_of
keying_none {word} {left} e = record { tail = []; whole = sym (append-nil left ∙ e); is = refl; below = omega arith }

module _ {word left : Word} {key : ℕ} (so_far : Keying word left key) (front : Word) (byte : ℕ) (e : left ≡ front ++ (byte ∷ [])) where
  split : word ≡ front ++ (byte ∷ so_far.tail)
  split = so_far.whole ∙ rw e (append_assoc front (byte ∷ []) so_far.tail)

  pub byte_at : get_or word (length front) 0 ≡ byte
  byte_at =
      let none : length front - length front ≡ 0 = omega arith in
      rw split (get_or-append_right front (byte ∷ so_far.tail) (length front) (length front) 0 refl (omega arith) ∙ rw none refl)

  -- there is room for one byte more
  pub key_room : length word ≤ 8 → key < 2 ^ 56
  key_room h =
      let b = so_far.below in
      let y = ap length split in
      let m : 8 * length so_far.tail ≤ 56 = omega (arith, length-append front (byte ∷ so_far.tail)) in
      omega (arith, pow_mono {i = 8 * length so_far.tail} {j = 56} m)

  pub keying_more : byte < 256 → Keying word front (key * 256 + byte)
  unfolding key_of
  keying_more h =
      let b = so_far.below in
      let g : 8 * suc (length so_far.tail) ≡ 8 * length so_far.tail + 8 = omega arith in
      record {
        tail = byte ∷ so_far.tail;
        whole = split;
        is = omega (arith, so_far.is);
        below = rw g (omega (arith, pow-add 2 (8 * length so_far.tail) 8));
      }

pub keyed : {word left : Word} {key : ℕ} → Keying word left key → length left ≡ 0 → key ≡ key_of word
keyed {word} {left} k e = k.is ∙ ap key_of (sym (k.whole ∙ ap (λ l. l ++ k.tail) (nil_from_length left e)))

-- ---- a key tells its name

between : (low high b : ℕ) → leb low b && leb b high ≡ true → (low ≤ b) × (b ≤ high)
between low high b h = let w = and_both (leb low b) (leb b high) h in (leb-true low b w.0, leb-true b high w.1)

name_byte : (b : ℕ) → is_name_byte b ≡ true → (1 ≤ b) × (b < 256)
unfolding is_letter is_digit
name_byte b h = by_test (is_letter b)
    (λ e. by_test (leb 65 b && leb b 90)
    (λ f. let w = between 65 90 b f in (omega arith, omega arith))
    (λ f. let w = between 97 122 b (rw f at e) in (omega arith, omega arith)))
    (λ e. by_test (is_digit b)
    (λ f. let w = between 48 57 b f in (omega arith, omega arith))
    (λ f. let w = eqb-true b 95 (sym (ap₂ (λ x y. x || (y || eqb b 95)) e f) ∙ h) in (omega arith, omega arith)))

key_one : (t u : Word) → every is_name_byte t ≡ true → every is_name_byte u ≡ true → key_of t ≡ key_of u → t ≡ u
unfolding key_of every
key_one [] [] h k e = refl
key_one [] (c ∷ u) h k e = let w = name_byte c (and_both (is_name_byte c) (every is_name_byte u) k).0 in absurd (omega arith)
key_one (b ∷ t) [] h k e = let w = name_byte b (and_both (is_name_byte b) (every is_name_byte t) h).0 in absurd (omega arith)
key_one (b ∷ t) (c ∷ u) h k e =
    let y = and_both (is_name_byte b) (every is_name_byte t) h in
    let z = and_both (is_name_byte c) (every is_name_byte u) k in
    let v = name_byte b y.0 in
    let w = name_byte c z.0 in
    ap₂ (λ x l. x ∷ l) (omega arith) (key_one t u y.1 z.1 (omega arith))

name_bytes : (t : Word) → is_name t ≡ true → every is_name_byte t ≡ true
unfolding is_name
name_bytes t h = (and_both (every is_name_byte t) (leb (length t) 8) h).0

pub name_length : (t : Word) → is_name t ≡ true → length t ≤ 8
unfolding is_name
name_length t h = leb-true (length t) 8 (and_both (every is_name_byte t) (leb (length t) 8) h).1

pub key_name : (t u : Word) → is_name t ≡ true → is_name u ≡ true → key_of t ≡ key_of u → t ≡ u
key_name t u h k e = key_one t u (name_bytes t h) (name_bytes u k) e

-- ---- the place of a key is that of its name

same_key : (name word : Word) → is_name name ≡ true → is_name word ≡ true → eqb (key_of name) (key_of word) ≡ pointwise eqb name word
same_key name word h k = by_test (same name word)
    (λ e. eq-eqb (key_of name) (key_of word) (ap key_of (same_true name word e)) ∙ sym (same_is_pointwise name word ∙ e))
    (λ e. ne_eqb (key_of name) (key_of word) (λ z.
    absurd (false≢true (sym e ∙ ap (same name) (sym (key_name name word h k z)) ∙ same_refl name)))
    ∙ sym (same_is_pointwise name word ∙ e))

key_place : (names : List Word) (word : Word) → every is_name names ≡ true → is_name word ≡ true
    → position_or_len (λ key. eqb key (key_of word)) (map key_of names) ≡ position_or_len (λ name. pointwise eqb name word) names
unfolding every
key_place [] word h k = refl
key_place (name ∷ names) word h k =
    let w = and_both (is_name name) (every is_name names) h in
    rw (same_key name word w.0 k, key_place names word w.1 k) refl

pub key_found : (names : List Word) (word : Word) (keys : List ℕ) (found : Option ℕ) → every is_name names ≡ true → is_name word ≡ true
    → keys ≡ map key_of names → found ≡ position (λ key. eqb key (key_of word)) keys → IsPlace names word found
key_found names word keys found h k e f =
    placed names word found (f ∙ rw (e, key_place names word h k, length-map names key_of) refl)

-- what is no name is none of the names
pub no_name_place : (names : List Word) (word : Word) → every is_name names ≡ true → is_name word ≡ false → place names word ≡ length names
unfolding every
no_name_place [] word h k = place_none word
no_name_place (name ∷ names) word h k =
    let w = and_both (is_name name) (every is_name names) h in
    by_test (same name word)
    (λ e. absurd (false≢true (sym k ∙ sym (ap is_name (same_true name word e)) ∙ w.0)))
    (λ e. place_passed name names word e ∙ ap suc (no_name_place names word w.1 k))

-- ---- the keys of the first names, one more a turn

-- one of some names is a name
every_at : (names : List Word) (i : ℕ) → i < length names → every is_name names ≡ true → is_name (get_or names i []) ≡ true
unfolding every
every_at [] i h e = absurd (omega arith)
every_at (name ∷ names) zero h e = (and_both (is_name name) (every is_name names) e).0
every_at (name ∷ names) (suc i) h e = every_at names i (omega arith) (and_both (is_name name) (every is_name names) e).1

pub record Keyed (names left : List Word) (keys : List ℕ) (i : ℕ) : Type 0 where
  pub rest : left ≡ drop i names
  pub keyed : take i keys ≡ map key_of (take i names)

pub keyed_none : {names left : List Word} {keys : List ℕ} {i : ℕ} → left ≡ names → i ≡ 0 → Keyed names left keys i
keyed_none e z = record { rest = rw z e; keyed = rw z refl }

module _ {names left : List Word} {keys : List ℕ} {i : ℕ} (so_far : Keyed names left keys i) where
  -- no name is left, or no room
  pub keyed_all : {n : ℕ} → i + n ≡ length keys → (0 < n → left ≡ []) → length names ≤ length keys → take (length names) keys ≡ map key_of names
  keyed_all {n} e f h =
      let over : length names ≤ i = by_test (eqb n 0)
      (λ z. let y = eqb-true n 0 z in omega arith)
      (λ z. let y = ap length (sym so_far.rest ∙ f (let x = eqb-false n 0 z in omega arith)) in omega (arith, length-drop i names)) in
      sym (take-take (length names) i keys over) ∙ ap (take (length names)) so_far.keyed
      ∙ ap (λ l. take (length names) (map key_of l)) (take_all i names over)
      ∙ take_all (length names) (map key_of names) (omega (arith, length-map names key_of))

  module _ {name : Word} {more : List Word} (e : left ≡ name ∷ more) where
    within : i < length names
    within = let y = ap length (sym so_far.rest ∙ e) in omega (arith, length-drop i names)

    parts : name ∷ more ≡ get_or names i [] ∷ drop (suc i) names
    parts = sym e ∙ so_far.rest ∙ drop-cons names i [] within

    first : name ≡ get_or names i []
    first = let p = parts in cc

    pub next_length : every is_name names ≡ true → length name ≤ 8
    next_length h = name_length name (rw first (every_at names i within h))

    pub keyed_more : i < length keys → Keyed names more (set keys i (key_of name)) (i + 1)
    keyed_more h =
        let p = parts in
        let after : more ≡ drop (suc i) names = cc in
        record {
          rest = rw (add-one i) after;
          keyed =
              let append = map-append key_of (take i names) (get_or names i [] ∷ []) in
              rw (add-one i, take-suc-set keys i (key_of name) h, take-suc names i [] within, append, so_far.keyed, first) refl;
        }

pub keys_held : (P : Type 0) {Q : Bor (List ℕ) → Type 0} (names : List Word) (keys : Option (Bor (List ℕ))) → MatchOption keys P Q
    → ((held : Bor (List ℕ)) → Q held → held.now ≡ map key_of names) → AreKeys names keys
keys_held P names None m f = tt
keys_held P names (Some held) m f = f held m
