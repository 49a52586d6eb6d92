-- Names as numbers.
use Rattle.std.specs.Prelude.{ℕ, ◌+◌, ◌*◌, ◌≡◌, true, Option, None, Some, IfSome, List, [], ◌∷◌, map, length}
use Rattle.std.specs.Borrow.{Bor}
use Rattle.std.specs.Coded.{Coded-set, coded_ℕ, coded_bool, coded_list, Unit-prop}
use Rattle.text.specs.Texts.{every}
use Rattle.text_words.specs.Words.{words_of}
use Rattle.real.specs.Form.{Word, is_name}

-- the bytes of a word as one number, the first one lowest
unfoldable pub key_of : Word → ℕ
key_of [] = 0
key_of (b ∷ word) = b + 256 * key_of word

-- the keys of some names, each at its place
abbrev pub AreKeys : List Word → Option (Bor (List ℕ)) → Type 0
AreKeys names keys = IfSome keys (λ held. held.now ≡ map key_of names)

-- a line of names is known: how many there are, and the key of each where there was room for all
pub record Known (line : List ℕ) (count : ℕ) (keys : Option (Bor (List ℕ))) : Type 0 where
  pub are : every is_name (words_of line) ≡ true
  pub counted : count ≡ length (words_of line)
  pub keyed : AreKeys (words_of line) keys

-- ---- there is one proof of each of these at most, as a type that keeps one asks

AreKeys-prop : (names : List Word) (keys : Option (Bor (List ℕ))) → IsProp (AreKeys names keys)
AreKeys-prop names None = Unit-prop
AreKeys-prop names (Some held) = Coded-set (coded_list coded_ℕ) held.now (map key_of names)

pub Known-prop : (line : List ℕ) (count : ℕ) (keys : Option (Bor (List ℕ))) → IsProp (Known line count keys)
Known-prop line count keys a b = λ i. record {
  are = Coded-set coded_bool (every is_name (words_of line)) true a.are b.are i;
  counted = Coded-set coded_ℕ count (length (words_of line)) a.counted b.counted i;
  keyed = AreKeys-prop (words_of line) keys a.keyed b.keyed i;
}
