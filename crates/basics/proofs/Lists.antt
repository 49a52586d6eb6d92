-- Laws of the lists that fault lists and sets are made with: `keep`, `some`, `each`, `up_from`.
use Prim.Native.Nat.{ℕ, zero, suc, ◌+◌, ◌*◌, ◌≤◌, ◌<◌}
use mathlib.Core.Path.{◌≡◌, refl, sym, ap, ◌∙◌, subst, fun_ext}
use mathlib.Core.Bool.{Bool, true, false, not, ◌&&◌, ◌||◌, false≢true}
use mathlib.Core.List.{List, [], ◌∷◌, map, Memᴰ, nil≢cons}
use native.Mathlib.Nat.{le_refl, zero-mul, add-zero}
use native.Mathlib.Numerals.{add-one}
use native.Mathlib.Omega.{arith}
use lib.ListN.{length, get_or, drop, length-append, length-map, drop_of_length-le}
use lib.Seq.{drop-cons}
use Rattle.basics.specs.Choice.{choice, count}
use Rattle.basics.specs.Lists.{up_from, keep, each, some, All}
use Rattle.basics.proofs.Tests.{choice-false, by_test, by_equal, or_right}
use Rattle.basics.proofs.All.{all_append, all_front, all_back}

count-not : (b : Bool) → count b + count (not b) ≡ 1
count-not true = refl
count-not false = refl

-- ---- keep

module _ {ℓ} {A : Type ℓ} where
  length-choice : (b : Bool) (a : A) (ys : List A) → length (choice b (a ∷ ys) ys) ≡ count b + length ys
  length-choice true a ys = omega arith
  length-choice false a ys = omega arith

  pub length-keep : (p : A → Bool) (a : A) (ys : List A) → length (keep p (a ∷ ys)) ≡ count (p a) + length (keep p ys)
  unfolding keep
  length-keep p a ys = length-choice (p a) a (keep p ys)

  -- what is kept and what is not are all
  pub keep-parts : (p : A → Bool) (ys : List A) → length (keep p ys) + length (keep (λ a. not (p a)) ys) ≡ length ys
  unfolding keep
  keep-parts p [] = refl
  keep-parts p (a ∷ ys) = omega (arith, length-keep p a ys, length-keep (λ y. not (p y)) a ys, count-not (p a), keep-parts p ys)

  pub keep-le : (p : A → Bool) (ys : List A) → length (keep p ys) ≤ length ys
  keep-le p ys = omega (arith, keep-parts p ys)

  pub keep-cong : {p q : A → Bool} → ((a : A) → p a ≡ q a) → (ys : List A) → keep p ys ≡ keep q ys
  keep-cong h ys = ap (λ p. keep p ys) (fun_ext h)

  keep-choice : (b : Bool) (q : A → Bool) (a : A) (ys zs : List A) → keep q ys ≡ zs → keep q (choice b (a ∷ ys) ys) ≡ choice (b && q a) (a ∷ zs) zs
  unfolding keep
  keep-choice true q a ys zs e = ap (λ l. choice (q a) (a ∷ l) l) e
  keep-choice false q a ys zs e = e

  -- kept twice
  pub keep-keep : (p q : A → Bool) (ys : List A) → keep q (keep p ys) ≡ keep (λ a. p a && q a) ys
  unfolding keep
  keep-keep p q [] = refl
  keep-keep p q (a ∷ ys) = keep-choice (p a) q a (keep p ys) (keep (λ y. p y && q y) ys) (keep-keep p q ys)

  all-choice : (P : A → Type 0) (b : Bool) (a : A) (ys : List A) → P a → All P ys → All P (choice b (a ∷ ys) ys)
  all-choice P true a ys h w = (h, w)
  all-choice P false a ys h w = w

  pub all_keep : (P : A → Type 0) (p : A → Bool) (ys : List A) → All P ys → All P (keep p ys)
  unfolding keep
  all_keep P p [] w = tt
  all_keep P p (a ∷ ys) w = all-choice P (p a) a (keep p ys) w.0 (all_keep P p ys w.1)

  -- nothing is kept where every test fails, and only there
  pub keep_none : (p : A → Bool) (ys : List A) → All (λ a. p a ≡ false) ys → keep p ys ≡ []
  unfolding keep
  keep_none p [] w = refl
  keep_none p (a ∷ ys) w = choice-false w.0 (a ∷ keep p ys) (keep p ys) ∙ keep_none p ys w.1

  choice-nil : (b : Bool) (a : A) (ys : List A) → choice b (a ∷ ys) ys ≡ [] → (b ≡ false) × (ys ≡ [])
  choice-nil true a ys e = absurd (nil≢cons (sym e))
  choice-nil false a ys e = (refl, e)

  pub none_kept : (p : A → Bool) (ys : List A) → keep p ys ≡ [] → All (λ a. p a ≡ false) ys
  unfolding keep
  none_kept p [] e = tt
  none_kept p (a ∷ ys) e = let h = choice-nil (p a) a (keep p ys) e in (h.0, none_kept p ys h.1)

  -- some entry passes
  pub some_entry : (p : A → Bool) (ys : List A) → some p ys ≡ true → (a : A) × Memᴰ a ys × (p a ≡ true)
  unfolding some
  some_entry p [] e = absurd (false≢true e)
  some_entry p (a ∷ ys) e = by_test (p a)
      (λ q. (a, Memᴰ.head refl, q))
      (λ q. let r = some_entry p ys (rw q at e) in (r.0, Memᴰ.tail r.1, r.2))

  pub entry_some : (p : A → Bool) {a : A} {ys : List A} → Memᴰ a ys → p a ≡ true → some p ys ≡ true
  unfolding some
  entry_some p (Memᴰ.head {x = y} {xs = ys} q) e = ap (λ b. b || some p ys) (ap p (sym q) ∙ e)
  entry_some p (Memᴰ.tail {x = y} {xs = ys} m) e = or_right (p y) (entry_some p m e)

  -- a search from place i on: an entry that passes, one that does not, and the end
  pub some-found : (p : A → Bool) (ys : List A) (i : ℕ) (d : A) → i < length ys → p (get_or ys i d) ≡ true → some p (drop i ys) ≡ true
  unfolding some
  some-found p ys i d h e = rw (drop-cons ys i d h, e)

  pub some_passed : (p : A → Bool) (ys : List A) (i : ℕ) (d : A) → i < length ys → p (get_or ys i d) ≡ false
      → some p (drop i ys) ≡ some p (drop (i + 1) ys)
  unfolding some
  some_passed p ys i d h e = rw (add-one i, drop-cons ys i d h, e)

  pub some_end : (p : A → Bool) (ys : List A) (i : ℕ) → length ys ≤ i → some p (drop i ys) ≡ false
  unfolding some
  some_end p ys i h = rw (drop_of_length-le ys h)

  -- an entry of a list all of whose entries have a property
  pub all_entry : (P : A → Type 0) {a : A} {ys : List A} → Memᴰ a ys → All P ys → P a
  all_entry P (Memᴰ.head q) w = subst P (sym q) w.0
  all_entry P (Memᴰ.tail m) w = all_entry P m w.1

-- ---- each: a property of all entries, and their number

module _ {ℓ κ} {A : Type ℓ} {B : Type κ} (f : A → List B) where
  pub all-each : (P : B → Type 0) (ys : List A) → All (λ a. All P (f a)) ys → All P (each f ys)
  unfolding each
  all-each P [] w = tt
  all-each P (a ∷ ys) w = all_append P (f a) (each f ys) w.0 (all-each P ys w.1)

  pub each_all : (P : B → Type 0) (ys : List A) → All P (each f ys) → All (λ a. All P (f a)) ys
  unfolding each
  each_all P [] w = tt
  each_all P (a ∷ ys) w = (all_front P (f a) (each f ys) w, each_all P ys (all_back P (f a) (each f ys) w))

  pub length-each : (c : ℕ) → ((a : A) → length (f a) ≡ c) → (ys : List A) → length (each f ys) ≡ length ys * c
  unfolding each
  length-each c h [] = sym (zero-mul c)
  length-each c h (a ∷ ys) = length-append (f a) (each f ys) ∙ omega (arith, h a, length-each c h ys)

-- ---- up_from

pub all-up_from : (P : ℕ → Type 0) (a k : ℕ) → ((i : ℕ) → a ≤ i → i < a + k → P i) → All P (up_from a k)
unfolding up_from
all-up_from P a zero h = tt
all-up_from P a (suc k) h = (h a (le_refl a) (omega arith), all-up_from P (suc a) k (λ i l m. h i (omega arith) (omega arith)))

pub up_from-all : (P : ℕ → Type 0) (a k : ℕ) → All P (up_from a k) → (i : ℕ) → a ≤ i → i < a + k → P i
unfolding up_from
up_from-all P a zero w i l m = absurd (omega arith)
up_from-all P a (suc k) w i l m = by_equal a i (λ e. subst P e w.0) (λ d. up_from-all P (suc a) k w.1 i (omega arith) (omega arith))

pub length-up_from : (a k : ℕ) → length (up_from a k) ≡ k
unfolding up_from
length-up_from a zero = refl
length-up_from a (suc k) = ap suc (length-up_from (suc a) k)

-- what a function makes of the number at place i
pub map_up_from_at : (f : ℕ → ℕ) (a k i : ℕ) → i < k → get_or (map f (up_from a k)) i 0 ≡ f (a + i)
unfolding up_from
map_up_from_at f a zero i h = absurd (omega arith)
map_up_from_at f a (suc k) zero h = ap f (sym (add-zero a))
map_up_from_at f a (suc k) (suc i) h = map_up_from_at f (suc a) k i (omega arith) ∙ ap f (omega arith)

pub length-map-up_from : (f : ℕ → ℕ) (a k : ℕ) → length (map f (up_from a k)) ≡ k
length-map-up_from f a k = length-map (up_from a k) f ∙ length-up_from a k
