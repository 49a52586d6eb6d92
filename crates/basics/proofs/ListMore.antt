-- More laws of lists: lists joined, the first entry that passes a test, and entries counted.
use Prim.Native.Nat.{ℕ, zero, suc, ◌+◌, ◌≤◌, ◌<◌}
use mathlib.Core.Path.{◌≡◌, refl, sym, ap, ◌∙◌}
use mathlib.Core.Bool.{Bool, true, false}
use mathlib.Core.List.{List, [], ◌∷◌, ◌++◌, Memᴰ, nil≢cons}
use native.Mathlib.Omega.{arith}
use lib.ListN.{length, get_or, drop}
use lib.Dec.{eqb}
use borrow.Author.Tests.{eq-eqb, ne_eqb}
use Rattle.basics.specs.Choice.{choice, count}
use Rattle.basics.specs.Lists.{up_from, keep, each, some, All}
use Rattle.basics.proofs.Tests.{by_test, by_equal, bool_ext}
use Rattle.basics.proofs.All.{all_map}
use Rattle.basics.proofs.Lists.{length-keep, keep_none, some_entry, entry_some, all-up_from}

-- every entry of a list is one
pub all_members : {A : Type 0} (ys : List A) → All (λ a. Memᴰ a ys) ys
all_members [] = tt
all_members (a ∷ ys) = (Memᴰ.head refl, all_map (λ b. Memᴰ.tail) ys (all_members ys))

module _ {ℓ} {A : Type ℓ} where
  choice-append : (b : Bool) (a : A) (ys zs : List A) → choice b (a ∷ ys) ys ++ zs ≡ choice b (a ∷ (ys ++ zs)) (ys ++ zs)
  choice-append true a ys zs = refl
  choice-append false a ys zs = refl

  -- ---- lists joined

  pub keep_append : (p : A → Bool) (ys zs : List A) → keep p (ys ++ zs) ≡ keep p ys ++ keep p zs
  unfolding keep
  keep_append p [] zs = refl
  keep_append p (a ∷ ys) zs = ap (λ l. choice (p a) (a ∷ l) l) (keep_append p ys zs) ∙ sym (choice-append (p a) a (keep p ys) (keep p zs))

  -- ---- lists with the same entries

  pub some-within : (p : A → Bool) (ys zs : List A) → ((a : A) → Memᴰ a ys → Memᴰ a zs) → some p ys ≡ true → some p zs ≡ true
  some-within p ys zs h e = let r = some_entry p ys e in entry_some p (h r.0 r.1) r.2

  pub some_same : (p : A → Bool) (ys zs : List A) → ((a : A) → Memᴰ a ys → Memᴰ a zs) → ((a : A) → Memᴰ a zs → Memᴰ a ys)
      → some p ys ≡ some p zs
  some_same p ys zs f g = bool_ext (some-within p ys zs f) (some-within p zs ys g)

  -- ---- the first entry that passes: those before it fail

  pub record FirstKept (p : A → Bool) (ys : List A) (a : A) (rest : List A) : Type ℓ where
    pub before : List A
    pub after : List A
    pub parts : ys ≡ before ++ (a ∷ after)
    pub passes : p a ≡ true
    pub failed : All (λ b. p b ≡ false) before
    pub kept : rest ≡ keep p after

  pub first_kept : (p : A → Bool) (ys : List A) (a : A) (rest : List A) → keep p ys ≡ a ∷ rest → FirstKept p ys a rest
  unfolding keep
  first_kept p [] a rest e = absurd (nil≢cons e)
  first_kept p (b ∷ ys) a rest e = by_test (p b)
      (λ q.
      let w : b ∷ keep p ys ≡ a ∷ rest = rw q at e in
      let head : b ≡ a = ap (λ l. get_or l 0 b) w in
      record { before = []; after = ys; parts = ap (λ c. c ∷ ys) head; passes = ap p (sym head) ∙ q; failed = tt; kept = sym (ap (drop 1) w) })
      (λ q.
      let r = first_kept p ys a rest (rw q at e) in
      record {
        before = b ∷ r.before;
        after = r.after;
        parts = ap (λ l. b ∷ l) r.parts;
        passes = r.passes;
        failed =
            (q, r.failed);
        kept = r.kept;
      })

-- ---- each

module _ {ℓ κ} {A : Type ℓ} {B : Type κ} where
  pub keep-each : (p : B → Bool) (f : A → List B) (ys : List A) → keep p (each f ys) ≡ each (λ a. keep p (f a)) ys
  unfolding keep each
  keep-each p f [] = refl
  keep-each p f (a ∷ ys) = keep_append p (f a) (each f ys) ∙ ap (λ l. keep p (f a) ++ l) (keep-each p f ys)

  -- one made of each entry, and two
  pub count-one : (p : B → Bool) (f : A → B) (ys : List A) → length (keep p (each (λ a. f a ∷ []) ys)) ≡ length (keep (λ a. p (f a)) ys)
  unfolding each keep
  count-one p f [] = refl
  count-one p f (a ∷ ys) = omega (arith, length-keep p (f a) (each (λ b. f b ∷ []) ys), length-keep (λ b. p (f b)) a ys, count-one p f ys)

  pub count_two : (p : B → Bool) (f g : A → B) (ys : List A)
      → length (keep p (each (λ a. f a ∷ g a ∷ []) ys)) ≡ length (keep (λ a. p (f a)) ys) + length (keep (λ a. p (g a)) ys)
  unfolding each keep
  count_two p f g [] = refl
  count_two p f g (a ∷ ys) =
      let rest : List B = each (λ b. f b ∷ g b ∷ []) ys in
      omega (
        arith,
        length-keep p (f a) (g a ∷ rest),
        length-keep p (g a) rest,
        length-keep (λ b. p (f b)) a ys,
        length-keep (λ b. p (g b)) a ys,
        count_two p f g ys,
      )

-- a number among those that count up stands there once
pub count_number : (t a k : ℕ) → a ≤ t → t < a + k → length (keep (λ i. eqb i t) (up_from a k)) ≡ 1
unfolding up_from
count_number t a zero lo hi = absurd (omega arith)
count_number t a (suc k) lo hi = by_equal a t
    (λ e.
    let none : keep (λ i. eqb i t) (up_from (suc a) k) ≡ [] = keep_none (λ i. eqb i t) (up_from (suc a) k)
    (all-up_from _ (suc a) k (λ i l m. ne_eqb i t (omega arith))) in
    omega (arith, length-keep (λ i. eqb i t) a (up_from (suc a) k), ap count (eq-eqb a t e), ap length none))
    (λ d. omega
    (arith, length-keep (λ i. eqb i t) a (up_from (suc a) k), ap count (ne_eqb a t d), count_number t (suc a) k (omega arith) (omega arith)))
