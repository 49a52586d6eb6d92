-- What an input has given after one more read, and where that stands.
use Rattle.std.proofs.Common.{◌≡◌, ℕ, ◌+◌, ◌≤◌, List, ◌++◌, Option, None, Some, length, take, sym, ap, ◌∙◌, subst, append_assoc, length-take-le}
use Rattle.std.proofs.Math.Seq.{take-append-add}
use Rattle.std.proofs.lemmas.List.{take-append-le}
use Rattle.std.specs.Io.KnownBytes.{Consumes}
use borrow.Rule.Slice.PartMut.{put_mid, post_of}

-- two reads, one after the other
consumes_both : (a b c : Option (List ℕ)) (xs ys : List ℕ) → Consumes a b xs → Consumes b c ys → Consumes a c (xs ++ ys)
consumes_both None b c xs ys p q = tt
consumes_both (Some x) None c xs ys p q = absurd p
consumes_both (Some x) (Some y) None xs ys p q = absurd q
consumes_both (Some x) (Some y) (Some z) xs ys p q = p ∙ ap (λ l. xs ++ l) q ∙ sym (append_assoc xs ys z)

-- the front of the room, and what was put behind it
front_grows : (done more rest : ℕ) (room part : List ℕ) → done ≤ length room → more ≤ length part
    → take (done + more) (put_mid done rest room part) ≡ take done room ++ take more part
front_grows done more rest room part within fits =
    let behind = post_of done rest room in
    ap (λ n. take (n + more) (put_mid done rest room part)) (sym (length-take-le done room within))
    ∙ take-append-add (take done room) (part ++ behind) more
    ∙ ap (λ l. take done room ++ l) (take-append-le more part behind fits)

-- what was given before stands in front, and what one more read gave stands behind it
pub read_more : (a b c : Option (List ℕ)) (done more rest : ℕ) (room part : List ℕ) → done ≤ length room → more ≤ length part
    → Consumes a b (take done room) → Consumes b c (take more part) → Consumes a c (take (done + more) (put_mid done rest room part))
read_more a b c done more rest room part within fits before now =
    subst (Consumes a c) (sym (front_grows done more rest room part within fits)) (consumes_both a b c (take done room) (take more part) before now)
