-- What reading gave.
use Rattle.std.specs.Prelude.{ℕ, ◌≡◌, List, length, take, Option, IfSome}

-- where the bytes of the input are known, those that were read are the first of them, as many as the room holds
abbrev pub IsFront : ℕ → Option (List ℕ) → List ℕ → Type 0
IsFront read known room = IfSome known (λ bytes. take read room ≡ take (length room) bytes)
