-- A choice by a test.
use Rattle.std.specs.Prelude.{ℕ, Bool, true, false}

-- the first where the test passes, and else the second
abbrev pub choice {ℓ} : {A : Type ℓ} → Bool → A → A → A
choice true a b = a
choice false a b = b

-- 1 for a test that passes, and 0 for one that fails
abbrev pub count : Bool → ℕ
count true = 1
count false = 0
