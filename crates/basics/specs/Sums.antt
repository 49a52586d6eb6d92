-- Sums over numbers that count up.
use Rattle.std.specs.Prelude.{ℕ, zero, suc, ◌+◌}

-- f a + f (a + 1) + .., of them k
unfoldable pub sum_from : (ℕ → ℕ) → ℕ → ℕ → ℕ
sum_from f a zero = 0
sum_from f a (suc k) = f a + sum_from f (suc a) k
