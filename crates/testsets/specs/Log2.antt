-- The whole part of the logarithm to the base 2.
use Rattle.std.specs.Prelude.{ℕ, zero, suc, ◌/◌, ltb}
use Rattle.basics.specs.Choice.{choice}

-- how often m can be halved before it is below 2, in at most k halvings: k = m is enough
unfoldable pub log2_in : ℕ → ℕ → ℕ
log2_in zero m = 0
log2_in (suc k) m = let r = suc (log2_in k (m / 2)) in choice (ltb m 2) 0 r

unfoldable pub log2 : ℕ → ℕ
log2 m = log2_in m m
