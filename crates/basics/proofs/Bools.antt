-- Laws of tests beside those of `mathlib.Core.Bool`: where two tests differ.
use mathlib.Core.Path.{◌≡◌, refl}
use mathlib.Core.Bool.{Bool, true, false, not, ◌&&◌, beq}

pub beq_sym : (a b : Bool) → beq a b ≡ beq b a
beq_sym true true = refl
beq_sym true false = refl
beq_sym false true = refl
beq_sym false false = refl

-- a test differs from one that fails where it passes
pub differs_false : (b : Bool) → not (beq false b) ≡ b
differs_false true = refl
differs_false false = refl

-- a test differs from itself with one more where it passes and the other fails
pub differs_more : (a b : Bool) → not (beq (a && b) b) ≡ not a && b
differs_more true true = refl
differs_more true false = refl
differs_more false b = differs_false b

pub fails_more : (a b : Bool) → not (a && b) && b ≡ not a && b
fails_more true true = refl
fails_more true false = refl
fails_more false b = refl
