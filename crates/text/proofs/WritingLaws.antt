-- Laws of what is put: one part after another is both together, and where there is room for both there is for each.
use Rattle.std.specs.Prelude.{ℕ, ◌+◌, ◌/◌, ◌%◌, ◌≤◌, ◌<◌, ◌≡◌, List, [], ◌∷◌, ◌++◌, length}
use Rattle.std.proofs.Common.{arith, refl, sym, ◌∙◌, ap, length-append}
use Rattle.std.proofs.lemmas.List.Edits.{sets}
use lib.Seq.{length-sets}
use Rattle.basics.proofs.PutLaws.{sets-append}
use Rattle.text.specs.Decimal.{digit, decimal}
use Rattle.text.specs.Writing.{Fits, Put}
use Rattle.text.specs.declared.writing.Writer.{Writer}
use Rattle.text.proofs.TextLaws.{decimal_small, decimal-more}

-- the room is as long as it was
pub room_kept : {a b : Writer} {t : List ℕ} → Put a b t → length b.room.now ≡ length a.room.now
room_kept {a = a} {t = t} p = rw p.stands (length-sets a.room.now a.end t)

pub put_then : {a b c : Writer} {t u : List ℕ} → Put a b t → Put b c u → Put a c (t ++ u)
put_then {a = a} {b = b} {c = c} {t = t} {u = u} p q = record {
  same = q.same ∙ p.same;
  stands = q.stands ∙ ap (λ room. sets room b.end u) p.stands ∙ sets-append a.room.now a.end b.end t u (sym p.behind);
  behind = omega (arith, p.behind, q.behind, length-append t u);
}

pub fits_first : {w : Writer} {t : List ℕ} (u : List ℕ) → Fits w (t ++ u) → Fits w t
fits_first {t = t} u h = record { within = omega (arith, length-append t u, h.within) }

pub fits_then : {a b : Writer} {t u : List ℕ} → Fits a (t ++ u) → Put a b t → Fits b u
fits_then {t = t} {u = u} h p = record { within = omega (arith, h.within, length-append t u, p.behind, room_kept p) }

-- equal texts have equal room, and are put alike
pub fits_as : {w : Writer} {t u : List ℕ} → t ≡ u → Fits w t → Fits w u
fits_as e h = rw (← e) h

pub put_alike : {a b : Writer} {t u : List ℕ} → t ≡ u → Put a b t → Put a b u
put_alike e h = rw (← e) h

-- a number's digits: the last stands behind those of a tenth
pub decimal_last : (x : ℕ) → 10 ≤ x → decimal x ≡ decimal (x / 10) ++ ((48 + x % 10) ∷ [])
unfolding digit
decimal_last x h = decimal-more x h

pub decimal_first : (x : ℕ) → x < 10 → decimal x ≡ (48 + x) ∷ []
unfolding digit
decimal_first x h = decimal_small x h

-- what a text is proved by that is put part by part
pub ruleset puts = (put_then, fits_first, fits_then)

-- ---- a loop that puts part after part: what is left of the text has room, and behind what is put it makes the whole

pub put_none : (w : Writer) → Put w w []
put_none w = record { same = refl; stands = refl; behind = omega arith }

pub record Left (start now : Writer) (whole rest : List ℕ) : Type 0 where
  pub fits : Fits now rest
  pub ends : (end : Writer) → Put now end rest → Put start end whole

pub left_start : {w : Writer} {whole rest : List ℕ} → rest ≡ whole → Fits w whole → Left w w whole rest
left_start e h = record { fits = fits_as (sym e) h; ends = λ end p. put_alike e p }

pub left_next : {start now next : Writer} {whole rest part more : List ℕ} → rest ≡ part ++ more → Left start now whole rest → Put now next part
    → Left start next whole more
left_next e left p = record { fits = fits_then (fits_as e left.fits) p; ends = λ end q. left.ends end (put_alike (sym e) (put_then p q)) }

pub left_part : {start now : Writer} {whole rest part : List ℕ} (more : List ℕ) → rest ≡ part ++ more → Left start now whole rest → Fits now part
left_part more e left = fits_first more (fits_as e left.fits)

pub left_done : {start now : Writer} {whole rest : List ℕ} → rest ≡ [] → Left start now whole rest → Put start now whole
left_done {now = now} e left = left.ends now (put_alike (sym e) (put_none now))
