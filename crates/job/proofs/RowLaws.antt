-- Header rows and their bytes say the same, both ways.
use Rattle.std.proofs.Common.{ℕ, ◌+◌, ◌^◌, ◌<◌, ◌≤◌, ◌≡◌, ◌∙◌, List, [], ◌∷◌, ◌++◌, length, drop}
use Rattle.std.proofs.Common.{sym, ap, ap₂, subst, append_assoc, arith, length-append}
use Rattle.basics.specs.Lists.{each, All}
use Rattle.number_bytes.specs.Bytes.{bytes_of, number_at}
use Rattle.number_bytes.proofs.ByteLaws.{number_skip, length_bytes}
use Rattle.number_bytes.proofs.NumberLaws.{Bytes, bytes_number, number_on}
use Rattle.job.specs.Image.{HeaderRow, row_bytes}
use Rattle.job.specs.Image.HeaderRow.{byte◌wide◌holds◌}

-- ---- written, then read

-- rows one after the other, each wide enough for what it holds
abbrev pub Placed : ℕ → List HeaderRow → Type 0
Placed at [] = Unit {0}
Placed at (byte place wide width holds value ∷ fs) = (place ≡ at) × ((value < 256 ^ width) × Placed (at + width) fs)

-- a row stands in some bytes
abbrev pub Stands : List ℕ → HeaderRow → Type 0
Stands bytes (byte place wide width holds value) = number_at width bytes place ≡ value

pub rows_there : (fs : List HeaderRow) (pre rest : List ℕ) (at : ℕ) → length pre ≡ at → Placed at fs
    → All (Stands (pre ++ (each row_bytes fs ++ rest))) fs
unfolding each row_bytes
rows_there [] pre rest at e p = tt
rows_there (byte place wide width holds value ∷ fs) pre rest at e p =
    let here : List ℕ = bytes_of width value in
    let more : List ℕ = each row_bytes fs ++ rest in
    let f : place ≡ length pre + 0 = omega arith in
    let l : length (pre ++ here) ≡ at + width = omega (arith, length-append pre here, length_bytes width value) in
    let whole : pre ++ ((here ++ each row_bytes fs) ++ rest) ≡ pre ++ (here ++ more) = ap (λ r. pre ++ r)
    (append_assoc here (each row_bytes fs) rest) in
    let number : number_at width (pre ++ (here ++ more)) place ≡ value =
    ap (number_at width (pre ++ (here ++ more))) f ∙ number_skip width pre (here ++ more) 0 ∙ bytes_number width value more p.1.0 in (
      ap (λ b. number_at width b place) whole ∙ number,
      subst (λ b. All (Stands b) fs) (append_assoc pre here more ∙ sym whole) (rows_there fs (pre ++ here) rest (at + width) l p.1.1),
    )

-- ---- read, then written

-- rows as they are read, up to an end
abbrev pub Laid : List ℕ → ℕ → List HeaderRow → ℕ → Type 0
Laid bytes at [] end = at ≡ end
Laid bytes at (byte place wide width holds value ∷ fs) end = (number_at width bytes at ≡ value) × Laid bytes (at + width) fs end

laid_le : (bytes : List ℕ) (fs : List HeaderRow) (at end : ℕ) → Laid bytes at fs end → at ≤ end
laid_le bytes [] at end l = omega arith
laid_le bytes (byte place wide width holds value ∷ fs) at end l = omega (arith, laid_le bytes fs (at + width) end l.1)

pub rows_on : (bytes : List ℕ) (fs : List HeaderRow) (at end : ℕ) → Bytes bytes → Laid bytes at fs end → end ≤ length bytes
    → each row_bytes fs ++ drop end bytes ≡ drop at bytes
unfolding each row_bytes
rows_on bytes [] at end w l h = ap (λ i. drop i bytes) (sym l)
rows_on bytes (byte place wide width holds value ∷ fs) at end w l h =
    append_assoc (bytes_of width value) (each row_bytes fs) (drop end bytes)
    ∙ ap₂ (λ v r. bytes_of width v ++ r) (sym l.0) (rows_on bytes fs (at + width) end w l.1 h)
    ∙ number_on width bytes at w (omega (arith, laid_le bytes fs (at + width) end l.1))
