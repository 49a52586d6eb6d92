-- `text::put_bytes` meets its contract: what is copied into the middle is a run of stores. Assumes nothing.
use Rattle.std.proofs.Common.{refl, sym, ◌∙◌, length, ◌+◌, ◌-◌, arith}
use Rattle.std.proofs.Math.Seq.{take-length}
use Rattle.std.proofs.lemmas.List.Edits.{sets-eq}
use Rattle.std.proofs.lemmas.Slice.{put_mid-paste}
use Rattle.text.proofs.put_bytes.Goals as goal

pub returns : goal.returns
returns c =
    let a = c.args in
    let bytes = a.bytes.now in
    let pasted = put_mid-paste a.at (a.at + length bytes - a.at) a.out.now _ bytes (length bytes)
    c.copy_from_slice.ensures.after (omega arith) refl in
    (refl, pasted ∙ rw (take-length bytes) (sym (sets-eq bytes a.out.now a.at c.requires)))
