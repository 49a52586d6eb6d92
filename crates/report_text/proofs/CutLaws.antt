-- The cut of the input: any bytes that are more than the longest job has are reported by their first 28 bytes, so that what is read
-- of them may stop one byte after the longest job.
use Prim.Native.Nat.{ℕ, ◌*◌}
use mathlib.Core.Path.{◌≡◌, sym, ap, ◌∙◌}
use mathlib.Core.Logic.{by_cases}
use mathlib.Core.List.{List, []}
use native.Mathlib.Decide.{dec_le}
use native.Mathlib.Omega.{arith}
use lib.ListN.{length, take}
use lib.Seq.{length-take-le, take-take, take_all}
use Rattle.refusals.specs.Tables.{Told}
use Rattle.refusals.specs.Tables.Told.{refused}
use Rattle.refusals.specs.Answers.{fine}
use Rattle.circuit.specs.Limits.{most_gates, most_vectors}
use Rattle.job.specs.Image.{header_length}
use Rattle.job.proofs.LongLaws.{Long, told_long, long_is_refused, long_told, long_same}
use Rattle.report_text.specs.Report.{refused_text, text_of, report_text, input_room}

-- the text of what is told of them
refusal_text : {told : Told} {k p : ℕ} (text : List ℕ) → told ≡ refused k p → text_of told text ≡ refused_text k p
refusal_text text e = ap (λ told. text_of told text) e

long_text : (bytes : List ℕ) → Long bytes → report_text bytes ≡ text_of (told_long bytes) []
unfolding report_text
long_text bytes h =
    let r = long_is_refused bytes in
    refusal_text _ (long_told bytes (3 * most_gates) most_vectors fine h ∙ r.2) ∙ sym (refusal_text [] r.2)

-- Two inputs longer than the longest job that have the same 28 bytes in front have the same report.
pub long_report : (a b : List ℕ) → Long a → Long b → take header_length a ≡ take header_length b → report_text a ≡ report_text b
long_report a b h k same = long_text a h ∙ ap (λ told. text_of told []) (long_same a b same) ∙ sym (long_text b k)

-- Any input has the report of as much of it as the program reads.
pub cut_report : (bytes : List ℕ) → report_text (take input_room bytes) ≡ report_text bytes
cut_report bytes = by_cases (dec_le input_room (length bytes))
    (λ h.
    let whole = length-take-le input_room bytes h in
    long_report (take input_room bytes) bytes (omega arith) h (take-take header_length input_room bytes (omega arith)))
    (λ h. ap report_text (take_all input_room bytes (omega arith)))
