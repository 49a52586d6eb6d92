-- The longest job is taken. It is the image of a job that is written, and so it is read as that job, by the law that a job which is
-- written is read again as it was: reading 20,480 bytes one by one would be long to compute.
-- So is the largest word in decimal, which is written digit by digit, and the longest text, whose gates are all the same. Assumes nothing.
use Rattle.std.specs.Prelude.{◌≡◌, refl, ℕ, zero, suc, ◌*◌, ◌/◌, ◌%◌, ◌≤◌, List, [], ◌∷◌, ◌++◌, length, take, replicate}
use Rattle.std.proofs.Common.{sym, ap, subst, ◌∙◌, length-append, arith}
use Rattle.basics.specs.Lists.{up_from, keep, each}
use Rattle.words.specs.Word.{bit, all_ones, lines_on}
use Rattle.refusals.specs.Tables.{first_of}
use Rattle.refusals.specs.Tables.Told.{answered}
use Rattle.refusals.specs.Answers.{fine}
use Rattle.refusals.specs.Places.{first_bad_from}
use Rattle.refusals.proofs.Tables.{fine_all}
use Rattle.circuit.specs.Gates.{gates_of}
use Rattle.circuit.specs.Controls.{is_control}
use Rattle.circuit.specs.Rules.{bad_lines, bad_counts, bad_gate, first_bad_gate, first_bad_vector}
use Rattle.circuit.specs.declared.Gate.{Gate}
use Rattle.number_bytes.specs.Bytes.{bytes_of}
use Rattle.job.specs.Image.{header, row_bytes, gate_count, image, lines_in, classes_in, gate_words, vector_words}
use Rattle.job.specs.Rules.{bad_classes, content_rows, read_rows, write_rows}
use Rattle.job.proofs.RoundTrip.{Holds, read_written, read_written_fine}
use Rattle.text.specs.Texts.{ascii}
use Rattle.text.specs.Decimal.{digit, decimal_in, decimal}
use Rattle.text.proofs.TextLaws.{decimal_small, decimal-more}
use Rattle.real.specs.Export.{name_of, real_text}
use Rattle.real_export.specs.Parts.{name_if, spaced_name, gate_text, head_text}
use Rattle.real_export.proofs.WholeLaws.{text_length}
use Rattle.report_text.specs.Lines.{spaced, line}
use Rattle.report_text.specs.Report.{job_text, report_text, text_of}
use Rattle.job.specs.Promises.{read_tells}
use Rattle.borders.specs.Images.{longest_job}
use Rattle.borders.specs.Long.{widest}

abbrev words : List ℕ
words = replicate 3072 0

abbrev vectors : List ℕ
vectors = replicate 2048 0

image-is : image 1 1 words vectors ≡ longest_job
unfolding image header row_bytes bytes_of gate_count each longest_job
image-is = refl

written : fine ≡ first_of (write_rows 1 1 words vectors 20508) fine
unfolding write_rows content_rows bad_lines bad_classes bad_counts gate_count first_bad_gate first_bad_vector first_bad_from bad_gate is_control
    bit gates_of image header row_bytes bytes_of each
written = refl

holds : Holds longest_job 1 1 words vectors
holds = subst (λ bytes. Holds bytes 1 1 words vectors) image-is (read_written 1 1 words vectors 20508 written)

passed : fine ≡ first_of (read_rows longest_job 3072 2048) fine
unfolding gate_count
passed = subst (λ bytes. fine ≡ first_of (read_rows bytes 3072 2048) fine) image-is
    (read_written_fine 1 1 words vectors 20508 3072 2048 written (omega arith) (omega arith))

pub longest_read : read_tells longest_job (replicate 3072 9) (replicate 2048 9) ≡ answered (1 ∷ 1 ∷ 1024 ∷ 2048 ∷ [])
unfolding gate_count
longest_read =
    sym (fine_all (read_rows longest_job 3072 2048) _ passed)
    ∙ (λ i. answered (holds.lines i ∷ holds.classes i ∷ holds.gates i ∷ holds.vectors i ∷ []))

report_is : report_text longest_job ≡ job_text 1 1 words vectors
unfolding report_text
report_is =
    sym (ap (λ told. text_of told (job_text (lines_in longest_job) (classes_in longest_job) (gate_words longest_job) (vector_words longest_job))) passed)
    ∙ (λ i. job_text (holds.lines i) (holds.classes i) (holds.gate_words i) (holds.vector_words i))

-- J 1 1024 2048
pub longest_reported : take 14 (report_text longest_job) ≡ 74 ∷ 32 ∷ 49 ∷ 32 ∷ 49 ∷ 48 ∷ 50 ∷ 52 ∷ 32 ∷ 50 ∷ 48 ∷ 52 ∷ 56 ∷ 10 ∷ []
unfolding job_text digit decimal_in decimal spaced line each gates_of
longest_reported = ap (take 14) report_is

last : (x : ℕ) → 10 ≤ x → {digits : List ℕ} → decimal (x / 10) ≡ digits → decimal x ≡ digits ++ (digit (x % 10) ∷ [])
last x h e = decimal-more x h ∙ ap (λ l. l ++ (digit (x % 10) ∷ [])) e

pub largest_word : decimal 4294967295 ≡ 52 ∷ 50 ∷ 57 ∷ 52 ∷ 57 ∷ 54 ∷ 55 ∷ 50 ∷ 57 ∷ 53 ∷ []
unfolding digit
largest_word =
    last 4294967295 (omega arith)
    (last 429496729 (omega arith)
    (last 42949672 (omega arith)
    (last 4294967 (omega arith)
    (last 429496 (omega arith)
    (last 42949 (omega arith)
    (last 4294 (omega arith)
    (last 429 (omega arith)
    (last 42 (omega arith) (decimal_small 4 (omega arith))))))))))

-- ---- the longest text

abbrev wide : Gate
wide = record { controls = 2147483647; spare = 0; target = 31 }

gate-length : length (gate_text 32 wide) ≡ 122
unfolding gate_text name_if spaced_name name_of lines_on keep up_from each ascii decimal decimal_in digit bit
gate-length = refl

head_length : length (head_text 32) ≡ 161
unfolding head_text name_if spaced_name name_of all_ones up_from each ascii decimal decimal_in digit bit
head_length = refl

gates_length : (a k : ℕ) → length (each (gate_text 32) (gates_of (each (λ i. 2147483647 ∷ 0 ∷ 31 ∷ []) (up_from a k)))) ≡ k * 122
unfolding up_from each gates_of
gates_length a zero = refl
gates_length a (suc k) = length-append (gate_text 32 wide) _ ∙ omega (arith, gate-length, gates_length (suc a) k)

pub longest_text : length (real_text 32 widest) ≡ 125094
longest_text = text_length 32 widest ∙ omega (arith, head_length, gates_length 0 1024)
