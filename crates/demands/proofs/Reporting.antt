-- What the report is: from any bytes a text, of a refused job its refusal, and of any other the verdicts on the classes that it wants.
use Prim.Native.Nat.{ℕ, ◌+◌, ◌-◌, ◌/◌, ◌%◌, ◌≤◌, ◌<◌}
use mathlib.Core.Path.{◌≡◌, refl, sym, ap, ap₂, ◌∙◌, subst}
use mathlib.Core.Logic.{◌≢◌}
use mathlib.Core.List.{List, [], ◌∷◌, ◌++◌, append-nil}
use native.Mathlib.Omega.{arith}
use lib.ListN.{length, drop}
use lib.Dec.{eqb}
use borrow.Author.Tests.{eq-eqb, ne_eqb, eqb-true, eqb-false}
use Rattle.basics.specs.Choice.{choice}
use Rattle.basics.specs.Lists.{up_from, keep, each, All}
use Rattle.basics.proofs.Tests.{by_test, by_equal, choice-true, choice-false}
use Rattle.words.specs.Word.{bit}
use Rattle.refusals.specs.Tables.{first_of, after}
use Rattle.refusals.specs.Answers.{fine, told_word}
use Rattle.refusals.proofs.Tables.{after-fine}
use Rattle.circuit.specs.Gates.{gates_of}
use Rattle.circuit.specs.Sound.{Sound}
use Rattle.circuit.specs.declared.Gate.{Gate}
use Rattle.faults.specs.declared.Fault.{Fault}
use Rattle.faults.specs.Classes.{class_faults}
use Rattle.judge.specs.Judging.{caught_of, uncaught_of}
use Rattle.marking.specs.Firsts.{first_told}
use Rattle.job.specs.Image.{lines_in, classes_in, gate_words, vector_words}
use Rattle.job.specs.Rules.{read_rows}
use Rattle.text.specs.Decimal.{digit, decimal}
use Rattle.text.proofs.TextLaws.{decimal_small, decimal-more, by_digits}
use Rattle.report_text.specs.Lines.{spaced, line}
use Rattle.report_text.specs.Report.{letter_of, shown, first_text, class_text, job_text, refused_text, text_of, report_text}
use Rattle.job.specs.Wanted.{is_wanted, wanted}
use Rattle.report_text.specs.Rules.{report_rows}
use Rattle.report_text.proofs.report.Reads as report
use Rattle.nufsadeem.proofs.jobs.nuf_report.Reads as c-report
use Rattle.demands.proofs.FirstBroken.{FirstBroken, by_first}
use Rattle.demands.proofs.Judging.{Judges, judges}
use Rattle.demands.proofs.Jobs.{Job, image_of, held-set, held-job, held-image}
use Rattle.demands.proofs.Answering.{Answers, means}
use Rattle.demands.proofs.InC.{AnswersInC, means_in_c}
use Rattle.demands.proofs.Demand1 as refusing
use Rattle.demands.proofs.Demand1OfC as refusing-in-c

-- ---- text

-- a number in decimal, byte 48 being 0, with no zero in front
pub data Decimal : ℕ → List ℕ → Type 0 where
  one : {x : ℕ} → x < 10 → Decimal x ((48 + x) ∷ [])
  more : {x : ℕ} {digits : List ℕ} → 10 ≤ x → Decimal (x / 10) digits → Decimal x (digits ++ ((48 + x % 10) ∷ []))

pub decimal-is : (x : ℕ) → Decimal x (decimal x)
unfolding digit
decimal-is = by_digits (λ x. Decimal x (decimal x))
    (λ x h. subst (Decimal x) (sym (decimal_small x h)) (one h))
    (λ x h d. subst (Decimal x) (sym (decimal-more x h)) (more h d))

-- a field is one blank and such a number
pub spaced-is : (x : ℕ) → (digits : List ℕ) × (spaced x ≡ 32 ∷ digits) × Decimal x digits
unfolding spaced
spaced-is x = (decimal x, refl, decimal-is x)

abbrev pub fields : List ℕ → List ℕ
fields [] = []
fields (x ∷ xs) = spaced x ++ fields xs

-- a line: a letter, what follows it, and LF
abbrev pub text_line : ℕ → List ℕ → List ℕ
text_line letter rest = letter ∷ (rest ++ (10 ∷ []))

-- the letters S, M, C and X; there is no other class
abbrev pub letter : ℕ → ℕ
letter class = choice (eqb class 1) 83 (choice (eqb class 2) 77 (choice (eqb class 3) 67 (choice (eqb class 4) 88 63)))

-- ---- what the report says

-- after the counts: ok, or the first uncaught fault, S: level, line, value; M: gate; C and X: gate, line
pub data Last (class : ℕ) (shown text : List ℕ) : Type 0 where
  ok : shown ≡ 1 ∷ 0 ∷ 0 ∷ 0 ∷ 0 ∷ [] → text ≡ 32 ∷ 111 ∷ 107 ∷ [] → Last class shown text
  stuck : class ≡ 1 → (k p l v : ℕ) → shown ≡ 0 ∷ k ∷ p ∷ l ∷ v ∷ [] → text ≡ fields (p ∷ l ∷ v ∷ []) → Last class shown text
  gate : class ≡ 2 → (k p l v : ℕ) → shown ≡ 0 ∷ k ∷ p ∷ l ∷ v ∷ [] → text ≡ fields (p ∷ []) → Last class shown text
  control : class ≡ 3 → (k p l v : ℕ) → shown ≡ 0 ∷ k ∷ p ∷ l ∷ v ∷ [] → text ≡ fields (p ∷ l ∷ []) → Last class shown text
  extra : class ≡ 4 → (k p l v : ℕ) → shown ≡ 0 ∷ k ∷ p ∷ l ∷ v ∷ [] → text ≡ fields (p ∷ l ∷ []) → Last class shown text

-- the line of a class: its letter, the number caught, the number in the class, as the judge of the set finds them
pub record ClassLine (n : ℕ) (words xs : List ℕ) (class : ℕ) (text : List ℕ) : Type 0 where
  pub number : ℕ
  pub total : ℕ
  pub shown : List ℕ
  pub judged : Judges n words xs class (number ∷ total ∷ shown)
  pub last : List ℕ
  pub last_is : Last class shown last
  pub text_is : text ≡ text_line (letter class) (fields (number ∷ total ∷ []) ++ last)

-- a class has a line where its bit is 1, and none where it is 0
pub data Wanted (n : ℕ) (words xs : List ℕ) (classes class : ℕ) (text : List ℕ) : Type 0 where
  wants : bit classes (class - 1) ≡ 1 → ClassLine n words xs class text → Wanted n words xs classes class text
  wants_not : bit classes (class - 1) ≢ 1 → text ≡ [] → Wanted n words xs classes class text

-- a job that is read with room for the longest: E with the refusal, or J with its numbers and a line for each class that it wants, in code order
pub data Reports (bytes text : List ℕ) : Type 0 where
  refuses : (k p : ℕ) → FirstBroken (read_rows bytes 3072 2048) k p → text ≡ text_line 69 (fields (k ∷ p ∷ [])) → Reports bytes text
  verdicts : (n classes : ℕ) (words xs : List ℕ) (gs : List Gate) → Job n classes words xs gs
      → (All (λ b. b < 256) bytes → bytes ≡ image_of n classes (length gs) words xs)
      → (s m c x : List ℕ) → Wanted n words xs classes 1 s → Wanted n words xs classes 2 m → Wanted n words xs classes 3 c
      → Wanted n words xs classes 4 x
      → text ≡ text_line 74 (fields (n ∷ length gs ∷ length xs ∷ [])) ++ (s ++ (m ++ (c ++ x))) → Reports bytes text

-- the text stands at the front of the bytes, and its length is told
pub record WritesReport (bytes room values exit : List ℕ) : Type 0 where
  pub text : List ℕ
  pub reports : Reports bytes text
  pub values-are : values ≡ length text ∷ []
  pub front : exit ≡ text ++ drop (length text) room

-- ---- the promised text is so

fields-are : (xs : List ℕ) → each spaced xs ≡ fields xs
unfolding each
fields-are [] = refl
fields-are (x ∷ xs) = ap (λ more. spaced x ++ more) (fields-are xs)

last_of : (class : ℕ) → 1 ≤ class → class ≤ 4 → (fs : List Fault) → Last class (first_told fs) (first_text class fs)
unfolding first_text shown
last_of class lo hi [] = ok refl refl
last_of class lo hi (f ∷ rest) = by_equal class 1
    (λ e. stuck e _ _ _ _ refl (ap (each spaced) (choice-true (eq-eqb class 1 e) _ _) ∙ fields-are _))
    (λ a. by_equal class 2
    (λ e. gate e _ _ _ _ refl (ap (each spaced) (choice-false (ne_eqb class 1 a) _ _ ∙ choice-true (eq-eqb class 2 e) _ _) ∙ fields-are _))
    (λ b. by_equal class 3
    (λ e. control e _ _ _ _ refl
    (ap (each spaced) (choice-false (ne_eqb class 1 a) _ _ ∙ choice-false (ne_eqb class 2 b) _ _ ∙ choice-true (eq-eqb class 3 e) _ _)
    ∙ fields-are _))
    (λ c. let e : class ≡ 4 = omega arith in extra e _ _ _ _ refl
    (ap (each spaced) (choice-false (ne_eqb class 1 a) _ _ ∙ choice-false (ne_eqb class 2 b) _ _ ∙ choice-false (ne_eqb class 3 c) _ _
    ∙ choice-true (eq-eqb class 4 e) _ _) ∙ fields-are _))))

module _ (n : ℕ) (words xs : List ℕ) (sound : Sound n words) where
  class_line : (class : ℕ) → 1 ≤ class → class ≤ 4 → ClassLine n words xs class (class_text n (gates_of words) xs class)
  unfolding class_text caught_of uncaught_of line letter_of
  class_line class lo hi =
      let gs : List Gate = gates_of words in
      let fs : List Fault = class_faults n gs class in
      record {
        number = length (caught_of gs xs fs);
        total = length fs;
        shown = first_told (uncaught_of gs xs fs);
        judged = judges n words xs class sound;
        last = first_text class (uncaught_of gs xs fs);
        last_is = last_of class lo hi (uncaught_of gs xs fs);
        text_is = ap (λ l. text_line (letter class) (l ++ first_text class (uncaught_of gs xs fs)))
            (fields-are (length (caught_of gs xs fs) ∷ length fs ∷ []));
      }

  -- a class's part of the text
  part : ℕ → ℕ → List ℕ
  part classes class = choice (is_wanted classes class) (class_text n (gates_of words) xs class) []

  wanted-is : (classes class : ℕ) → 1 ≤ class → class ≤ 4 → Wanted n words xs classes class (part classes class)
  unfolding part is_wanted
  wanted-is classes class lo hi = by_test (is_wanted classes class)
      (λ t. subst (Wanted n words xs classes class) (sym (choice-true t _ [])) (wants (eqb-true _ 1 t) (class_line class lo hi)))
      (λ t. subst (Wanted n words xs classes class) (sym (choice-false t _ [])) (wants_not (eqb-false _ 1 t) refl))

  kept_part : (classes class : ℕ) (rest : List ℕ)
      → each (class_text n (gates_of words) xs) (keep (is_wanted classes) (class ∷ rest))
      ≡ part classes class ++ each (class_text n (gates_of words) xs) (keep (is_wanted classes) rest)
  unfolding part keep each
  kept_part classes class rest = by_test (is_wanted classes class) (λ t. rw t) (λ t. rw t)

  kept_last : (classes class : ℕ)
      → each (class_text n (gates_of words) xs) (keep (is_wanted classes) (class ∷ [])) ≡ part classes class
  unfolding part keep each
  kept_last classes class = by_test (is_wanted classes class) (λ t. rw t (append-nil _)) (λ t. rw t)

  parts : (classes : ℕ) → each (class_text n (gates_of words) xs) (wanted classes)
      ≡ part classes 1 ++ (part classes 2 ++ (part classes 3 ++ part classes 4))
  unfolding wanted up_from
  parts classes =
      let p : ℕ → List ℕ = part classes in
      kept_part classes 1 (2 ∷ 3 ∷ 4 ∷ [])
      ∙ ap (λ l. p 1 ++ l) (kept_part classes 2 (3 ∷ 4 ∷ []) ∙ ap (λ l. p 2 ++ l) (kept_part classes 3 (4 ∷ []) ∙ ap (λ l. p 3 ++ l)
      (kept_last classes 4)))

-- a job that is read
job-reports : (bytes : List ℕ) → fine ≡ first_of (read_rows bytes 3072 2048) fine
    → Reports bytes (job_text (lines_in bytes) (classes_in bytes) (gate_words bytes) (vector_words bytes))
unfolding job_text line
job-reports bytes unbroken =
    let n : ℕ = lines_in bytes in
    let k : ℕ = classes_in bytes in
    let words : List ℕ = gate_words bytes in
    let xs : List ℕ = vector_words bytes in
    let sound : Sound n words = (held-set bytes 3072 2048 unbroken).set.circuit in
    verdicts n k words xs (gates_of words) (held-job bytes 3072 2048 unbroken) (held-image bytes 3072 2048 unbroken)
    _ _ _ _
    (wanted-is n words xs sound k 1 (omega arith) (omega arith)) (wanted-is n words xs sound k 2 (omega arith) (omega arith))
    (wanted-is n words xs sound k 3 (omega arith) (omega arith)) (wanted-is n words xs sound k 4 (omega arith) (omega arith))
    (ap₂ (λ f l. text_line 74 f ++ l) (fields-are (n ∷ length (gates_of words) ∷ length xs ∷ [])) (parts n words xs sound k))

reports_of : (bytes : List ℕ) → Reports bytes (report_text bytes)
unfolding report_text refused_text line
reports_of bytes = by_first (read_rows bytes 3072 2048)
    (λ unbroken. subst (λ t. Reports bytes (text_of t (job_text (lines_in bytes) (classes_in bytes) (gate_words bytes) (vector_words bytes)))) unbroken
    (job-reports bytes unbroken))
    (λ k p first e. subst (λ t. Reports bytes (text_of t (job_text (lines_in bytes) (classes_in bytes) (gate_words bytes) (vector_words bytes)))) (sym e)
    (refuses k p first (ap (text_line 69) (fields-are (k ∷ p ∷ [])))))

writes_report : (bytes room exit : List ℕ) → fine ≡ first_of (report_rows bytes (length room)) fine
    → exit ≡ after (report_rows bytes (length room)) (report_text bytes ++ drop (length (report_text bytes)) room) room
    → WritesReport bytes room (length (report_text bytes) ∷ []) exit
writes_report bytes room exit unbroken made = record {
  text = report_text bytes;
  reports = reports_of bytes;
  values-are = refl;
  front = made ∙ sym (after-fine (report_rows bytes (length room)) _ _ unbroken);
}

-- ---- the call

pub report_means : Answers report.Post (λ κs. told_word)
    (λ κs (bytes, (out, _)) values (_, (out-after, _)). WritesReport bytes.now out.now values out-after.now)
report_means = means refusing.report_refuses _ (λ κs a r e p. p.0) (λ κs a r e p u. writes_report _ _ _ u p.1)

pub report_in_c : AnswersInC c-report.Post (λ κs r. r.number) (λ κs r. r.count ∷ [])
    (λ κs (bytes, (out, _)) values (_, (out-after, _)). WritesReport bytes.now out.now values out-after.now)
report_in_c = means_in_c 1 refusing-in-c.report_refuses _ (λ κs a r e p. p.0) (λ κs a r e p u. writes_report _ _ _ u p.1)
