-- How long the report can be: 100 bytes.
-- J 15 (lines of 2 digits, gates and vectors of 4), S 24 (numbers of 5 digits, a level of 4, a line of 2, a value of 1),
-- M 17 (three numbers of 4), C and X 22 each (numbers of 5 digits, a gate of 4, a line of 2).
use Prim.Native.Nat.{ℕ, suc, ◌+◌, ◌*◌, ◌^◌, ◌<◌, ◌≤◌}
use mathlib.Core.Path.{◌≡◌, refl}
use mathlib.Core.Bool.{not}
use mathlib.Core.List.{List, [], ◌∷◌, ◌++◌}
use native.Mathlib.Omega.{arith}
use native.Mathlib.Nat.{mul-le-mul}
use lib.ListN.{length, length-append}
use borrow.Author.Tests.{eq-eqb}
use Rattle.basics.specs.Lists.{All, up_from, keep, each}
use Rattle.basics.proofs.Lists.{keep-le, all_keep}
use Rattle.basics.proofs.Tests.{by_test}
use Rattle.circuit.specs.Limits.{most_lines, most_gates, most_vectors, levels}
use Rattle.circuit.specs.Gates.{gates_of}
use Rattle.circuit.specs.Sound.{Sound, AllOk}
use Rattle.circuit.specs.declared.Gate.{Gate}
use Rattle.faults.specs.declared.Fault.{Fault}
use Rattle.faults.proofs.SiteLaws.{site_line}
use Rattle.faults.specs.Classes.{fault_of, class_faults, missing_controls, extra_controls}
use Rattle.judge.specs.Judging.{caught_by_some, caught_of, uncaught_of}
use Rattle.faults.proofs.ClassLists.{list_one, list_two, list_three, list_four}
use Rattle.faults.proofs.ClassParts.{all_stuck, all-missing_gates, all-missing_controls, all-extra_controls}
use Rattle.faults.proofs.ClassCounts.{length-missing_gates, length_controls}
use Rattle.faults.proofs.SiteCount.{stuck_sites, site_count-most}
use Rattle.job.specs.Wanted.{is_wanted, wanted}
use Rattle.report_text.specs.Lines.{spaced, line}
use Rattle.report_text.specs.Report.{letter_of, shown, first_text, class_text, job_line, class_lines, job_text, refused_text, longest_report}
use Rattle.report_text.specs.Parts.{wanted_text}
use Rattle.text.proofs.TextLaws.{digits_most}
use Rattle.report_text.proofs.ClassLaws.{wanted_text_lem}

-- ---- numbers

spaced-fits : (places x : ℕ) → 1 ≤ places → x < 10 ^ places → length (spaced x) ≤ 1 + places
unfolding spaced
spaced-fits places x p h = omega (arith, digits_most places x p h)

spaced_two : (a b : ℕ) → length (each spaced (a ∷ b ∷ [])) ≡ length (spaced a) + length (spaced b)
unfolding each
spaced_two a b = rw (length-append (spaced a) (spaced b ++ []), length-append (spaced b) []) (omega arith)

line_bytes : (letter : ℕ) (rest : List ℕ) → length (line letter rest) ≡ 2 + length rest
unfolding line
line_bytes letter rest = rw (length-append rest (10 ∷ [])) (omega arith)

-- ---- the line of a class whose numbers have so many digits, and whose first fault takes so many bytes

first_fits : (class most : ℕ) (fs : List Fault) → 3 ≤ most → All (λ f. length (each spaced (shown class f)) ≤ most) fs
    → length (first_text class fs) ≤ most
unfolding first_text
first_fits class most [] h w = h
first_fits class most (f ∷ fs) h w = w.0

module _ (n : ℕ) (gs : List Gate) (xs : List ℕ) (class : ℕ) where
  class_fits : (places most : ℕ) → 1 ≤ places → length (class_faults n gs class) < 10 ^ places → 3 ≤ most
      → All (λ f. length (each spaced (shown class f)) ≤ most) (class_faults n gs class)
      → length (class_text n gs xs class) ≤ 2 + (2 * (1 + places) + most)
  unfolding class_text caught_of uncaught_of
  class_fits places most p h k w =
      let fs = class_faults n gs class in
      let caught = length (keep (caught_by_some gs xs) fs) in
      let first = first_text class (keep (λ f. not (caught_by_some gs xs f)) fs) in
      rw (
        line_bytes (letter_of class) (each spaced (caught ∷ length fs ∷ []) ++ first),
        length-append (each spaced (caught ∷ length fs ∷ [])) first,
        spaced_two caught (length fs),
      )
      (omega (
        arith,
        spaced-fits places caught p (omega (arith, keep-le (caught_by_some gs xs) fs, h)),
        spaced-fits places (length fs) p h,
        first_fits class most (keep (λ f. not (caught_by_some gs xs f)) fs) k (all_keep _ (λ f. not (caught_by_some gs xs f)) fs w),
      ))

-- ---- each class

spaced-three : (a b d : ℕ) → length (each spaced (a ∷ b ∷ d ∷ [])) ≡ length (spaced a) + length (spaced b) + length (spaced d)
unfolding each
spaced-three a b d =
    rw (length-append (spaced a) (spaced b ++ (spaced d ++ [])), length-append (spaced b) (spaced d ++ []), length-append (spaced d) []) (omega arith)

spaced-one : (a : ℕ) → length (each spaced (a ∷ [])) ≡ length (spaced a)
unfolding each
spaced-one a = rw (length-append (spaced a) []) (omega arith)

gate-fits : (i : ℕ) → i ≤ most_gates → length (spaced i) ≤ 5
gate-fits i h = spaced-fits 4 i (omega arith) (omega arith)

line-fits : (j : ℕ) → j < most_lines → length (spaced j) ≤ 3
line-fits j h = spaced-fits 2 j (omega arith) (omega arith)

module _ (n : ℕ) (gs : List Gate) (xs : List ℕ) (lines : n ≤ most_lines) (gates : length gs ≤ most_gates) (ok : AllOk n gs) where
  stuck_line : length (class_text n gs xs 1) ≤ 24
  unfolding shown fault_of
  stuck_line =
      let many : n * suc (length gs) ≤ most_lines * levels = mul-le-mul {n₂ = most_lines} {m₂ = levels} lines (omega arith) in
      class_fits n gs xs 1 5 10 (omega arith)
      (rw (list_one n gs 1 refl, stuck_sites n gs) (omega (arith, site_count-most n gs)))
      (omega arith)
      (rw (list_one n gs 1 refl)
      (all_stuck _ n gs (λ i j v a b d. rw (spaced-three i j v)
      (omega (
        arith,
        gate-fits i (omega arith),
        line-fits j (omega (arith, site_line n gs i j (eq-eqb _ 1 b))),
        spaced-fits 1 v (omega arith) (omega arith),
      )))))

  gate_line_lem : length (class_text n gs xs 2) ≤ 17
  unfolding shown fault_of
  gate_line_lem =
      class_fits n gs xs 2 4 5 (omega arith)
      (rw (list_two n gs 2 refl, length-missing_gates gs) (omega arith))
      (omega arith)
      (rw (list_two n gs 2 refl) (all-missing_gates _ gs (λ i a b. rw (spaced-one i) (gate-fits i (omega arith)))))

  few : length (missing_controls n gs) + length (extra_controls n gs) ≤ most_gates * 31
  few = rw (length_controls n gs ok) (mul-le-mul {n₂ = most_gates} {m₂ = 31} gates (omega arith))

  control_line : length (class_text n gs xs 3) ≤ 22
  unfolding shown fault_of
  control_line =
      class_fits n gs xs 3 5 8 (omega arith)
      (rw (list_three n gs 3 refl) (omega (arith, few)))
      (omega arith)
      (rw (list_three n gs 3 refl)
      (all-missing_controls _ n gs (λ i j a b d e. rw (spaced_two i j) (omega (arith, gate-fits i (omega arith), line-fits j (omega arith))))))

  extra_line : length (class_text n gs xs 4) ≤ 22
  unfolding shown fault_of
  extra_line =
      class_fits n gs xs 4 5 8 (omega arith)
      (rw (list_four n gs 4 refl) (omega (arith, few)))
      (omega arith)
      (rw (list_four n gs 4 refl)
      (all-extra_controls _ n gs (λ i j a b d e. rw (spaced_two i j) (omega (arith, gate-fits i (omega arith), line-fits j (omega arith))))))

  wanted-fits : (classes class : ℕ) → length (wanted_text n gs xs classes class) ≤ length (class_text n gs xs class)
  unfolding wanted_text
  wanted-fits classes class = by_test (is_wanted classes class) (λ e. rw e (omega arith)) (λ e. rw e (omega arith))

  classes_fit : (classes : ℕ) → length (each (class_text n gs xs) (wanted classes)) ≤ 85
  unfolding each up_from
  classes_fit classes =
      let t = wanted_text n gs xs classes in
      rw (
        wanted_text_lem n gs xs classes,
        length-append (t 1) (t 2 ++ (t 3 ++ (t 4 ++ []))),
        length-append (t 2) (t 3 ++ (t 4 ++ [])),
        length-append (t 3) (t 4 ++ []),
        length-append (t 4) [],
      )
      (omega (
        arith,
        stuck_line,
        gate_line_lem,
        control_line,
        extra_line,
        wanted-fits classes 1,
        wanted-fits classes 2,
        wanted-fits classes 3,
        wanted-fits classes 4,
      ))

-- ---- the whole text

pub job-parts : (n classes : ℕ) (words xs : List ℕ)
    → length (job_text n classes words xs) ≡ length (job_line n words xs) + length (class_lines n classes words xs)
unfolding job_text
job-parts n classes words xs = length-append (job_line n words xs) _

pub job-fits : (n classes : ℕ) (words xs : List ℕ) → Sound n words → length xs ≤ most_vectors → length (job_text n classes words xs) ≤ longest_report
job-fits n classes words xs s h =
    rw (
      job-parts n classes words xs,
      line_bytes 74 (each spaced (n ∷ length (gates_of words) ∷ length xs ∷ [])),
      spaced-three n (length (gates_of words)) (length xs),
    )
    (omega (
      arith,
      spaced-fits 2 n (omega arith) (omega (arith, s.lines_fit)),
      gate-fits (length (gates_of words)) s.gates_fit,
      spaced-fits 4 (length xs) (omega arith) (omega arith),
      classes_fit n (gates_of words) xs s.lines_fit s.gates_fit s.gates_ok classes,
    ))

pub refused-fits : (number place : ℕ) → number < 10 ^ 10 → place < 10 ^ 10 → length (refused_text number place) ≤ longest_report
unfolding refused_text
refused-fits number place h k =
    rw (line_bytes 69 (each spaced (number ∷ place ∷ [])), spaced_two number place)
    (omega (arith, spaced-fits 10 number (omega arith) h, spaced-fits 10 place (omega arith) k))
