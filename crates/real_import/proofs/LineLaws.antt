-- Laws of the lines after .begin: what one leads to, and what is read of them all.
use Rattle.std.proofs.Common.{ℕ, ◌+◌, ◌≤◌, ◌≡◌, refl, sym, ap, ◌∙◌, Result, Err, List, [], ◌∷◌, ◌++◌, length, add-one, append_assoc, arith}
use Rattle.std.proofs.lemmas.List.{append-nil}
use Rattle.circuit.specs.Limits.{most_lines}
use Rattle.refusals.specs.Answers.{number_of, place_of}
use Rattle.refusals.specs.Places.{in_word}
use Rattle.refusals.specs.declared.Refusal.{Refusal}
use Rattle.refusals.specs.declared.Refusal.TheVariants.{Text}
use Rattle.text_words.specs.Words.{lines_of}
use Rattle.text_words.specs.Runs.{IsFirstLine}
use Rattle.real.specs.Form.{Word, Stage, step_of}
use Rattle.real.specs.Form.Stage.{begun}
use Rattle.real.specs.Form.Step.{goes, adds, stops}
use Rattle.real.specs.Reading.{Reading, with_gate, onward, at_end, read_from}
use Rattle.real.specs.Reading.Reading.{circuit, faulty}
use Rattle.real_import.specs.declared.lines.Due.{Due}
use Rattle.real_import.specs.declared.lines.Due.TheVariants.{Gate, Nothing}
use Rattle.real_import.specs.declared.lines.Form.{Form}
use Rattle.real_import.specs.Lines.{stage_of, gates_so_far, held_after, Held, Leads, Formed, Tells, FormRead}
use Rattle.real_import.proofs.HoldLaws.{held_none, held_more}

-- ---- words of gates put in front

with_none : (r : Reading) → with_gate [] r ≡ r
with_none (circuit n words) = refl
with_none (faulty number line) = refl

with_both : (words more : List ℕ) (r : Reading) → with_gate words (with_gate more r) ≡ with_gate (words ++ more) r
with_both words more (circuit n rest) = ap (circuit n) (sym (append_assoc words more rest))
with_both words more (faulty number line) = refl

-- ---- one line

module _ (names : List Word) (line own : List ℕ) where
  pub leads_on : (d then : Due) → gates_so_far then ≡ gates_so_far d → step_of (stage_of names d) line ≡ goes (stage_of names then)
      → Leads names d line own then own
  leads_on d then same e = record {
    words = [];
    step = λ at rest. ap (λ s. onward at s rest) e ∙ sym (with_none (rest (stage_of names then)));
    count = omega (arith, same);
    holds = λ before h. rw (append-nil before, same) h;
  }

  pub leads_gate : (gates controls target : ℕ) (words : List ℕ) → step_of (begun names) line ≡ adds words (begun names) → length words ≡ 3
      → (length names ≤ most_lines → words ≡ controls ∷ 0 ∷ target ∷ [])
      → Leads names (Gate gates) line own (Gate (gates + 1)) (held_after own gates controls target)
  leads_gate gates controls target words e three is = record {
    words = words;
    step = λ at rest. ap (λ s. onward at s rest) e;
    count = omega arith;
    holds = λ before h. held_more own gates controls target (length names) before words three is h;
  }

-- ---- all lines

-- what a `?` hands on tells the faulty line that it met
pub faulty_on : {read : Reading} {r : Result Form Refusal} {d : Refusal} (own : List ℕ) → (x : Refusal) × (r ≡ Err x) × (x ≡ d) → Tells read d
    → FormRead read r own
faulty_on own (x, e, f) t = rw (e, f) t

-- the lines before those that are left are read, and their gates are held
pub record Reads (names : List Word) (text : List ℕ) (first : ℕ) (left : List ℕ) (here : ℕ) (d : Due) (own : List ℕ) : Type 0 where
  pub counted : here + length left ≤ first + length text
  pub gates : gates_so_far d + length left ≤ length text
  pub words : List ℕ
  pub is : read_from first (begun names) (lines_of text) ≡ with_gate words (read_from here (stage_of names d) (lines_of left))
  pub held : Held (length names) own (gates_so_far d) words

module _ (names : List Word) (text : List ℕ) (first : ℕ) where
  abbrev all : Reading
  all = read_from first (begun names) (lines_of text)

  pub reads_none : (own : List ℕ) → Reads names text first text first (Gate 0) own
  reads_none own = record {
    counted = omega arith;
    gates = omega arith;
    words = [];
    is = sym (with_none all);
    held = held_none (length names) own;
  }

  module _ (left : List ℕ) (here : ℕ) (d : Due) (own : List ℕ) (r : Reads names text first left here d own) where
    module _ (line rest : List ℕ) (l : IsFirstLine left line rest) where
      abbrev others : Stage → Reading
      others s = read_from (here + 1) s (lines_of rest)

      one_line : read_from here (stage_of names d) (lines_of left) ≡ onward here (step_of (stage_of names d) line) others
      unfolding read_from
      one_line =
          ap (read_from here (stage_of names d)) l.split
          ∙ ap (λ after. onward here (step_of (stage_of names d) line) (λ s. read_from after s (lines_of rest))) (sym (add-one here))

      pub reads_more : (then : Due) (last : List ℕ) → Leads names d line own then last → Reads names text first rest (here + 1) then last
      reads_more then last w = record {
        counted = omega (arith, r.counted, l.shorter);
        gates = omega (arith, r.gates, w.count, l.shorter);
        words = r.words ++ w.words;
        is = r.is ∙ ap (with_gate r.words) (one_line ∙ w.step here others) ∙ with_both r.words w.words (others (stage_of names then));
        held = w.holds r.words r.held;
      }

      pub reads_faulty : (q : Refusal) → (step_of (stage_of names d) line ≡ stops (number_of q)) × (place_of q ≡ in_word here) → Tells all q
      reads_faulty q (e, place) = record {
        line = here;
        faulty_there = r.is ∙ ap (with_gate r.words) (one_line ∙ ap (λ s. onward here s others) e);
        place = place;
      }

    module _ (over : lines_of left ≡ []) where
      at_end_lem : all ≡ with_gate r.words (at_end here (stage_of names d))
      unfolding read_from
      at_end_lem = r.is ∙ ap (λ ls. with_gate r.words (read_from here (stage_of names d) ls)) over

      pub reads_unended : (gates place : ℕ) → d ≡ Gate gates → place ≡ in_word here → Tells all (Text place)
      reads_unended gates place e f = record {
        line = here;
        faulty_there = at_end_lem ∙ ap (λ x. with_gate r.words (at_end here (stage_of names x))) e;
        place = f;
      }

      pub reads_ended : (count gates : ℕ) → d ≡ Nothing gates → count ≡ length names → Formed all (record { lines = count; gates = gates }) own
      reads_ended count gates e f = rw f (record {
        words = r.words;
        is = at_end_lem ∙ ap (λ x. with_gate r.words (at_end here (stage_of names x))) e ∙ ap (circuit (length names)) (append-nil r.words);
        held = let same = ap gates_so_far e in rw (← same) r.held;
      })
