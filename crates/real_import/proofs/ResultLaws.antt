-- Laws of what the import answers, by what was read and found.
use Rattle.std.proofs.Common.{ℕ, ◌*◌, ◌≤◌, ◌≡◌, refl, sym, ap, ◌∙◌, Bool, true, false, ◌||◌, Ok, Err, List, [], ◌∷◌, length, take, eqb}
use Rattle.std.proofs.lemmas.Bool.{eqb-true}
use Rattle.basics.specs.Lists.{onto}
use Rattle.basics.proofs.Tests.{by_test}
use Rattle.refusals.specs.Tables.{first_of, after}
use Rattle.refusals.specs.Tables.Told.{answered, refused}
use Rattle.refusals.specs.Answers.{fine, number_of, place_of}
use Rattle.refusals.specs.Places.{in_word}
use Rattle.refusals.specs.declared.Refusal.{Refusal}
use Rattle.refusals.proofs.Tables.{refused_all, fine_all, after-refused, after-fine}
use Rattle.circuit.specs.Limits.{most_gates}
use Rattle.circuit.specs.Gates.{gates_of}
use Rattle.circuit.specs.Checked.{gates_in, Has}
use Rattle.circuit.specs.declared.checked.Circuit.{Circuit}
use Rattle.real.specs.Reading.{Reading}
use Rattle.real.specs.Reading.Reading.{circuit, faulty}
use Rattle.real.proofs.NumberLaws.{fifteen_or_fourteen}
use Rattle.real_import.specs.Rules.{reading_rows}
use Rattle.real_import.specs.Lines.{Held, Tells}
use Rattle.real_import.specs.Results.{Answers, held_rows}
use Rattle.real_import.proofs.HoldLaws.{lines_are, words_are}

-- a faulty line is the answer, and nothing is stored
record Refuses (number line : ℕ) (room : List ℕ) : Type 0 where
  tells : (answer : List ℕ) → refused number (in_word line) ≡ first_of (reading_rows (faulty number line) (length room)) (answered answer)
  leaves : (made : List ℕ) → room ≡ after (reading_rows (faulty number line) (length room)) made room

faulty_15 : (line : ℕ) (room : List ℕ) → Refuses 15 line room
faulty_15 line room = record { tells = λ answer. refl; leaves = λ made. refl }

faulty_14 : (line : ℕ) (room : List ℕ) → Refuses 14 line room
faulty_14 line room = record { tells = λ answer. refl; leaves = λ made. refl }

faulty_told : (number line : ℕ) (room : List ℕ) → fifteen_or_fourteen number ≡ true → Refuses number line room
faulty_told number line room e = by_test (eqb number 15)
    (λ is. rw (eqb-true number 15 is) (faulty_15 line room))
    (λ not-15. rw (eqb-true number 14 (or_left_false not-15 e)) (faulty_14 line room))
  where
    or_left_false : {a b : Bool} → a ≡ false → (a || b) ≡ true → b ≡ true
    or_left_false {a} {b} f t = sym (ap (λ x. x || b) f) ∙ t

pub answers-faulty : (read : Reading) (r : Refusal) (room : List ℕ) → Tells read r → fifteen_or_fourteen (number_of r) ≡ true
    → Answers read room (Err r) room
answers-faulty read r room t e =
    let w = faulty_told (number_of r) t.line room e in
    rw t.faulty_there (record { tells = ap (refused (number_of r)) t.place ∙ w.tells _; leaves = w.leaves _ })

-- a circuit that was read, by its rules
module _ (n gates : ℕ) (own words room : List ℕ) where
  pub answers-refused : (r : Refusal) → refused (number_of r) (place_of r) ≡ first_of (held_rows n words (length room)) fine
      → Answers (circuit n words) room (Err r) room
  answers-refused r e = record {
    tells = refused_all (held_rows n words (length room)) (answered (n ∷ length (gates_of words) ∷ [])) (number_of r) (place_of r) e;
    leaves = after-refused (held_rows n words (length room)) (onto words room) room (number_of r) (place_of r) e;
  }

  pub answers-circuit : Held n own gates words → fine ≡ first_of (held_rows n words (length room)) fine → 3 * most_gates ≤ length own
      → (c : Circuit) → Has (in_word n) (take (3 * gates) own) c → (depth : ℕ) → depth ≡ length (gates_in c)
      → Answers (circuit n words) room (Ok (record { lines = c.lines; gates = depth })) (onto c.gates.now room)
  answers-circuit h e wide c (same_lines, same_words) depth is =
      let m : c.lines ≡ n = same_lines ∙ lines_are n gates (length room) own words h e wide in
      let ws : c.gates.now ≡ words = same_words ∙ words_are n gates (length room) own words h e wide in
      rw (is, m, ws) (record {
        tells = fine_all (held_rows n words (length room)) (answered (n ∷ length (gates_of words) ∷ [])) e;
        leaves = after-fine (held_rows n words (length room)) (onto words room) room e;
      })
