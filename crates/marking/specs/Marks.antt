-- Marks: words of the lines at which vectors catch a fault, one for each level or gate.
use Rattle.std.specs.Prelude.{ℕ, suc, ◌-◌, Bool, false, ◌&&◌, List, [], ◌∷◌, map, length, get_or, set, eqb, leb}
use Rattle.std.specs.Int.Bits.{bit_or}
use Rattle.basics.specs.Choice.{choice}
use Rattle.basics.specs.Lists.{up_from}
use Rattle.words.specs.Word.{bit}
use Rattle.words.specs.WordOf.{word_of}
use Rattle.circuit.specs.Controls.{is_other, stopping}
use Rattle.circuit.specs.Runs.{fires}
use Rattle.circuit.specs.declared.Gate.{Gate}
use Rattle.faults.specs.Classes.{fault_of}
use Rattle.faults.specs.Rules.{is_fault}
use Rattle.faults.specs.declared.Fault.{Fault}
use Rattle.simulator.specs.Faulty.{caught}

-- the lines at which the circuit has the fault of a class, a place and a value, and a vector catches it
unfoldable pub caught_lines : ℕ → List Gate → ℕ → ℕ → ℕ → ℕ → ℕ
caught_lines n gs class value x place =
    word_of n (λ line. is_fault n gs (fault_of class place line value) && caught gs (fault_of class place line value) x)

-- the same of a gate and the state that it reads: a missing gate, which stands at line 0, is caught where the gate fires,
-- a missing control where it alone stops the gate, and an extra control where it is 0 and the gate fires
unfoldable pub caught_at_gate : ℕ → ℕ → Gate → ℕ → ℕ
caught_at_gate class n g s =
    choice (eqb class 2) (word_of n (λ line. eqb line 0 && fires g s))
    (choice (eqb class 3) (stopping n g s)
    (choice (eqb class 4) (word_of n (λ line. is_other g line && (eqb (bit s line) 0 && fires g s))) 0))

-- words with a mark added to the one of a place
abbrev pub marked_at : List ℕ → ℕ → ℕ → List ℕ
marked_at words i mark = set words i (bit_or (get_or words i 0) mark)

-- each word with the marks of its place added; words past the marks stay
unfoldable pub marked : List ℕ → List ℕ → List ℕ
marked words [] = words
marked [] (m ∷ ms) = []
marked (w ∷ words) (m ∷ ms) = bit_or w m ∷ marked words ms

-- the marks of one vector at every level, and at every gate
abbrev pub level_marks : ℕ → List Gate → ℕ → ℕ → List ℕ
level_marks n gs value x = map (caught_lines n gs 1 value x) (up_from 0 (suc (length gs)))

abbrev pub gate_marks : ℕ → List Gate → ℕ → ℕ → List ℕ
gate_marks n gs class x = map (caught_lines n gs class 0 x) (up_from 1 (length gs))

-- words with the marks of each vector of a set added in turn
unfoldable pub mark_all : List ℕ → (ℕ → List ℕ) → List ℕ → List ℕ
mark_all words marks [] = words
mark_all words marks (x ∷ xs) = mark_all (marked words (marks x)) marks xs

-- whether words have a mark at a place and a line
abbrev pub is_on : List ℕ → ℕ → ℕ → Bool
is_on words i line = eqb (bit (get_or words i 0) line) 1

-- whether words have the mark of a fault: of class 1 by level and value, of any other class by gate, from 1, with value 0
abbrev pub level_marked : List ℕ → List ℕ → Fault → Bool
level_marked at0 at1 f =
    choice (eqb f.value 0) (is_on at0 f.place f.line)
    (choice (eqb f.value 1) (is_on at1 f.place f.line) false)

abbrev pub gate_marked : List ℕ → Fault → Bool
gate_marked words f = leb 1 f.place && (eqb f.value 0 && is_on words (f.place - 1) f.line)
