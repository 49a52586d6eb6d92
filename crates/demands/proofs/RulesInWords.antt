-- Each rule in words: what it means that it is given, with which place, and that it is kept; and that the test of the contracts says so.
use Prim.Native.Nat.{ℕ, zero, suc, ◌+◌, ◌*◌, ◌/◌, ◌%◌, ◌^◌, ◌≤◌, ◌<◌}
use mathlib.Core.Path.{◌≡◌, refl, sym, ap, ap₂, subst}
use mathlib.Core.Logic.{◌↔◌, ◌≢◌, ◌⊎◌}
use mathlib.Core.Bool.{true, false, not, ◌||◌}
use mathlib.Core.List.{List, [], ◌∷◌}
use native.Mathlib.Omega.{arith}
use lib.ListN.{length, get_or}
use lib.Dec.{eqb, leb, ltb}
use borrow.Author.Tests.{leb-true, leb-false, le-leb, lt-leb, ltb-true, ltb-false, lt-ltb, le-ltb, eqb-true, eqb-false, eq-eqb, ne_eqb, not-false}
use Rattle.basics.proofs.Tests.{not_eqb_iff}
use Rattle.refusals.specs.Places.{first_bad, in_word}
use Rattle.circuit.specs.Gates.{gates_of, no_gate}
use Rattle.circuit.specs.Controls.{is_control}
use Rattle.circuit.specs.Rules.{bad_lines, bad_counts, bad_gate, first_bad_gate, first_bad_vector}
use Rattle.circuit.specs.declared.Gate.{Gate}
use Rattle.circuit.proofs.GateLaws.{gates_count}
use Rattle.faults.specs.Rules.{is_fault}
use Rattle.faults.specs.Records.{no_fault, faults_of, first_bad_record}
use Rattle.multiple_faults.specs.Multiple.{bad_entry}
use Rattle.faults.specs.declared.Fault.{Fault}
use Rattle.faults.specs.Classes.{is_class}
use Rattle.dropping.specs.Rules.{bad_record}
use Rattle.number_bytes.specs.Bytes.{number_at, words_at}
use Rattle.job.specs.Image.{gates_in, vectors_in}
use Rattle.job.specs.Rules.{bad_classes, bad_sizes}
use Rattle.demands.proofs.Machine.{Control, Has}
use Rattle.demands.proofs.MachineLaws.{control_iff}
use Rattle.demands.proofs.HasLaws.{has_of, of_has}
use Rattle.demands.proofs.ValidLists.{record_valid, entry_valid}
use Rattle.demands.proofs.RuleWords.{Words, InWords, OfOne, OfList, AsWord, of_one, of_list, in_word_lem, nothing_left, always_whole}
use Rattle.demands.proofs.RuleWords.{same_iff, failing, passing, either, neither, not_both, both}

-- what a test of order says
pub at_least : (a b : ℕ) → (leb a b ≡ true) ↔ (a ≤ b)
at_least a b = (leb-true a b, le-leb a b)

below : (a b : ℕ) → (leb a b ≡ false) ↔ (b < a)
below a b = (leb-false a b, lt-leb a b)

less : (a b : ℕ) → (ltb a b ≡ true) ↔ (a < b)
less a b = (ltb-true a b, lt-ltb a b)

no_less : (a b : ℕ) → (ltb a b ≡ false) ↔ (b ≤ a)
no_less a b = (ltb-false a b, le-ltb a b)

pub equal : (a b : ℕ) → (eqb a b ≡ true) ↔ (a ≡ b)
equal a b = (eqb-true a b, eq-eqb a b)

other : (a b : ℕ) → (eqb a b ≡ false) ↔ (a ≢ b)
other a b = (eqb-false a b, ne_eqb a b)

-- ---- rule 3: n is not 1 to 32

abbrev pub Lines : ℕ → Words
Lines n = OfOne 0 ((n < 1) ⊎ (32 < n)) ((1 ≤ n) × (n ≤ 32))

pub lines_rule : (n : ℕ) → InWords 0 (bad_lines n) (Lines n)
unfolding bad_lines
lines_rule n = of_one 0 (ltb n 1 || ltb 32 n) (either (ltb n 1) (ltb 32 n) (less n 1) (less 32 n))
    (neither (ltb n 1) (ltb 32 n) (no_less n 1) (no_less 32 n))

-- ---- rule 5: d is above 1,024 or m above 2,048

abbrev pub Counts : ℕ → ℕ → Words
Counts d m = OfOne 0 ((1024 < d) ⊎ (2048 < m)) ((d ≤ 1024) × (m ≤ 2048))

pub counts_rule : (d m : ℕ) → InWords 0 (bad_counts d m) (Counts d m)
unfolding bad_counts
counts_rule d m = of_one 0 (ltb 1024 d || ltb 2048 m) (either (ltb 1024 d) (ltb 2048 m) (less 1024 d) (less 2048 m))
    (neither (ltb 1024 d) (ltb 2048 m) (no_less 1024 d) (no_less 2048 m))

-- of a list of words: its whole gates
pub whole_rule : (words : List ℕ) (m : ℕ) → InWords 0 (bad_counts (length (gates_of words)) m) (Counts (length words / 3) m)
whole_rule words m = subst (λ d. InWords 0 (bad_counts d m) (Counts (length words / 3) m)) (sym (gates_count words)) (counts_rule (length words / 3) m)

-- ---- rule 12: a level is above d

abbrev pub OneLevel : ℕ → ℕ → Words
OneLevel d i = OfOne 0 (d < i) (i ≤ d)

pub level_rule : (words : List ℕ) (i : ℕ) → InWords 0 (ltb (length (gates_of words)) i) (OneLevel (length words / 3) i)
level_rule words i = subst (λ d. InWords 0 (ltb d i) (OneLevel (length words / 3) i)) (sym (gates_count words))
    (of_one 0 (ltb (length words / 3) i) (less (length words / 3) i) (no_less (length words / 3) i))

-- ---- rule 11: more than 12 lines

abbrev pub FewLines : ℕ → Words
FewLines n = OfOne 0 (12 < n) (n ≤ 12)

pub few_lines_rule : (n : ℕ) → InWords 0 (ltb 12 n) (FewLines n)
few_lines_rule n = of_one 0 (ltb 12 n) (less 12 n) (no_less 12 n)

-- ---- rule 10: the room is less than what is needed

abbrev pub Room : ℕ → ℕ → Words
Room needed room = OfOne 0 (room < needed) (needed ≤ room)

pub room_rule : (needed room : ℕ) → InWords 0 (ltb room needed) (Room needed room)
room_rule needed room = of_one 0 (ltb room needed) (less room needed) (no_less room needed)

pub room_as_rule : (needed other room : ℕ) → needed ≡ other → InWords 0 (ltb room needed) (Room other room)
room_as_rule needed other room same = subst (λ k. InWords 0 (ltb room k) (Room other room)) (sym same) (room_rule other room)

-- of two rooms one
abbrev pub TwoRooms : ℕ → ℕ → ℕ → ℕ → Words
TwoRooms needed room needed' room' = OfOne 0 ((room < needed) ⊎ (room' < needed')) ((needed ≤ room) × (needed' ≤ room'))

pub two_rooms_rule : (needed room needed' room' : ℕ) → InWords 0 (ltb room needed || ltb room' needed') (TwoRooms needed room needed' room')
two_rooms_rule needed room needed' room' = of_one 0 (ltb room needed || ltb room' needed')
    (either (ltb room needed) (ltb room' needed') (less room needed) (less room' needed'))
    (neither (ltb room needed) (ltb room' needed') (no_less room needed) (no_less room' needed'))

-- ---- rule 4: classes are 0 or above 15

abbrev pub Classes : ℕ → Words
Classes k = OfOne 0 ((k ≡ 0) ⊎ (15 < k)) ((k ≢ 0) × (k ≤ 15))

pub classes_rule : (k : ℕ) → InWords 0 (bad_classes k) (Classes k)
unfolding bad_classes
classes_rule k = of_one 0 (eqb k 0 || ltb 15 k) (either (eqb k 0) (ltb 15 k) (equal k 0) (less 15 k))
    (neither (eqb k 0) (ltb 15 k) (other k 0) (no_less 15 k))

-- ---- rule 7: a gate has a mask bit at n or above, a spare that is not 0, a target at n or above, or its target among its controls

abbrev pub BrokenGate : ℕ → Gate → Type 0
BrokenGate n g = (2 ^ n ≤ g.controls) ⊎ ((g.spare ≢ 0) ⊎ ((n ≤ g.target) ⊎ Control g g.target))

abbrev pub GoodGate : ℕ → Gate → Type 0
GoodGate n g = (g.controls < 2 ^ n) × ((g.spare ≡ 0) × ((g.target < n) × (Control g g.target → ⊥)))

gate_broken : (n : ℕ) (g : Gate) → (bad_gate n g ≡ true) ↔ BrokenGate n g
unfolding bad_gate
gate_broken n g =
    either (leb (2 ^ n) g.controls) _ (at_least (2 ^ n) g.controls)
    (either (not (eqb g.spare 0)) _ (not_eqb_iff g.spare 0)
    (either (leb n g.target) (is_control g g.target) (at_least n g.target) (control_iff g g.target)))

gate_good : (n : ℕ) (g : Gate) → (bad_gate n g ≡ false) ↔ GoodGate n g
unfolding bad_gate
gate_good n g =
    neither (leb (2 ^ n) g.controls) _ (below (2 ^ n) g.controls)
    (neither (not (eqb g.spare 0)) _ (same_iff g.spare 0)
    (neither (leb n g.target) (is_control g g.target) (below n g.target) (failing _ (control_iff g g.target))))

-- the first such gate; words left over are one more
abbrev pub Gates : ℕ → List ℕ → Words
Gates n words = OfList (BrokenGate n) (GoodGate n) (length words % 3 ≢ 0) (length words % 3 ≡ 0) no_gate (gates_of words)

pub gates_rule : (n : ℕ) (words : List ℕ) → InWords (first_bad_gate n words) (not (eqb (first_bad_gate n words) 0)) (Gates n words)
unfolding first_bad_gate
gates_rule n words =
    of_list (bad_gate n) (not (eqb (length words % 3) 0)) no_gate (gates_of words) (gate_broken n) (gate_good n)
    (not_eqb_iff (length words % 3) 0) (same_iff (length words % 3) 0)

-- ---- rule 8: a vector or state is 2^n or more

-- the first such vector of a set
abbrev pub Vectors : ℕ → List ℕ → Words
Vectors n xs = OfList (λ x. 2 ^ n ≤ x) (λ x. x < 2 ^ n) ⊥ (Unit {0}) 0 xs

pub vectors_rule : (n : ℕ) (xs : List ℕ) → InWords (first_bad_vector n xs) (not (eqb (first_bad_vector n xs) 0)) (Vectors n xs)
unfolding first_bad_vector
vectors_rule n xs = of_list (leb (2 ^ n)) false 0 xs (at_least (2 ^ n)) (below (2 ^ n)) nothing_left always_whole

-- one vector or state
abbrev pub OneVector : ℕ → ℕ → Words
OneVector n x = OfOne 1 (2 ^ n ≤ x) (x < 2 ^ n)

pub vector_rule : (n x : ℕ) → InWords 1 (leb (2 ^ n) x) (OneVector n x)
vector_rule n x = of_one 1 (leb (2 ^ n) x) (at_least (2 ^ n) x) (below (2 ^ n) x)

-- ---- rule 9: no such fault

-- the test of one fault
good_fault : (n : ℕ) (gs : List Gate) (f : Fault) → (not (is_fault n gs f) ≡ false) ↔ Has n gs f
good_fault n gs f = (λ e. has_of n gs f (not-false _ e), λ h. ap not (of_has n gs f h))

-- one fault, and one class
abbrev pub OneFault : ℕ → List Gate → Fault → Words
OneFault n gs f = OfOne 1 (Has n gs f → ⊥) (Has n gs f)

pub fault_rule : (n : ℕ) (gs : List Gate) (f : Fault) → InWords 1 (not (is_fault n gs f)) (OneFault n gs f)
fault_rule n gs f = of_one 1 (not (is_fault n gs f)) (passing _ (good_fault n gs f)) (good_fault n gs f)

abbrev pub OneClass : ℕ → Words
OneClass class = OfOne 1 ((class < 1) ⊎ (4 < class)) ((1 ≤ class) × (class ≤ 4))

pub class_rule : (class : ℕ) → InWords 1 (not (is_class class)) (OneClass class)
unfolding is_class
class_rule class = of_one 1 (not (is_class class)) (not_both (leb 1 class) (leb class 4) (below 1 class) (below class 4))
    (both (leb 1 class) (leb class 4) (at_least 1 class) (at_least class 4))

-- the first record of a slice that is no fault of the circuit
abbrev pub Records : ℕ → List Gate → List Fault → Words
Records n gs fs = AsWord (OfList (λ f. Has n gs f → ⊥) (Has n gs) ⊥ (Unit {0}) no_fault fs)

pub records_rule : (n : ℕ) (gs : List Gate) (fs : List Fault)
    → InWords (in_word (first_bad (bad_record n gs) false fs)) (not (eqb (first_bad (bad_record n gs) false fs) 0)) (Records n gs fs)
records_rule n gs fs = in_word_lem
    (of_list (bad_record n gs) false no_fault fs (λ f. passing _ (record_valid n gs f)) (record_valid n gs) nothing_left always_whole)

-- and of a plain list, where numbers left over are one more
abbrev pub PlainRecords : ℕ → List Gate → List ℕ → Words
PlainRecords n gs list = AsWord
    (OfList (λ f. Has n gs f → ⊥) (Has n gs) (length list % 4 ≢ 0) (length list % 4 ≡ 0) no_fault (faults_of list))

pub plain_records_rule : (n : ℕ) (gs : List Gate) (list : List ℕ)
    → InWords (in_word (first_bad_record (bad_record n gs) list)) (not (eqb (first_bad_record (bad_record n gs) list) 0)) (PlainRecords n gs list)
unfolding first_bad_record
plain_records_rule n gs list = in_word_lem
    (of_list (bad_record n gs) (not (eqb (length list % 4) 0)) no_fault (faults_of list) (λ f. passing _ (record_valid n gs f)) (record_valid n gs)
    (not_eqb_iff (length list % 4) 0) (same_iff (length list % 4) 0))

-- the first entry of a multiple fault whose class is not 1 or that the circuit does not have; numbers left over are one more
abbrev pub GoodEntry : ℕ → List Gate → Fault → Type 0
GoodEntry n gs f = (f.class ≡ 1) × Has n gs f

abbrev pub Entries : ℕ → List Gate → List ℕ → Words
Entries n gs list = AsWord (OfList (λ f. GoodEntry n gs f → ⊥) (GoodEntry n gs) (length list % 4 ≢ 0) (length list % 4 ≡ 0) no_fault (faults_of list))

pub entries_rule : (n : ℕ) (gs : List Gate) (list : List ℕ)
    → InWords (in_word (first_bad_record (bad_entry n gs) list)) (not (eqb (first_bad_record (bad_entry n gs) list) 0)) (Entries n gs list)
unfolding first_bad_record
entries_rule n gs list = in_word_lem
    (of_list (bad_entry n gs) (not (eqb (length list % 4) 0)) no_fault (faults_of list) (λ f. passing _ (entry_valid n gs f)) (entry_valid n gs)
    (not_eqb_iff (length list % 4) 0) (same_iff (length list % 4) 0))

-- ---- a job that is read: its numbers from its bytes, the lowest byte first

abbrev pub two : List ℕ → ℕ → ℕ
two bytes at = get_or bytes at 0 + 256 * get_or bytes (suc at) 0

abbrev pub four : List ℕ → ℕ → ℕ
four bytes at = two bytes at + 65536 * two bytes (suc (suc at))

abbrev pub words_from : ℕ → List ℕ → ℕ → List ℕ
words_from zero bytes at = []
words_from (suc count) bytes at = four bytes at ∷ words_from count bytes (at + 4)

pub number_two : (bytes : List ℕ) (at : ℕ) → number_at 2 bytes at ≡ two bytes at
unfolding number_at
number_two bytes at = omega arith

pub number_four : (bytes : List ℕ) (at : ℕ) → number_at 4 bytes at ≡ four bytes at
unfolding number_at
number_four bytes at = omega arith

pub words_from_lem : (count : ℕ) (bytes : List ℕ) (at : ℕ) → words_at count bytes at ≡ words_from count bytes at
unfolding words_at
words_from_lem zero bytes at = refl
words_from_lem (suc count) bytes at = ap₂ ◌∷◌ (number_four bytes at) (words_from_lem count bytes (at + 4))

-- an offset or the length is not as the counts say, or the bytes are not that many
abbrev pub Sizes : List ℕ → Words
Sizes bytes =
    let d = four bytes 8 in
    let m = four bytes 12 in
    OfOne 0
    ((four bytes 16 ≢ 28) ⊎ ((four bytes 20 ≢ 28 + 12 * d) ⊎ ((four bytes 24 ≢ 28 + 12 * d + 4 * m) ⊎ (length bytes ≢ 28 + 12 * d + 4 * m))))
    ((four bytes 16 ≡ 28) × ((four bytes 20 ≡ 28 + 12 * d) × ((four bytes 24 ≡ 28 + 12 * d + 4 * m) × (length bytes ≡ 28 + 12 * d + 4 * m))))

pub sizes_rule : (bytes : List ℕ) → InWords 0 (bad_sizes bytes) (Sizes bytes)
unfolding bad_sizes gates_in vectors_in
sizes_rule bytes =
    let d = four bytes 8 in
    let m = four bytes 12 in
    let vectors_at = 28 + 12 * d in
    let end = 28 + 12 * d + 4 * m in
    rw (number_four bytes 8, number_four bytes 12, number_four bytes 16, number_four bytes 20, number_four bytes 24)
    (of_one 0 _
    (either (not (eqb (four bytes 16) 28)) _ (not_eqb_iff (four bytes 16) 28)
    (either (not (eqb (four bytes 20) vectors_at)) _ (not_eqb_iff (four bytes 20) vectors_at)
    (either (not (eqb (four bytes 24) end)) _ (not_eqb_iff (four bytes 24) end) (not_eqb_iff (length bytes) end))))
    (neither (not (eqb (four bytes 16) 28)) _ (same_iff (four bytes 16) 28)
    (neither (not (eqb (four bytes 20) vectors_at)) _ (same_iff (four bytes 20) vectors_at)
    (neither (not (eqb (four bytes 24) end)) _ (same_iff (four bytes 24) end) (same_iff (length bytes) end)))))

-- fewer bytes than a header; a form that is not 1; classes wanted that are bad, or bytes 6 and 7 that are not 0
abbrev pub Short : List ℕ → Words
Short bytes = OfOne 0 (length bytes < 28) (28 ≤ length bytes)

pub short_rule : (bytes : List ℕ) → InWords 0 (ltb (length bytes) 28) (Short bytes)
short_rule bytes = of_one 0 (ltb (length bytes) 28) (less (length bytes) 28) (no_less (length bytes) 28)

abbrev pub Form : List ℕ → Words
Form bytes = OfOne 0 (two bytes 0 ≢ 1) (two bytes 0 ≡ 1)

pub form_rule : (bytes : List ℕ) → InWords 0 (not (eqb (two bytes 0) 1)) (Form bytes)
form_rule bytes = of_one 0 (not (eqb (two bytes 0) 1)) (not_eqb_iff (two bytes 0) 1) (same_iff (two bytes 0) 1)

abbrev pub ClassesIn : List ℕ → Words
ClassesIn bytes =
    let k = two bytes 4 in
    OfOne 0 (((k ≡ 0) ⊎ (15 < k)) ⊎ (two bytes 6 ≢ 0)) (((k ≢ 0) × (k ≤ 15)) × (two bytes 6 ≡ 0))

pub classes_in_rule : (bytes : List ℕ) → InWords 0 (bad_classes (two bytes 4) || not (eqb (two bytes 6) 0)) (ClassesIn bytes)
unfolding bad_classes
classes_in_rule bytes =
    let k = two bytes 4 in
    of_one 0 ((eqb k 0 || ltb 15 k) || not (eqb (two bytes 6) 0))
    (either (eqb k 0 || ltb 15 k) _ (either (eqb k 0) (ltb 15 k) (equal k 0) (less 15 k)) (not_eqb_iff (two bytes 6) 0))
    (neither (eqb k 0 || ltb 15 k) _ (neither (eqb k 0) (ltb 15 k) (other k 0) (no_less 15 k)) (same_iff (two bytes 6) 0))
