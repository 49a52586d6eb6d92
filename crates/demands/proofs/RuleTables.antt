-- The rules of each call in words, in the order in which they are asked, and that its table of tests says the same, row by row.
use Prim.Native.Nat.{ℕ, ◌+◌, ◌*◌, ◌/◌}
use mathlib.Core.Path.{ap}
use mathlib.Core.List.{List, [], ◌∷◌, ◌++◌}
use lib.ListN.{length}
use Rattle.circuit.specs.Gates.{gates_of}
use Rattle.circuit.specs.Rules.{circuit_set_rows, circuit_rows, set_rows, vector_rows, level_rows, run_rows}
use Rattle.circuit.proofs.GateLaws.{gates_count}
use Rattle.faults.specs.Rules.{fault_rows}
use Rattle.faults.specs.Records.{faults_of}
use Rattle.multiple_faults.specs.Rules.{entries_rows, multiple_rows}
use Rattle.faults.specs.declared.Fault.{Fault}
use Rattle.simulator.specs.Rules.{catch_rows}
use Rattle.fault_test.specs.Rules.{test_rows}
use Rattle.judge.specs.Rules.{class_rows, judge_rows, count_rows}
use Rattle.dropping.specs.Rules.{record_rows, drop_rows, drop_records_rows}
use Rattle.testsets.specs.Sets.{bound}
use Rattle.testsets.specs.Rules.{backward_rows, compact_rows}
use Rattle.real.specs.Export.{real_text}
use Rattle.real.specs.Reading.{reading}
use Rattle.real_export.specs.Rules.{export_rows}
use Rattle.real_import.specs.Rules.{lines_read, words_read, import_rows}
use Rattle.job.specs.Image.{gate_count, lines_in, classes_in, gates_in, vectors_in, gate_words, vector_words}
use Rattle.job.specs.Rules.{header_rows, content_rows, read_rows, write_rows}
use Rattle.job.proofs.ImageLaws.{length-image}
use Rattle.report_text.specs.Report.{report_text}
use Rattle.report_text.specs.Rules.{report_rows}
use Rattle.demands.proofs.RulesInWords.{Lines, Counts, Gates, OneVector, Vectors, OneLevel, OneFault, OneClass, Records, PlainRecords, Entries}
use Rattle.demands.proofs.RulesInWords.{FewLines, Room, TwoRooms, Classes, Short, Form, ClassesIn, Sizes, two, four, words_from}
use Rattle.demands.proofs.RulesInWords.{lines_rule, counts_rule, whole_rule, gates_rule, vector_rule, vectors_rule, level_rule, fault_rule}
use Rattle.demands.proofs.RulesInWords.{class_rule, records_rule, plain_records_rule, entries_rule, few_lines_rule, room_rule, room_as_rule}
use Rattle.demands.proofs.RulesInWords.{two_rooms_rule, classes_rule, short_rule, form_rule, classes_in_rule, sizes_rule}
use Rattle.demands.proofs.RulesInWords.{number_two, number_four, words_from_lem}
use Rattle.demands.proofs.RuleOfSites.{EntryCount, entry_count_rule}
use Rattle.demands.proofs.RulesOfTexts.{OtherTokens, TextForm, other_tokens_rule, text_form_rule}
use Rattle.demands.proofs.RulesTold.{Asked, Spelled}
use Rattle.demands.proofs.RulesTold.Asked.{rule◌asks◌}
use Rattle.demands.proofs.RulesTold.Spelled.{◌then◌, done}

-- ---- the rules of a circuit of n lines, with m vectors

abbrev pub circuit_asked : ℕ → List ℕ → ℕ → List Asked
circuit_asked n words m = rule 3 asks Lines n ∷ rule 5 asks Counts (length words / 3) m ∷ rule 7 asks Gates n words ∷ []

-- a run to or from a level
abbrev pub run_asked : ℕ → List ℕ → ℕ → ℕ → List Asked
run_asked n words i s = circuit_asked n words 0 ++ (rule 8 asks OneVector n s ∷ rule 12 asks OneLevel (length words / 3) i ∷ [])

pub run_spelled : (n : ℕ) (words : List ℕ) (i s : ℕ) → Spelled (run_rows n words i s) (run_asked n words i s)
unfolding run_rows level_rows vector_rows circuit_rows circuit_set_rows
run_spelled n words i s =
    lines_rule n then whole_rule words 0 then gates_rule n words then vector_rule n s then level_rule words i then done

-- a vector and a fault
abbrev pub catch_asked : ℕ → List ℕ → ℕ → Fault → List Asked
catch_asked n words x f = circuit_asked n words 0 ++ (rule 8 asks OneVector n x ∷ rule 9 asks OneFault n (gates_of words) f ∷ [])

pub catch_spelled : (n : ℕ) (words : List ℕ) (x : ℕ) (f : Fault) → Spelled (catch_rows n words x f) (catch_asked n words x f)
unfolding catch_rows fault_rows vector_rows circuit_rows circuit_set_rows
catch_spelled n words x f =
    lines_rule n then whole_rule words 0 then gates_rule n words then vector_rule n x then fault_rule n (gates_of words) f then done

-- a vector and a multiple fault
abbrev pub multiple_asked : ℕ → List ℕ → ℕ → List ℕ → List Asked
multiple_asked n words x list = circuit_asked n words 0
    ++ (rule 8 asks OneVector n x ∷ rule 9 asks Entries n (gates_of words) list ∷ rule 13 asks EntryCount (faults_of list) ∷ [])

pub multiple_spelled : (n : ℕ) (words : List ℕ) (x : ℕ) (list : List ℕ) → Spelled (multiple_rows n words x list) (multiple_asked n words x list)
unfolding multiple_rows entries_rows vector_rows circuit_rows circuit_set_rows
multiple_spelled n words x list =
    lines_rule n then whole_rule words 0 then gates_rule n words then vector_rule n x then entries_rule n (gates_of words) list
    then entry_count_rule (faults_of list) then done

-- a fault whose test is wanted
abbrev pub test_asked : ℕ → List ℕ → Fault → List Asked
test_asked n words f = circuit_asked n words 0 ++ (rule 9 asks OneFault n (gates_of words) f ∷ [])

pub test_spelled : (n : ℕ) (words : List ℕ) (f : Fault) → Spelled (test_rows n words f) (test_asked n words f)
unfolding test_rows fault_rows circuit_rows circuit_set_rows
test_spelled n words f =
    lines_rule n then whole_rule words 0 then gates_rule n words then fault_rule n (gates_of words) f then done

-- a set and a class
abbrev pub judge_asked : ℕ → List ℕ → List ℕ → ℕ → List Asked
judge_asked n words xs class = circuit_asked n words (length xs) ++ (rule 8 asks Vectors n xs ∷ rule 9 asks OneClass class ∷ [])

pub judge_spelled : (n : ℕ) (words xs : List ℕ) (class : ℕ) → Spelled (judge_rows n words xs class) (judge_asked n words xs class)
unfolding judge_rows set_rows class_rows circuit_set_rows
judge_spelled n words xs class =
    lines_rule n then whole_rule words (length xs) then gates_rule n words then vectors_rule n xs then class_rule class then done

-- one vector more, and a count, of a coverage
abbrev pub count_asked : ℕ → List ℕ → ℕ → List Asked
count_asked n words class = circuit_asked n words 0 ++ (rule 9 asks OneClass class ∷ [])

pub count_spelled : (n : ℕ) (words : List ℕ) (class : ℕ) → Spelled (count_rows n words class) (count_asked n words class)
unfolding count_rows class_rows circuit_rows circuit_set_rows
count_spelled n words class =
    lines_rule n then whole_rule words 0 then gates_rule n words then class_rule class then done

abbrev pub add_asked : ℕ → List ℕ → ℕ → List Asked
add_asked n words x = circuit_asked n words 0 ++ (rule 8 asks OneVector n x ∷ [])

pub add_spelled : (n : ℕ) (words : List ℕ) (x : ℕ) → Spelled (circuit_rows n words ++ vector_rows n x) (add_asked n words x)
unfolding vector_rows circuit_rows circuit_set_rows
add_spelled n words x = lines_rule n then whole_rule words 0 then gates_rule n words then vector_rule n x then done

-- dropping from a plain list, and from records
abbrev pub drop_asked : ℕ → List ℕ → ℕ → List ℕ → List Asked
drop_asked n words x list = circuit_asked n words 0 ++ (rule 8 asks OneVector n x ∷ rule 9 asks PlainRecords n (gates_of words) list ∷ [])

pub drop_spelled : (n : ℕ) (words : List ℕ) (x : ℕ) (list : List ℕ) → Spelled (drop_rows n words x list) (drop_asked n words x list)
unfolding drop_rows record_rows vector_rows circuit_rows circuit_set_rows
drop_spelled n words x list =
    lines_rule n then whole_rule words 0 then gates_rule n words then vector_rule n x then plain_records_rule n (gates_of words) list then done

abbrev pub drop_records_asked : ℕ → List ℕ → ℕ → List Fault → List Asked
drop_records_asked n words x fs = circuit_asked n words 0 ++ (rule 8 asks OneVector n x ∷ rule 9 asks Records n (gates_of words) fs ∷ [])

pub drop_records_spelled : (n : ℕ) (words : List ℕ) (x : ℕ) (fs : List Fault) → Spelled (drop_records_rows n words x fs) (drop_records_asked n words x fs)
unfolding drop_records_rows record_rows vector_rows circuit_rows circuit_set_rows
drop_records_spelled n words x fs =
    lines_rule n then whole_rule words 0 then gates_rule n words then vector_rule n x then records_rule n (gates_of words) fs then done

-- the backward set, and the compact set, whose room is `bound`: `Accepting` says it in words, 2 + floor(log2 S)
abbrev pub backward_set_asked : ℕ → List ℕ → ℕ → List Asked
backward_set_asked n words room = circuit_asked n words 0 ++ (rule 10 asks Room (length words / 3 + 2) room ∷ [])

pub backward_set_spelled : (n : ℕ) (words : List ℕ) (room : ℕ) → Spelled (backward_rows n words room) (backward_set_asked n words room)
unfolding backward_rows circuit_rows circuit_set_rows
backward_set_spelled n words room =
    lines_rule n then whole_rule words 0 then gates_rule n words then room_as_rule _ _ room (ap (λ d. d + 2) (gates_count words)) then done

abbrev pub compact_set_asked : ℕ → List ℕ → ℕ → List Asked
compact_set_asked n words room = circuit_asked n words 0 ++ (rule 11 asks FewLines n ∷ rule 10 asks Room (bound n (gates_of words)) room ∷ [])

pub compact_set_spelled : (n : ℕ) (words : List ℕ) (room : ℕ) → Spelled (compact_rows n words room) (compact_set_asked n words room)
unfolding compact_rows circuit_rows circuit_set_rows
compact_set_spelled n words room =
    lines_rule n then whole_rule words 0 then gates_rule n words then few_lines_rule n then room_rule (bound n (gates_of words)) room then done

-- a circuit that is written as a text
abbrev pub export_asked : ℕ → List ℕ → ℕ → List Asked
export_asked n words room = circuit_asked n words 0 ++ (rule 10 asks Room (length (real_text n words)) room ∷ [])

pub export_spelled : (n : ℕ) (words : List ℕ) (room : ℕ) → Spelled (export_rows n words room) (export_asked n words room)
unfolding export_rows circuit_rows circuit_set_rows
export_spelled n words room =
    lines_rule n then whole_rule words 0 then gates_rule n words then room_rule (length (real_text n words)) room then done

-- a text that is read: where 15 and 14 are kept it reads as a circuit, as `RulesOfTexts.kept_reads` says, and the others ask that one
abbrev pub import_asked : List ℕ → ℕ → List Asked
import_asked text room =
    let n = lines_read (reading text) in
    let words = words_read (reading text) in
    rule 15 asks OtherTokens text ∷
    rule 14 asks TextForm text ∷
    (circuit_asked n words 0 ++ (rule 10 asks Room (length words) room ∷ []))

pub import_spelled : (text : List ℕ) (room : ℕ) → Spelled (import_rows text room) (import_asked text room)
unfolding import_rows circuit_rows circuit_set_rows
import_spelled text room =
    let n = lines_read (reading text) in
    let words = words_read (reading text) in
    other_tokens_rule text then text_form_rule text
    then lines_rule n then whole_rule words 0 then gates_rule n words then room_rule (length words) room then done

-- the report
abbrev pub report_asked : List ℕ → ℕ → List Asked
report_asked bytes room = rule 10 asks Room (length (report_text bytes)) room ∷ []

pub report_spelled : (bytes : List ℕ) (room : ℕ) → Spelled (report_rows bytes room) (report_asked bytes room)
unfolding report_rows
report_spelled bytes room =
    room_rule (length (report_text bytes)) room then done

-- a job that is read: header, gates and vectors, room
abbrev pub read_asked : List ℕ → ℕ → ℕ → List Asked
read_asked bytes gate_room vector_room =
    let n = two bytes 2 in
    let d = four bytes 8 in
    let m = four bytes 12 in
    rule 1 asks Short bytes ∷
    rule 2 asks Form bytes ∷
    rule 3 asks Lines n ∷
    rule 4 asks ClassesIn bytes ∷
    rule 5 asks Counts d m ∷
    rule 6 asks Sizes bytes ∷
    rule 7 asks Gates n (words_from (3 * d) bytes 28) ∷
    rule 8 asks Vectors n (words_from m bytes (28 + 12 * d)) ∷
    rule 10 asks TwoRooms (3 * d) gate_room m vector_room ∷ []

pub read_spelled : (bytes : List ℕ) (gate_room vector_room : ℕ) → Spelled (read_rows bytes gate_room vector_room) (read_asked bytes gate_room vector_room)
unfolding read_rows header_rows content_rows lines_in classes_in gates_in vectors_in gate_words vector_words
read_spelled bytes gate_room vector_room =
    let d = four bytes 8 in
    let m = four bytes 12 in
    rw (
      number_two bytes 0,
      number_two bytes 2,
      number_two bytes 4,
      number_two bytes 6,
      number_four bytes 8,
      number_four bytes 12,
      words_from_lem (3 * d) bytes 28,
      words_from_lem m bytes (28 + 12 * d),
    ) (short_rule bytes then form_rule bytes then lines_rule _ then classes_in_rule bytes then counts_rule d m then sizes_rule bytes
    then gates_rule _ _ then vectors_rule _ _ then two_rooms_rule (3 * d) gate_room m vector_room then done)

-- and one that is written
abbrev pub write_asked : ℕ → ℕ → List ℕ → List ℕ → ℕ → List Asked
write_asked n classes words xs room =
    rule 3 asks Lines n ∷
    rule 4 asks Classes classes ∷
    rule 5 asks Counts (length words / 3) (length xs) ∷
    rule 7 asks Gates n words ∷
    rule 8 asks Vectors n xs ∷
    rule 10 asks Room (28 + 4 * length words + 4 * length xs) room ∷ []

pub write_spelled : (n classes : ℕ) (words xs : List ℕ) (room : ℕ)
    → Spelled (write_rows n classes words xs room) (write_asked n classes words xs room)
unfolding write_rows content_rows gate_count
write_spelled n classes words xs room =
    lines_rule n then classes_rule classes then counts_rule (length words / 3) (length xs) then gates_rule n words then vectors_rule n xs
    then room_as_rule _ _ room (length-image n classes words xs) then done
