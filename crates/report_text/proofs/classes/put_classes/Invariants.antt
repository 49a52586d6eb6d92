-- `report_text::classes::put_classes` meets its contract: each turn puts what one class has, and the classes left make the rest. Assumes nothing.
use Rattle.std.proofs.Common.{drop}
use Rattle.basics.specs.Lists.{each}
use Rattle.circuit.specs.Gates.{gates_of}
use Rattle.text.proofs.WritingLaws.{Left}
use Rattle.report_text.specs.Report.{class_lines}
use Rattle.report_text.proofs.ClassLaws.{text_of_class}
use Rattle.report_text.proofs.classes.put_classes.Given as goal

abbrev pub invariant-loop-class : goal.invariant-loop-class
invariant-loop-class l =
    let n = l.circuit.lines in
    let words = l.circuit.gates.now in
    Left l.initial.text l.text (class_lines n l.classes words l.vectors)
    (each (text_of_class n (gates_of words) l.vectors l.classes) (drop l.class-index l.class-items))
