-- `report_text::classes::put_classes` meets its contract: each turn puts what one class has, and the classes left make the rest. Assumes nothing.
use Rattle.circuit.specs.Gates.{gates_of}
use Rattle.text.proofs.WritingLaws.{left_start, left_next, left_part, left_done}
use Rattle.report_text.proofs.LineLaws.{each_left, each_end}
use Rattle.report_text.proofs.ClassLaws.{text_of_class, four_texts}
use Rattle.report_text.proofs.classes.put_classes.Goals as goal

pub loop-class-init : goal.loop-class-init
loop-class-init c =
    let circuit = c.args.circuit.now in
    left_start (four_texts circuit.lines (gates_of circuit.gates.now) c.args.vectors.now c.args.classes) c.requires

pub put_wanted-requires : goal.put_wanted-requires
put_wanted-requires c =
    let circuit = c.args.circuit.now in
    left_part _ (each_left (text_of_class circuit.lines (gates_of circuit.gates.now) c.args.vectors.now c.args.classes) _ _ _ c.loop-class-test.true)
    c.loop-class.invariant

pub loop-class-preserved : goal.loop-class-preserved
loop-class-preserved c =
    let circuit = c.args.circuit.now in
    left_next (each_left (text_of_class circuit.lines (gates_of circuit.gates.now) c.args.vectors.now c.args.classes) _ _ _ c.loop-class-test.true)
    c.loop-class.invariant c.put_wanted.ensures

pub returns : goal.returns
returns c =
    let circuit = c.args.circuit.now in
    left_done (each_end (text_of_class circuit.lines (gates_of circuit.gates.now) c.args.vectors.now c.args.classes) _ _ c.loop-class-test.false)
    c.loop-class.invariant
