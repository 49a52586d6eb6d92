-- `report_text::classes::put_wanted` meets its contract: a class that is not wanted has no text, and any other that of its verdict. Assumes nothing.
use Rattle.std.proofs.Common.{◌≡◌, true, false, sym, ◌∙◌, ap}
use Rattle.circuit.specs.Gates.{gates_of}
use Rattle.faults.specs.Kinds.{class_number}
use Rattle.job.specs.Wanted.{is_wanted}
use Rattle.text.proofs.WritingLaws.{fits_as, put_alike, put_none}
use Rattle.report_text.proofs.ClassLaws.{verdict_text_lem, not-wanted, is_wanted_lem}
use Rattle.report_text.proofs.classes.put_wanted.Goals as goal

pub put_verdict-requires : goal.put_verdict-requires
put_verdict-requires c =
    let a = c.args in
    let circuit = a.circuit.now in
    let gs = gates_of circuit.gates.now in
    let class = class_number a.class in
    let yes : is_wanted a.classes class ≡ true = sym (c.is_wanted.ensures ∙ ap (is_wanted a.classes) c.number.ensures) ∙ c.if-is_wanted.true in
    fits_as (sym (verdict_text_lem circuit.lines gs a.vectors.now class c.judge_class.result c.judge_class.ensures
    ∙ is_wanted_lem circuit.lines gs a.vectors.now a.classes class yes)) c.requires

pub returns-then-is_wanted : goal.returns-then-is_wanted
returns-then-is_wanted c =
    let a = c.args in
    let circuit = a.circuit.now in
    let gs = gates_of circuit.gates.now in
    let class = class_number a.class in
    let yes : is_wanted a.classes class ≡ true = sym (c.is_wanted.ensures ∙ ap (is_wanted a.classes) c.number.ensures) ∙ c.if-is_wanted.true in
    put_alike (verdict_text_lem circuit.lines gs a.vectors.now class c.judge_class.result c.judge_class.ensures
    ∙ is_wanted_lem circuit.lines gs a.vectors.now a.classes class yes) c.put_verdict.ensures

pub returns-else-is_wanted : goal.returns-else-is_wanted
returns-else-is_wanted c =
    let a = c.args in
    let circuit = a.circuit.now in
    let class = class_number a.class in
    let no : is_wanted a.classes class ≡ false = sym (c.is_wanted.ensures ∙ ap (is_wanted a.classes) c.number.ensures) ∙ c.if-is_wanted.false in
    put_alike (not-wanted circuit.lines (gates_of circuit.gates.now) a.vectors.now a.classes class no) (put_none _)
