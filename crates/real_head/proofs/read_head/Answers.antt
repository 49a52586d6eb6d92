-- `real_head::read_head` meets its contract: each turn reads one line, so what is left is read from the stage that the lines before lead to.
-- Assumes nothing.
use Rattle.std.proofs.Common.{refl, sym, ap, ◌∙◌, ◌≡◌, ◌-◌, length, Some, arith}
use Rattle.real.specs.Reading.{reading, read_from}
use Rattle.real_head.specs.Stages.{stage_of, turn_step}
use Rattle.real_head.proofs.LineLaws.{line_in, head_goes, head_stops, head_ends}
use Rattle.text_words.proofs.PartLaws.{ends_on}
use Rattle.real_head.proofs.read_head.Goals as goal

pub loop-here-init : goal.loop-here-init
unfolding reading
loop-here-init c =
    let text = c.args.text.now in
    let all : length text - length text ≡ 0 = omega arith in
    (omega arith, refl, tt, rw all refl)

pub returns-in-None : goal.returns-in-None
returns-in-None c =
    let l = c.loop-here in
    head_stops _ l.line l.due c.in-Some.ensures l.invariant.1 14 c.in-None.ensures.step

pub returns-in-Some-Begins : goal.returns-in-Some-Begins
returns-in-Some-Begins c =
    let l = c.loop-here in
    let turn = ap (λ t. turn_step (Some t)) c.in-Some-Begins.field-0-is in
    let within = c.in-Some-Begins.ensures.within c.args.text.now l.invariant.2 (line_in c.args.text.now l.invariant.3 c.in-Some.ensures) in
    record {
      names = rw c.in-Some-Begins.field-0-is at within;
      ends = ends_on c.args.text.now l.invariant.3 c.in-Some.ensures.ends;
      counted = omega (arith, l.invariant.0, c.in-Some.ensures.shorter);
      read = head_goes _ l.line l.due c.in-Some.ensures l.invariant.1 _ (sym turn ∙ c.in-Some-Begins.ensures.step);
    }

pub loop-here-preserved : goal.loop-here-preserved
loop-here-preserved c =
    let l = c.loop-here in
    let turn = ap (λ t. turn_step (Some t)) c.in-Some-Goes.field-0-is in
    let within = c.in-Some-Goes.ensures.within c.args.text.now l.invariant.2 (line_in c.args.text.now l.invariant.3 c.in-Some.ensures) in (
      omega (arith, l.invariant.0, c.in-Some.ensures.shorter),
      head_goes _ l.line l.due c.in-Some.ensures l.invariant.1 _ (sym turn ∙ c.in-Some-Goes.ensures.step),
      rw c.in-Some-Goes.field-0-is at within,
      ends_on c.args.text.now l.invariant.3 c.in-Some.ensures.ends,
    )

pub returns : goal.returns
returns c =
    let l = c.loop-here in
    l.invariant.1 ∙ ap (read_from l.line (stage_of l.due)) c.in_default.ensures ∙ head_ends l.line l.due
