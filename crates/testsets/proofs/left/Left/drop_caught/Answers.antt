-- `testsets::left::Left::drop_caught` meets its contract: each turn takes from the words of one level what the vector catches there, and the last
-- level comes after the loop. Assumes nothing.
use Rattle.std.proofs.Common.{arith, refl, sym, ap, ◌∙◌, ◌≡◌, ◌+◌, ◌<◌, suc, length, bit_and}
use Rattle.words.specs.WordOf.{lacking}
use Rattle.circuit.specs.Checked.{gates_in}
use Rattle.circuit.specs.Runs.{forward}
use Rattle.circuit.proofs.RuleLaws.{target_fits}
use Rattle.circuit.proofs.RunLaws.{forward_none}
use Rattle.testsets.specs.Left.{left_of}
use Rattle.testsets.proofs.Changes.{Changed, changed_none, changed-more}
use Rattle.marking.proofs.Levels.{level_next}
use Rattle.testsets.proofs.LeftLaws.{left-dropped}
use Rattle.testsets.proofs.left.Left.drop_caught.Goals as goal

pub loop-i-init : goal.loop-i-init
loop-i-init c = (refl, sym (forward_none _ _), changed_none _ _, changed_none _ _)

pub step-state-requires : goal.step-state-requires
step-state-requires c =
    let circuit = c.args.self.now.circuit in
    rw c.gate.ensures (target_fits circuit.lines circuit.gates.now _ circuit.sound (omega arith) (omega arith))

pub loop-i-preserved : goal.loop-i-preserved
loop-i-preserved c =
    let old = c.args.self.now in
    let left = c.loop-i.self in
    let gs = gates_in old.circuit in
    let i = c.loop-i.i in
    let (same, here, zeros, ones) = c.loop-i.invariant in
    let long-0 : i < length left.at_0 = omega (arith, old.within.at_0.wide, zeros.long) in
    let long-1 : i < length left.at_1 = omega (arith, old.within.at_1.wide, ones.long) in (
      c.drop_level.ensures.0 ∙ same,
      c.step-state.ensures ∙ level_next gs c.args.vector c.loop-i.state i _ _ here (omega arith) c.gate.ensures (omega arith),
      rw c.drop_level.ensures.1 (changed-more _ old.at_0 left.at_0 i _ _ c.level-level.ensures long-0 zeros (ap (lacking _) here)),
      rw c.drop_level.ensures.2 (changed-more _ old.at_1 left.at_1 i _ _ c.level-level.ensures long-1 ones (ap (bit_and _) here)),
    )

pub returns : goal.returns
returns c =
    let old = c.args.self.now in
    let left = c.loop-i.self in
    let new = c.drop_level-2.new.self in
    let gs = gates_in old.circuit in
    let i = c.loop-i.i in
    let k = c.level.result.0 in
    let x = c.args.vector in
    let (same, here, zeros, ones) = c.loop-i.invariant in
    let (kept, words-0, words-1) = c.drop_level-2.ensures in
    let long-0 : i < length left.at_0 = omega (arith, old.within.at_0.wide, zeros.long) in
    let long-1 : i < length left.at_1 = omega (arith, old.within.at_1.wide, ones.long) in
    let level : k ≡ i = omega arith in
    let last : suc (length gs) ≡ i + 1 = omega arith in
    let all-0 : Changed (λ p w. lacking w (forward gs p x)) (suc (length gs)) old.at_0 new.at_0 =
    rw (last, words-0) (changed-more _ old.at_0 left.at_0 i k _ level long-0 zeros (ap (lacking _) here)) in
    let all-1 : Changed (λ p w. bit_and w (forward gs p x)) (suc (length gs)) old.at_1 new.at_1 =
    rw (last, words-1) (changed-more _ old.at_1 left.at_1 i k _ level long-1 ones (ap (bit_and _) here)) in (
      kept ∙ same,
      ap (λ circuit. left_of circuit.lines (gates_in circuit) new.at_0 new.at_1) (kept ∙ same)
          ∙ left-dropped old.circuit.lines gs old.circuit.sound.gates_ok old.at_0 old.at_1 x new.at_0 new.at_1 all-0 all-1,
    )
