-- `Names::remember` meets its contract: each turn stores the key of the next name, until none is left or no room. Assumes nothing.
use Rattle.std.proofs.Common.{◌≡◌, ◌-◌, ◌∙◌, arith, rules, length, length-set}
use Rattle.text_words.specs.Words.{words_of}
use Rattle.real_gates.proofs.KeyLaws.{keyed_none, keyed_more, keyed_all, next_length, keys_held}
use Rattle.real_gates.proofs.keys.Names.remember.Goals as goal

pub loop-i-init : goal.loop-i-init
loop-i-init c = (search rules, keyed_none (search rules) (search rules))

pub key-requires : goal.key-requires
key-requires c = let s = c.in-Some.ensures in next_length c.loop-i.invariant.1 s.steps.0.0 c.requires

pub loop-i-preserved : goal.loop-i-preserved
loop-i-preserved c =
    let l = c.loop-i.invariant in
    let s = c.in-Some.ensures in
    let i = s.steps.0.1 in
    let kept = c.loop-i.auto.room in
    (omega (arith, length-set c.loop-i.room c.in-Some.i c.key.result), rw (i, s.steps.0.2, c.key.ensures) (keyed_more l.1 s.steps.0.0 (omega arith)))

pub invariant_of-result : goal.invariant_of-result
invariant_of-result c =
    let l = c.loop-i.invariant in
    let s = c.in-None.ensures in
    let names = words_of c.args.line.now in
    let many = c.count_words-count.ensures in
    let whole : length names - 0 ≡ length names = omega arith in
    record {
      known = record {
        are = c.requires;
        counted = many;
        keyed = keys_held _ names c.get.result c.get.ensures.lookup.0
            (λ held h. h.2 ∙ rw (many, whole) (keyed_all l.1 l.0 (λ n. (s.steps n).0.0) (let room = h.1 in omega arith)));
      };
    }
