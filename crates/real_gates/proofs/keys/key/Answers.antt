-- `real_gates::keys::key` meets its contract: each turn puts one byte below the key of the bytes after it. Assumes nothing.
use Rattle.std.proofs.Common.{length, arith}
use Rattle.real_gates.proofs.KeyLaws.{keying_none, byte_at, key_room, keying_more, keyed}
use Rattle.real_gates.proofs.keys.key.Goals as goal

pub loop-byte-init : goal.loop-byte-init
loop-byte-init c = keying_none cc

pub overflow_mul-key : goal.overflow_mul-key
overflow_mul-key c =
    let s = c.in-Some.ensures in
    let room = key_room c.loop-byte.invariant _ _ s.steps c.requires in
    omega arith

pub overflow_add-key : goal.overflow_add-key
overflow_add-key c =
    let s = c.in-Some.ensures in
    let room = key_room c.loop-byte.invariant _ _ s.steps c.requires in
    let byte = c.type_inv.word (length c.next.new.self.iter.rest.now) in
    omega (arith, byte_at c.loop-byte.invariant _ _ s.steps)

pub loop-byte-preserved : goal.loop-byte-preserved
loop-byte-preserved c =
    let s = c.in-Some.ensures in
    let byte = c.type_inv.word (length c.next.new.self.iter.rest.now) in
    keying_more c.loop-byte.invariant _ _ s.steps (omega (arith, byte_at c.loop-byte.invariant _ _ s.steps))

pub returns : goal.returns
returns c = let s = c.in-None.ensures in keyed c.loop-byte.invariant s.steps.0
