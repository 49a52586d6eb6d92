-- `real_export::writing::put_number` meets its contract: a number below 100 has one digit or two. Assumes nothing.
use Rattle.std.proofs.Common.{arith}
use Rattle.real_export.proofs.PutLaws.{digits_one, digits_two, put_digit, put_digits}
use Rattle.real_export.proofs.writing.put_number.Goals as goal

pub put_byte-requires : goal.put_byte-requires
put_byte-requires c = omega (arith, c.requires.1, digits_one c.args.x c.if-x-lt10.true)

pub returns-then-x-lt10 : goal.returns-then-x-lt10
returns-then-x-lt10 c = put_digit c.args.x c.if-x-lt10.true c.put_byte.ensures

pub put_byte-last-requires : goal.put_byte-last-requires
put_byte-last-requires c = omega (arith, c.requires.1, digits_two c.args.x c.requires.0 c.if-x-lt10.false)

pub put_byte-requires-2 : goal.put_byte-requires-2
put_byte-requires-2 c = omega (arith, c.requires.1, c.put_byte-last.ensures.told, digits_two c.args.x c.requires.0 c.if-x-lt10.false)

pub returns : goal.returns
returns c = put_digits c.args.x c.requires.0 c.if-x-lt10.false c.put_byte-last.ensures c.put_byte-2.ensures
