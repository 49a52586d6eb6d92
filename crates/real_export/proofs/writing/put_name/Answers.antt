-- `real_export::writing::put_name` meets its contract: a blank and the letter are put, and the number after them. Assumes nothing.
use Rattle.std.proofs.Common.{arith}
use Rattle.real_export.proofs.PartLaws.{name_length, put_name}
use Rattle.real_export.proofs.writing.put_name.Goals as goal

pub put_byte-letter-requires : goal.put_byte-letter-requires
put_byte-letter-requires c = omega (arith, name_length c.args.line, c.requires.1)

pub put_byte-number-requires : goal.put_byte-number-requires
put_byte-number-requires c = omega (arith, name_length c.args.line, c.requires.1, c.put_byte-letter.ensures.told)

pub put_number-requires : goal.put_number-requires
put_number-requires c = (
  omega (arith, c.requires.0),
  omega (arith, name_length c.args.line, c.requires.1, c.put_byte-letter.ensures.told, c.put_byte-number.ensures.told),
)

pub returns : goal.returns
returns c = put_name c.args.line c.put_byte-letter.ensures c.put_byte-number.ensures c.put_number.ensures
