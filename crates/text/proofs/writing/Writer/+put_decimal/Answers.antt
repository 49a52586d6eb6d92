-- `text::writing::Writer::put_decimal` meets its contract: a number of one digit is that digit, and any other is the number without its last digit,
-- and then that digit. The number falls at each call. Assumes nothing.
use Rattle.std.proofs.Common.{arith, sym}
use Rattle.text.proofs.WritingLaws.{put_then, fits_first, fits_then, fits_as, put_alike, decimal_first, decimal_last}
use Rattle.text.proofs.writing.Writer.+put_decimal.Goals as goal

pub put-requires : goal.put-requires
put-requires t c = fits_as (decimal_first c.args.number (omega arith)) c.requires

pub put_decimal-requires : goal.put_decimal-requires
put_decimal-requires t c = (omega arith, fits_first _ (fits_as (decimal_last c.args.number (omega arith)) c.requires))

pub put-requires-else-number-lt10 : goal.put-requires-else-number-lt10
put-requires-else-number-lt10 t c = fits_then (fits_as (decimal_last c.args.number (omega arith)) c.requires) c.put_decimal.ensures

pub returns-then-number-lt10 : goal.returns-then-number-lt10
returns-then-number-lt10 t c = put_alike (sym (decimal_first c.args.number (omega arith))) c.put.ensures

pub returns-else-number-lt10 : goal.returns-else-number-lt10
returns-else-number-lt10 t c = put_alike (sym (decimal_last c.args.number (omega arith))) (put_then c.put_decimal.ensures c.put-else-number-lt10.ensures)
