-- The number falls at each call.
use Rattle.text.proofs.writing.Writer.+put_decimal.Given as goal

abbrev pub decreases-put_decimal : goal.decreases-put_decimal
decreases-put_decimal l = l.number
