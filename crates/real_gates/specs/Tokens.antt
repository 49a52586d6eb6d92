-- The token of a gate as it is read.
use Rattle.std.specs.Prelude.{ℕ, Bool, ◌&&◌, Option, Some, None, List, ◌++◌, length, leb}
use Rattle.basics.specs.Choice.{choice}
use Rattle.text.specs.Texts.{ascii, same}
use Rattle.text.specs.Decimal.{decimal}
use Rattle.real.specs.Form.{Word}

abbrev pub is_token : Word → List Word → Bool
is_token token words = leb 1 (length words) && same token (ascii "t" ++ decimal (length words))

-- the number of lines that it tells, or none
unfoldable pub token_of : Word → List Word → Option ℕ
token_of token words = choice (is_token token words) (Some (length words)) None
