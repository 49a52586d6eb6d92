-- `number_bytes::checked::number_at` meets its contract: bytes that are padded with zeros make the same number. Assumes nothing.
use Rattle.std.proofs.Common.{◌∙◌}
use Rattle.number_bytes.proofs.ByteLaws.{number_read}
use Rattle.number_bytes.proofs.checked.number_at.Goals as goal

pub returns : goal.returns
returns g c =
    c.from_le_bytes.ensures
    ∙ number_read g.row.WIDTH c.args.bytes.now c.copy_from_slice.new.self c.args.at c.requires.0 c.requires.1 c.copy_from_slice.ensures.after
