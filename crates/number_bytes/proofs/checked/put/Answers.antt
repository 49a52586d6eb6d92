-- `number_bytes::checked::put` meets its contract: the lower bytes of a number are stored side by side. Assumes nothing.
use Rattle.number_bytes.proofs.ByteLaws.{number_written}
use Rattle.number_bytes.proofs.checked.put.Goals as goal

pub returns : goal.returns
returns g c =
    number_written g.row.WIDTH c.args.out.now c.copy_from_slice.new.self c.to_le_bytes.result c.args.at c.args.x c.requires.0 c.requires.1
    c.to_le_bytes.ensures c.copy_from_slice.ensures.after
