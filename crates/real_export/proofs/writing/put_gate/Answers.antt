-- `real_export::writing::put_gate` meets its contract: the letter, the number, the names and the end are put one after another. Assumes nothing.
use Rattle.std.proofs.Common.{arith}
use Rattle.real_export.proofs.PartLaws.{gate-length, gate_lines, lines_below, gate_long, put_gate}
use Rattle.real_export.proofs.writing.put_gate.Goals as goal

pub put_byte-number-requires : goal.put_byte-number-requires
put_byte-number-requires c = let own = c.args.own in omega (arith, gate-length own.lines own.gate own.fits.1 own.ok)

pub overflow_add-ones : goal.overflow_add-ones
overflow_add-ones c =
    let own = c.args.own in
    omega (arith, gate_lines own.lines own.gate own.fits.1 own.ok _ c.ones.ensures, lines_below own.lines own.gate own.fits.1 own.ok)

pub put_number-names-requires : goal.put_number-names-requires
put_number-names-requires c =
    let own = c.args.own in
    let lines = gate_lines own.lines own.gate own.fits.1 own.ok _ c.ones.ensures in
    let long = gate_long own.lines own.gate own.fits.1 own.ok c.ones.ensures in
    (omega (arith, lines, lines_below own.lines own.gate own.fits.1 own.ok), omega (arith, long, c.put_byte-number.ensures.told))

pub put_names-target-requires : goal.put_names-target-requires
put_names-target-requires c =
    let own = c.args.own in
    let long = gate_long own.lines own.gate own.fits.1 own.ok c.ones.ensures in
    omega (arith, long, c.put_byte-number.ensures.told, c.put_number-names.ensures.told)

pub put_name-last-requires : goal.put_name-last-requires
put_name-last-requires c =
    let own = c.args.own in
    let long = gate_long own.lines own.gate own.fits.1 own.ok c.ones.ensures in (
      omega (arith, own.fits.1, own.ok.target_in),
      omega (arith, long, c.put_byte-number.ensures.told, c.put_number-names.ensures.told, c.put_names-target.ensures.told),
    )

pub put_byte-requires : goal.put_byte-requires
put_byte-requires c =
    let own = c.args.own in
    let long = gate_long own.lines own.gate own.fits.1 own.ok c.ones.ensures in
    let number = c.put_number-names.ensures.told in
    omega (arith, long, c.put_byte-number.ensures.told, number, c.put_names-target.ensures.told, c.put_name-last.ensures.told)

pub returns : goal.returns
returns c =
    let own = c.args.own in
    put_gate own.lines own.gate own.fits.1 own.ok c.ones.ensures c.put_byte-number.ensures c.put_number-names.ensures c.put_names-target.ensures
    c.put_name-last.ensures c.put_byte.ensures
