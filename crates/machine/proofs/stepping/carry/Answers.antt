-- `machine::stepping::carry` meets its contract: a network of another size than four, eight and sixteen lines is one that the general form takes.
use Rattle.tables.proofs.Dims.{lines-few, switch_bits-few}
use Rattle.tables.proofs.Passes.{line-sized}
use Rattle.tables.proofs.Shapes.{shape_fields}
use Rattle.machine.proofs.stepping.carry.Goals as goal

pub sources-requires : goal.sources-requires
sources-requires c =
    let F = shape_fields c.shape.invariant c.shape.view_is in
    rw (F.lines, F.switches)
    (record { by_index = line-sized c.args.shape.width; in_bounds = (c.requires.0, lines-few F.dims, switch_bits-few F.dims, c.requires.1) })
