-- `spot_of`: the index is the spot, and no part of the sum is above it.
use Rattle.std.proofs.Common.{arith}
use Rattle.tables.proofs.Shapes.{shape_fields}
use Rattle.machine.proofs.Indexes.{index-spot, index-inside, shape-few}
use Rattle.machine.proofs.banks.spot_of.Goals as goal

pub overflow_mul-result : goal.overflow_mul-result
overflow_mul-result c = omega (arith, shape-few (shape_fields c.shape.invariant c.shape.view_is))

pub overflow_mul-result-2 : goal.overflow_mul-result-2
overflow_mul-result-2 c =
    let F = shape_fields c.shape.invariant c.shape.view_is in
    omega (arith, index-inside F c.args.half c.args.bank c.args.address c.requires.0 c.requires.1 c.requires.2, F.dims.few)

pub overflow_add-result : goal.overflow_add-result
overflow_add-result c =
    let F = shape_fields c.shape.invariant c.shape.view_is in
    omega (arith, index-inside F c.args.half c.args.bank c.args.address c.requires.0 c.requires.1 c.requires.2, F.dims.few)

pub overflow_add-result-2 : goal.overflow_add-result-2
overflow_add-result-2 c =
    let F = shape_fields c.shape.invariant c.shape.view_is in
    omega (arith, index-inside F c.args.half c.args.bank c.args.address c.requires.0 c.requires.1 c.requires.2, F.dims.few)

pub returns : goal.returns
returns c =
    let F = shape_fields c.shape.invariant c.shape.view_is in (
      index-spot F c.args.half c.args.bank c.args.address,
      index-inside F c.args.half c.args.bank c.args.address c.requires.0 c.requires.1 c.requires.2,
    )
