-- `opening::file_length` meets its contract: the lines of a set have at most 458,752 bits.
use Rattle.std.proofs.Common.{◌*◌, ◌≤◌, arith}
use Rattle.tables.specs.Shapes.{Size}
use Rattle.tables.specs.declared.Shape.TheInside.{Inside}
use Rattle.tables.proofs.Shapes.{Fields, shape_fields, shape-total, shape-length}
use Rattle.tables.proofs.Longest.{lines-longest}
use Rattle.tables.proofs.Header.{bytes-few}
use Rattle.tables.proofs.opening.file_length.Goals as goal

total-few : {s : Inside} {z : Size} → Fields s z → s.cycles * s.stride ≤ 458752
total-few F = omega (arith, shape-total F, lines-longest F.dims)

pub overflow_mul-result : goal.overflow_mul-result
overflow_mul-result c = omega (arith, total-few (shape_fields c.shape.invariant c.shape.view_is))

pub overflow_add-result : goal.overflow_add-result
overflow_add-result c = omega (arith, total-few (shape_fields c.shape.invariant c.shape.view_is))

pub overflow_add-result-2 : goal.overflow_add-result-2
overflow_add-result-2 c =
    let F = shape_fields c.shape.invariant c.shape.view_is in
    omega (arith, total-few F, F.start, bytes-few c.args.shape.words)

pub returns : goal.returns
returns c = shape-length (shape_fields c.shape.invariant c.shape.view_is)
