-- `lines::cursor_at` meets its contract: line t stands where the shape says, far from any overflow.
use Rattle.std.proofs.Common.{ℕ, ◌+◌, ◌*◌, ◌^◌, ◌<◌, ◌≤◌, arith}
use Rattle.tables.specs.Terms.{cycles}
use Rattle.tables.specs.Shapes.{Size}
use Rattle.tables.specs.declared.Shape.TheInside.{Inside}
use Rattle.tables.proofs.Dims.{line_at-few}
use Rattle.tables.proofs.Shapes.{Fields, shape_fields, shape-line}
use Rattle.tables.proofs.lines.cursor_at.Goals as goal

few : {s : Inside} {z : Size} (t : ℕ) → Fields s z → t < cycles z.words z.width → s.start + t * s.stride ≤ 2 ^ 26
few t F l = rw (shape-line F t) (line_at-few F.dims t (omega arith))

pub overflow_mul-result : goal.overflow_mul-result
overflow_mul-result c = omega (arith, few c.args.t (shape_fields c.shape.invariant c.shape.view_is) c.requires)

pub overflow_add-result : goal.overflow_add-result
overflow_add-result c = omega (arith, few c.args.t (shape_fields c.shape.invariant c.shape.view_is) c.requires)

pub returns : goal.returns
returns c = λ i. record { at = shape-line (shape_fields c.shape.invariant c.shape.view_is) c.args.t i; handed = 0 }
