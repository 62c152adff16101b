-- `end` meets its contract: the filling starts behind the last line, and ends with the file.
use Rattle.std.proofs.Common.{ℕ, ◌+◌, ◌*◌, ◌-◌, ap, ◌∙◌, arith}
use lib.Pow.{pow_pos}
use Rattle.bits.specs.Bits.{put_field}
use Rattle.bits.specs.inner.Writing.{whole_of}
use Rattle.tables.specs.Format.{line_at}
use Rattle.tables.specs.Terms.{cycles}
use Rattle.tables.proofs.Shapes.{shape_fields}
use Rattle.packing.proofs.Parts.{ending, filling-put}
use Rattle.packing.proofs.end.Goals as goal

pub overflow_mul-end : goal.overflow_mul-end
overflow_mul-end c = let E = ending (shape_fields c.shape.invariant c.shape.view_is) in omega (arith, E.offset)

pub overflow_add-end : goal.overflow_add-end
overflow_add-end c =
    let E = ending (shape_fields c.shape.invariant c.shape.view_is) in
    omega (arith, E.end, E.few)

pub overflow_mul-filling : goal.overflow_mul-filling
overflow_mul-filling c =
    let E = ending (shape_fields c.shape.invariant c.shape.view_is) in
    omega (arith, E.tight, E.few, c.file_length.ensures)

pub overflow_sub-filling : goal.overflow_sub-filling
overflow_sub-filling c =
    let E = ending (shape_fields c.shape.invariant c.shape.view_is) in
    omega (arith, E.end, E.reaches, c.file_length.ensures)

pub write-window-requires-clause-width_bound : goal.write-window-requires-clause-width_bound
write-window-requires-clause-width_bound c =
    let E = ending (shape_fields c.shape.invariant c.shape.view_is) in
    (omega (arith, E.end, E.tight, c.file_length.ensures), pow_pos _)

pub write-window-requires-clause-fact : goal.write-window-requires-clause-fact
write-window-requires-clause-fact c =
    let E = ending (shape_fields c.shape.invariant c.shape.view_is) in
    (rw E.end c.requires.fact, omega (arith, E.end, E.reaches, c.file_length.ensures, c.requires.in_bounds))

pub overflow_add-end-2 : goal.overflow_add-end-2
overflow_add-end-2 c =
    let E = ending (shape_fields c.shape.invariant c.shape.view_is) in
    omega (arith, E.end, E.reaches, E.tight, E.few, c.file_length.ensures)

pub finish-requires : goal.finish-requires
finish-requires c =
    let E = ending (shape_fields c.shape.invariant c.shape.view_is) in (
      c.write-window.ensures.0,
      omega (arith, E.end, E.reaches, c.file_length.ensures, c.requires.in_bounds, c.write-window.auto.bytes),
    )

pub returns : goal.returns
returns c =
    let a = c.args in
    let shape = a.shape in
    let E = ending (shape_fields c.shape.invariant c.shape.view_is) in
    let size = c.file_length.result in
    let end = c.shape.inside.start + c.shape.inside.cycles * c.shape.inside.stride in
    c.finish.ensures
    ∙ filling-put (whole_of a.file.now (line_at shape.words shape.width (cycles shape.words shape.width)) a.held) _ size
    E c.file_length.ensures
    (c.write-window.ensures.1 ∙ ap (λ (x : ℕ). put_field (whole_of a.file.now x a.held) end (8 * size - end) 0) E.end)
