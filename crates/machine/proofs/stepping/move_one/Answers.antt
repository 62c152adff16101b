-- `move_one`: the two addresses are cut out of the line's field, each is tested, and the word moves.
use Rattle.std.proofs.Common.{◌*◌, ◌∙◌, arith}
use Rattle.tables.specs.Terms.{address_bits}
use Rattle.tables.proofs.Dims.{address_bits-few}
use Rattle.tables.proofs.Narrow.{field_room, field-taken, one-read, one-write}
use Rattle.tables.proofs.Shapes.{shape_fields}
use Rattle.machine.proofs.Narrow.{read_out, one_out, one-moved}
use Rattle.machine.proofs.stepping.move_one.Goals as goal

pub next_field-line-requires : goal.next_field-line-requires
next_field-line-requires c =
    let F = shape_fields c.shape.invariant c.shape.view_is in
    let few = address_bits-few F.dims in
    rw F.addressing (
      omega (arith, few),
      c.requires.in_bounds.0,
      field_room F.dims c.args.clock.cycle c.requires.in_range.0.cycle c.cursor_at.ensures (omega (arith, few)),
    )

pub overflow_mul-size : goal.overflow_mul-size
overflow_mul-size c =
    let F = shape_fields c.shape.invariant c.shape.view_is in
    omega (arith, F.addressing, address_bits-few F.dims)

pub address_in-read-requires : goal.address_in-read-requires
address_in-read-requires c =
    let F = shape_fields c.shape.invariant c.shape.view_is in
    let few = address_bits-few F.dims in
    (omega (arith, F.addressing, few), omega (arith, F.addressing, few))

pub returns-then-shape-read : goal.returns-then-shape-read
returns-then-shape-read c file Z =
    let F = shape_fields c.shape.invariant c.shape.view_is in
    let G = shape_fields c.shape-2.invariant c.shape-2.view_is in
    let n = c.args.shape.words in
    let w = c.args.shape.width in
    let t = c.args.clock.cycle in
    let line = field-taken n w t c.args.bytes.now (2 * address_bits n w) c.cursor_at.ensures (rw F.addressing at c.next_field-line.ensures) in
    read_out n w file c.args.clock c.args.first.now c.args.second.now c.requires.in_range.1 0 (omega (arith, c.requires.in_range.2))
    ((rw F.addressing at c.address_in-read.ensures) ∙ one-read n w Z t line) (rw G.cycles at c.if-shape-read.true)

pub address_in-write-requires : goal.address_in-write-requires
address_in-write-requires c =
    let F = shape_fields c.shape.invariant c.shape.view_is in
    (omega arith, omega (arith, F.addressing, address_bits-few F.dims))

pub returns-then-shape-write : goal.returns-then-shape-write
returns-then-shape-write c file Z =
    let F = shape_fields c.shape.invariant c.shape.view_is in
    let G = shape_fields c.shape-2.invariant c.shape-2.view_is in
    let n = c.args.shape.words in
    let w = c.args.shape.width in
    let t = c.args.clock.cycle in
    let line = field-taken n w t c.args.bytes.now (2 * address_bits n w) c.cursor_at.ensures (rw F.addressing at c.next_field-line.ensures) in
    one_out n w file c.args.clock c.args.first.now c.args.second.now c.requires.in_range.1 c.requires.in_range.2
    ((rw F.addressing at c.address_in-read.ensures) ∙ one-read n w Z t line) (rw G.cycles at c.if-shape-read.false)
    ((rw F.addressing at c.address_in-write.ensures) ∙ one-write n w Z t line c.requires.in_range.2) (rw G.cycles at c.if-shape-write.true)

pub returns : goal.returns
returns c file Z =
    let F = shape_fields c.shape.invariant c.shape.view_is in
    let G = shape_fields c.shape-2.invariant c.shape-2.view_is in
    let n = c.args.shape.words in
    let w = c.args.shape.width in
    let t = c.args.clock.cycle in
    let line = field-taken n w t c.args.bytes.now (2 * address_bits n w) c.cursor_at.ensures (rw F.addressing at c.next_field-line.ensures) in
    rw c.move_word.ensures
    (one-moved n w file c.args.clock c.args.first.now c.args.second.now c.requires.in_range.1 c.requires.in_range.2
    ((rw F.addressing at c.address_in-read.ensures) ∙ one-read n w Z t line) (rw G.cycles at c.if-shape-read.false)
    ((rw F.addressing at c.address_in-write.ensures) ∙ one-write n w Z t line c.requires.in_range.2) (rw G.cycles at c.if-shape-write.false))
