-- `row::take_row` meets its contract: each turn takes one group of banks, from where the one before it ended, and the
-- banks that are left are a shorter group.
use Rattle.std.proofs.Common.{◌≡◌, ◌+◌, ◌*◌, ◌-◌, ap, ◌∙◌, arith}
use Rattle.bits.specs.Reading.{onward}
use Rattle.tables.specs.Terms.{address_bits}
use Rattle.tables.proofs.Dims.{address_bits-few}
use Rattle.tables.proofs.Cursors.{room-behind, field-behind}
use Rattle.tables.proofs.Groups.{group-fits, rest-fits, rest-few}
use Rattle.tables.proofs.Shapes.{shape_fields}
use Rattle.rows.proofs.row.take_row.Goals as goal

pub next_field-taken-requires : goal.next_field-taken-requires
next_field-taken-requires g c =
    let F = shape_fields c.shape.invariant c.shape.view_is in
    let shape = c.args.shape in
    let size = address_bits shape.words shape.width in
    let l = c.loop-b in
    let r = c.requires.in_bounds in
    rw F.addressing (
      omega (arith, address_bits-few F.dims),
      r.0,
      room-behind c.args.cursor (l.b * size) l.invariant.behind r.1 (group-fits shape.width l.b size (rw F.width at c.loop-b-test.true)),
    )

pub take_group-requires-clause-in_bounds : goal.take_group-requires-clause-in_bounds
take_group-requires-clause-in_bounds g c =
    let F = shape_fields c.shape.invariant c.shape.view_is in
    (rw F.width at c.loop-b-test.true, omega (arith, address_bits-few F.dims))

pub next_field-last-requires : goal.next_field-last-requires
next_field-last-requires g c =
    let F = shape_fields c.shape.invariant c.shape.view_is in
    let shape = c.args.shape in
    let size = address_bits shape.words shape.width in
    let l = c.loop-b in
    let r = c.requires.in_bounds in
    let fits = rest-fits shape.width l.b size l.invariant.within in
    rw (F.width, F.addressing) (
      omega (arith, rest-few shape.width l.b size (rw F.width at c.loop-b-test.false) (address_bits-few F.dims)),
      r.0,
      room-behind c.args.cursor (l.b * size) l.invariant.behind r.1 (omega (arith, fits)),
    )

pub take_group-requires-2-clause-in_bounds : goal.take_group-requires-2-clause-in_bounds
take_group-requires-2-clause-in_bounds g c =
    let F = shape_fields c.shape.invariant c.shape.view_is in
    let shape = c.args.shape in
    let l = c.loop-b in
    let few = rest-few shape.width l.b (address_bits shape.words shape.width) (rw F.width at c.loop-b-test.false) (address_bits-few F.dims) in
    rw F.width (omega (arith, l.invariant.within), omega (arith, few))

pub returns-clause-told : goal.returns-clause-told
returns-clause-told g c O =
    let F = shape_fields c.shape.invariant c.shape.view_is in
    let a = c.args in
    let w = a.shape.width in
    let size = address_bits a.shape.words w in
    let l = c.loop-b in
    let rest = (w - l.b) * size in
    let taken = field-behind a.cursor (l.b * size) l.invariant.behind a.file.now rest (rw (F.width, F.addressing) at c.next_field-last.ensures) in
    let told = (rw F.width at c.take_group-2.ensures).told a.banks.now a.file.now a.cursor.at taken.0 (l.invariant.taken O) in
    let all : l.b + (w - l.b) ≡ w = omega (arith, l.invariant.within) in
    (taken.1 ∙ ap (onward a.cursor) (rest-fits w l.b size l.invariant.within), rw all at (told.none c.if-take_group-2.false))
