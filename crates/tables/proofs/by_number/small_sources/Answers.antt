-- `by_number::small_sources` meets its contract: four lines have 5 bits, eight 17 and sixteen 49, and what the number form tells of them is what the
-- general form tells.
use Rattle.std.proofs.Common.{sym, ◌∙◌, arith}
use Rattle.tables.specs.inner.Counts.{four-count, eight-count, sixteen-count}
use Rattle.tables.proofs.Cursors.{room-less}
use Rattle.tables.proofs.Shapes.{shape_fields}
use Rattle.tables.proofs.ByNumber.{number-bits, number-sends}
use Rattle.tables.proofs.by_number.small_sources.Goals as goal

pub sources_by_number-requires : goal.sources_by_number-requires
sources_by_number-requires c =
    let F = shape_fields c.shape.invariant c.shape.view_is in
    (c.requires.0, room-less c.requires.1 (omega (arith, number-bits 3 _ eight-count (sym F.lines ∙ c.in-8.is))))

pub sources_by_number-requires-in-16 : goal.sources_by_number-requires-in-16
sources_by_number-requires-in-16 c =
    let F = shape_fields c.shape.invariant c.shape.view_is in
    (c.requires.0, room-less c.requires.1 (omega (arith, number-bits 4 _ sixteen-count (sym F.lines ∙ c.in-16.is))))

pub sources_by_number-requires-in-4 : goal.sources_by_number-requires-in-4
sources_by_number-requires-in-4 c =
    let F = shape_fields c.shape.invariant c.shape.view_is in
    (c.requires.0, room-less c.requires.1 (omega (arith, number-bits 2 _ four-count (sym F.lines ∙ c.in-4.is))))

pub returns-in-8 : goal.returns-in-8
returns-in-8 c =
    let F = shape_fields c.shape.invariant c.shape.view_is in
    number-sends 3 c.args.shape c.args.cursor eight-count (sym F.lines ∙ c.in-8.is) c.sources_by_number.ensures

pub returns-in-16 : goal.returns-in-16
returns-in-16 c =
    let F = shape_fields c.shape.invariant c.shape.view_is in
    number-sends 4 c.args.shape c.args.cursor sixteen-count (sym F.lines ∙ c.in-16.is) c.sources_by_number-in-16.ensures

pub returns-in-4 : goal.returns-in-4
returns-in-4 c =
    let F = shape_fields c.shape.invariant c.shape.view_is in
    number-sends 2 c.args.shape c.args.cursor four-count (sym F.lines ∙ c.in-4.is) c.sources_by_number-in-4.ensures
