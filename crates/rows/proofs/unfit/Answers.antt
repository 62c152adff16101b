-- `rows::unfit` meets its contract: bank b is faulty, or no bank below b + 1 is.
use Rattle.std.proofs.Common.{sym, arith}
use borrow.Author.Tests.{eqb-true, eqb-false, not-true, not-false}
use Rattle.laws.proofs.Choices.{false-true}
use Rattle.tables.proofs.Shapes.{shape_fields}
use Rattle.rows.proofs.Marks.{inside, fault-outside, fault-marked, sound_more}
use Rattle.rows.proofs.unfit.Goals as goal

pub returns-then-shape-address : goal.returns-then-shape-address
returns-then-shape-address c =
    let F = shape_fields c.shape.invariant c.shape.view_is in (
      λ q. false-true (sym q),
      λ addresses e H.
          let a = c.args in
          let fault = fault-outside addresses a.marks.now a.shape.width _ a.b c.requires.0
          (rw (e, ← F.cycles) c.if-shape-address.true) in
          record { found = λ _. fault; none = λ q. false-true (sym q) },
    )

pub overflow_mul-result : goal.overflow_mul-result
overflow_mul-result c =
    let F = shape_fields c.shape.invariant c.shape.view_is in
    let here = inside c.args.address c.args.b F.dims (rw F.cycles at c.if-shape-address.false) c.requires.0 in
    record { fits = rw F.width (omega (arith, here, F.dims.few)) }

pub overflow_add-result : goal.overflow_add-result
overflow_add-result c =
    let F = shape_fields c.shape.invariant c.shape.view_is in
    let here = inside c.args.address c.args.b F.dims (rw F.cycles at c.if-shape-address.false) c.requires.0 in
    record { fits = rw F.width (omega (arith, here, F.dims.few)) }

pub offset_bounds-marks-address : goal.offset_bounds-marks-address
offset_bounds-marks-address c =
    let F = shape_fields c.shape.invariant c.shape.view_is in
    let here = inside c.args.address c.args.b F.dims (rw F.cycles at c.if-shape-address.false) c.requires.0 in
    record { fits = rw F.width (omega (arith, here, F.dims.few)) }

pub bounds-marks-address : goal.bounds-marks-address
bounds-marks-address c =
    let F = shape_fields c.shape.invariant c.shape.view_is in
    let here = inside c.args.address c.args.b F.dims (rw F.cycles at c.if-shape-address.false) c.requires.0 in
    rw F.width (omega (arith, here, c.requires.1))

pub returns : goal.returns
returns c =
    let a = c.args in
    let F = shape_fields c.shape.invariant c.shape.view_is in
    let below = rw F.cycles at c.if-shape-address.false in (
      λ _. below,
      λ addresses e H. rw F.width (record {
        found = λ q.
            fault-marked addresses a.marks.now a.shape.width _ a.b c.requires.0 (rw e below)
            (rw e (eqb-false _ _ (not-true _ q)));
        none = λ q. sound_more addresses _ _ _ H c.requires.0 (rw e below) (rw e (eqb-true _ _ (not-false _ q)));
      }),
    )
