-- The bank is faulty, or no bank below the next is, and its word stands with those before it.
use Rattle.std.proofs.Common.{sym, arith}
use Rattle.laws.proofs.Choices.{false-true}
use Rattle.rows.proofs.Marks.{inside}
use Rattle.rows.proofs.Groups.{kept-at, sound-at}
use Rattle.tables.proofs.Shapes.{shape_fields}
use Rattle.rows.proofs.wide.ReadsBanks.take.Goals as goal

pub overflow_mul-self : goal.overflow_mul-self
overflow_mul-self c =
    let F = shape_fields c.shape.invariant c.shape.view_is in
    let here = inside c.args.address c.args.bank F.dims (c.unfit.ensures.0 c.if-unfit.false) c.requires.in_bounds in
    record { fits = rw F.width (omega (arith, here, F.dims.few)) }

pub overflow_add-self : goal.overflow_add-self
overflow_add-self c =
    let F = shape_fields c.shape.invariant c.shape.view_is in
    let here = inside c.args.address c.args.bank F.dims (c.unfit.ensures.0 c.if-unfit.false) c.requires.in_bounds in
    record { fits = rw F.width (omega (arith, here, F.dims.few)) }

pub overflow_cast-self : goal.overflow_cast-self
overflow_cast-self c =
    let F = shape_fields c.shape.invariant c.shape.view_is in
    let here = inside c.args.address c.args.bank F.dims (c.unfit.ensures.0 c.if-unfit.false) c.requires.in_bounds in
    record { fits = rw F.width (omega (arith, here, F.dims.few)) }

pub returns-clause-told : goal.returns-clause-told
returns-clause-told c start addresses e H =
    let F = shape_fields c.shape.invariant c.shape.view_is in
    let K = rw H.0 at H.1 in
    let sound = (sound-at _ (omega (arith, c.requires.in_bounds, F.width, F.dims.narrow)) (c.unfit.ensures.1 addresses) e K.sound).none c.if-unfit.false in
    record {
      found = false-true;
      none = λ _. (
        H.0,
        rw H.0 (record {
          sound = sound;
          kept = kept-at F.dims K.kept c.requires.in_bounds e (omega (arith, c.requires.in_bounds, F.width, F.dims.narrow))
              (rw F.width (omega (arith, c.requires.in_bounds, F.width, F.dims.narrow)));
        }),
      );
    }

pub returns-then-unfit-clause-told : goal.returns-then-unfit-clause-told
returns-then-unfit-clause-told c start addresses e H =
    let K = rw H.0 at H.1 in
    let fault = (sound-at _ (omega arith) (c.unfit.ensures.1 addresses) e K.sound).found c.if-unfit.true in
    record { found = λ _. rw H.0 fault; none = λ q. false-true (sym q) }
