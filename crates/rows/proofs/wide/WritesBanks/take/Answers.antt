-- The bank is faulty, or no bank below the next is, and its word and place are marked with those before it.
use Rattle.std.proofs.Common.{sym, arith}
use Rattle.laws.proofs.Choices.{false-true}
use Rattle.rows.proofs.Marks.{inside, fault-outside}
use Rattle.rows.proofs.Groups.{write-faulty, write-more}
use Rattle.tables.proofs.Shapes.{shape_fields}
use Rattle.rows.proofs.wide.WritesBanks.take.Goals as goal

pub overflow_mul-place : goal.overflow_mul-place
overflow_mul-place c =
    let F = shape_fields c.shape.invariant c.shape.view_is in
    let here = inside c.args.address c.args.bank F.dims (rw F.cycles at c.if-shape-address.false) c.requires.in_bounds in
    record { fits = rw F.width (omega (arith, here, F.dims.few)) }

pub overflow_add-place : goal.overflow_add-place
overflow_add-place c =
    let F = shape_fields c.shape.invariant c.shape.view_is in
    let here = inside c.args.address c.args.bank F.dims (rw F.cycles at c.if-shape-address.false) c.requires.in_bounds in
    record { fits = rw F.width (omega (arith, here, F.dims.few)) }

pub offset_bounds-self-place : goal.offset_bounds-self-place
offset_bounds-self-place c =
    let F = shape_fields c.shape.invariant c.shape.view_is in
    let here = inside c.args.address c.args.bank F.dims (rw F.cycles at c.if-shape-address.false) c.requires.in_bounds in
    record { fits = rw F.width (omega (arith, here, F.dims.few)) }

pub overflow_cast-self : goal.overflow_cast-self
overflow_cast-self c =
    let F = shape_fields c.shape.invariant c.shape.view_is in
    let here = inside c.args.address c.args.bank F.dims (rw F.cycles at c.if-shape-address.false) c.requires.in_bounds in
    record { fits = rw F.width (omega (arith, here, F.dims.few)) }

pub bounds-self-place : goal.bounds-self-place
bounds-self-place c =
    let F = shape_fields c.shape.invariant c.shape.view_is in
    let here = inside c.args.address c.args.bank F.dims (rw F.cycles at c.if-shape-address.false) c.requires.in_bounds in
    rw F.width (omega (arith, here, c.requires.ready.1))

pub returns-then-shape-address-clause-told : goal.returns-then-shape-address-clause-told
returns-then-shape-address-clause-told c start writes e H =
    let F = shape_fields c.shape.invariant c.shape.view_is in
    let a = c.args in
    let fault = fault-outside writes start.words.now a.shape.width _ a.bank c.requires.in_bounds (rw (e, ← F.cycles) c.if-shape-address.true) in
    record { found = λ _. fault; none = λ q. false-true (sym q) }

pub returns-then-self-place-clause-told : goal.returns-then-self-place-clause-told
returns-then-self-place-clause-told c start writes e H =
    let F = shape_fields c.shape.invariant c.shape.view_is in
    let sent = rw (sym H.0, sym H.1) at c.requires.ready.2.1 in
    let W = H.2 c.requires.ready.2.0 sent in
    let fault = write-faulty c.args.bank c.args.address c.requires.in_bounds e W (rw F.cycles at c.if-shape-address.false)
    (rw F.width at c.if-self-place.true) in
    record { found = λ _. fault; none = λ q. false-true (sym q) }

pub returns-clause-told : goal.returns-clause-told
returns-clause-told c start writes e H =
    let F = shape_fields c.shape.invariant c.shape.view_is in
    let below = rw F.cycles at c.if-shape-address.false in
    let r = c.requires in
    let here = inside c.args.address c.args.bank F.dims below r.in_bounds in
    record {
      found = false-true;
      none = λ _. (
        H.0,
        H.1,
        λ addresses S.
            let more = write-more c.args.bank c.args.address r.in_bounds e (H.2 addresses S) S below (rw F.width at c.if-self-place.false) r.ready.0
            (omega (arith, here, r.ready.1)) in
            rw (F.width, c.from-2.ensures, c.from.ensures, sym H.0, sym H.1) more,
      );
    }
