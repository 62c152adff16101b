-- `row::take_group` meets its contract: turn j cuts the address of bank from + j out of the field, and finds the bank faulty or goes on.
use Rattle.std.proofs.Common.{◌≡◌, ◌+◌, ◌-◌, sym, ◌∙◌, arith}
use Rattle.laws.proofs.Choices.{false-true}
use Rattle.tables.specs.inner.Lines.{row_at}
use Rattle.tables.specs.Terms.{address_bits}
use Rattle.tables.proofs.Shapes.{shape_fields}
use Rattle.tables.proofs.Groups.{bits_left, bits-turned, group-address}
use Rattle.rows.proofs.row.take_group.Goals as goal

pub returns-then-take-clause-told : goal.returns-then-take-clause-told
returns-then-take-clause-told g c start file at e H =
    let a = c.args in
    let l = c.loop-j in
    let size = address_bits a.shape.words a.shape.width in
    let F = shape_fields c.shape.invariant c.shape.view_is in
    let left = bits_left a.count l.j size c.loop-j-test.true l.invariant.left in
    let address = group-address file at size a.count a.from l.j (l.behind - size) e
    (omega (arith, c.requires.in_bounds.0, F.dims.narrow, c.loop-j-test.true)) (omega (arith, l.invariant.left, left)) in
    let told = c.take.ensures.told start (row_at file at size) (address ∙ sym (rw F.addressing at c.address_in-address.ensures))
    (l.invariant.taken start file at e H) in
    let fault = told.found c.if-take.true in
    record { found = λ _. fault; none = λ q. false-true (sym q) }

pub loop-j-preserved : goal.loop-j-preserved
loop-j-preserved g c =
    let a = c.args in
    let l = c.loop-j in
    let size = address_bits a.shape.words a.shape.width in
    let F = shape_fields c.shape.invariant c.shape.view_is in
    let left = bits_left a.count l.j size c.loop-j-test.true l.invariant.left in
    let next : a.from + l.j + 1 ≡ a.from + (l.j + 1) = omega arith in
    record {
      left = rw F.addressing (bits-turned a.count l.j size left l.invariant.left);
      same = g.met.B.Banks.same_then _ _ _ l.invariant.same c.take.ensures.same;
      taken = λ start file at e H.
          let address = group-address file at size a.count a.from l.j (l.behind - size) e
          (omega (arith, c.requires.in_bounds.0, F.dims.narrow, c.loop-j-test.true)) (omega (arith, l.invariant.left, left)) in
          let told = c.take.ensures.told start (row_at file at size) (address ∙ sym (rw F.addressing at c.address_in-address.ensures))
          (l.invariant.taken start file at e H) in
          rw next at (told.none c.if-take.false);
    }
