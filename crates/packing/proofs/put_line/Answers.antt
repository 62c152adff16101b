-- `put_line` meets its contract: the parts of the line are put one behind the other, and together are as long as the line.
use Rattle.std.proofs.Common.{ℕ, ◌≡◌, ◌+◌, ◌*◌, ◌^◌, ◌<◌, sym, ap, ◌∙◌, arith}
use lib.Seq.{length-take-le}
use Rattle.bits.specs.inner.Writing.{whole_of}
use Rattle.tables.specs.Terms.{line_bits}
use Rattle.tables.proofs.Shapes.{shape_fields}
use Rattle.packing.proofs.Parts.{front-each, front-put}
use Rattle.packing.proofs.Lines.{line-placed, read_fits, write-fits, line-put}
use Rattle.packing.proofs.put_line.Goals as goal

pub overflow_mul-bits_at : goal.overflow_mul-bits_at
overflow_mul-bits_at c =
    let P = line-placed (shape_fields c.shape.invariant c.shape.view_is) in
    omega (arith, P.total, c.requires.fact.2)

pub overflow_add-bits_at : goal.overflow_add-bits_at
overflow_add-bits_at c =
    let P = line-placed (shape_fields c.shape.invariant c.shape.view_is) in
    omega (arith, P.total, c.requires.fact.2)

pub overflow_add-writes_at : goal.overflow_add-writes_at
overflow_add-writes_at c =
    let P = line-placed (shape_fields c.shape.invariant c.shape.view_is) in
    omega (arith, P.total, c.requires.fact.2)

pub put_addresses-read-requires-clause-size_bound : goal.put_addresses-read-requires-clause-size_bound
put_addresses-read-requires-clause-size_bound c =
    let r = c.requires.ready in
    let shape = c.shape.inside in
    let P = line-placed (shape_fields c.shape.invariant c.shape.view_is) in
    let fits = λ (x : ℕ). x < 2 ^ shape.addressing in
    (P.address-few, front-each fits shape.width c.args.plan.now.reads (omega (arith, P.narrow)) (read_fits P r))

pub put_addresses-read-requires-clause-fact : goal.put_addresses-read-requires-clause-fact
put_addresses-read-requires-clause-fact c =
    let P = line-placed (shape_fields c.shape.invariant c.shape.view_is) in
    rw (length-take-le c.shape.inside.width c.args.plan.now.reads (omega (arith, P.narrow)))
    (c.requires.fact.0, omega (arith, P.total, c.requires.fact.1), omega (arith, P.total, c.requires.fact.2))

pub put_switches-set-requires-clause-fact : goal.put_switches-set-requires-clause-fact
put_switches-set-requires-clause-fact c =
    let shape = c.shape.inside in
    let P = line-placed (shape_fields c.shape.invariant c.shape.view_is) in
    let written = c.put_addresses-read in
    let read = front-put _ _ c.args.at shape.addressing shape.width c.args.plan.now.reads (omega (arith, P.narrow))
    written.ensures in
    (read.0, omega (arith, P.total, c.requires.fact.1, written.auto.file), omega (arith, P.total, c.requires.fact.2))

pub put_addresses-requires-clause-size_bound : goal.put_addresses-requires-clause-size_bound
put_addresses-requires-clause-size_bound c =
    let r = c.requires.ready in
    let shape = c.shape.inside in
    let P = line-placed (shape_fields c.shape.invariant c.shape.view_is) in
    let fits = λ (x : ℕ). x < 2 ^ shape.addressing in
    (P.address-few, front-each fits shape.width c.args.plan.now.writes (omega (arith, P.narrow)) (write-fits P r))

pub put_addresses-requires-clause-fact : goal.put_addresses-requires-clause-fact
put_addresses-requires-clause-fact c =
    let P = line-placed (shape_fields c.shape.invariant c.shape.view_is) in
    let long = length-take-le c.shape.inside.width c.args.plan.now.writes (omega (arith, P.narrow)) in
    rw long (
      rw (← P.switches) at c.put_switches-set.ensures.0,
      omega (arith, P.total, c.requires.fact.1, c.put_addresses-read.auto.file, c.put_switches-set.auto.file),
      omega (arith, P.total, c.requires.fact.2),
    )

pub returns : goal.returns
returns c =
    let a = c.args in
    let shape = c.shape.inside in
    let F = shape_fields c.shape.invariant c.shape.view_is in
    let P = line-placed F in
    let row = shape.width * shape.addressing in
    let end : a.at + row + shape.switches + row ≡ a.at + line_bits a.shape.words a.shape.width = omega (arith, P.total) in
    let read = front-put _ _ a.at shape.addressing shape.width a.plan.now.reads (omega (arith, P.narrow))
    c.put_addresses-read.ensures in
    let set = rw (← P.switches, ← P.width) at c.put_switches-set.ensures.1 in
    let writes_at = a.at + row + shape.switches in
    let written = front-put _ _ writes_at shape.addressing shape.width a.plan.now.writes (omega (arith, P.narrow))
    c.put_addresses.ensures in
    let whole = ap (λ (x : ℕ). whole_of c.put_addresses.new.file x c.put_addresses.result) (sym end) ∙ written.1 in
    (rw end at written.0, line-put a.at _ _ _ _ a.plan.now.reads a.plan.now.forward a.plan.now.writes F read.1 set whole)
