-- `put_set`: before line t the bits up to it, those that the writer holds among them, are those of the set for the read lines so far. The arrays that a
-- line is planned in stay straight beside the banks.
use Rattle.std.proofs.Common.{◌+◌, ◌/◌, length}
use Rattle.images.specs.Images.{order_of}
use Rattle.bits.specs.inner.Writing.{whole_of}
use Rattle.tables.specs.Header.{header_bits}
use Rattle.tables.specs.Terms.{cycles}
use Rattle.packing.specs.inner.Plans.{Blank}
use Rattle.generator.proofs.Making.{Putting}
use Rattle.generator.proofs.generating.put_set.Given as goal

abbrev pub invariant-loop-t : goal.invariant-loop-t
invariant-loop-t l = record {
  blank : Blank l.shape.width l.plan.reads l.plan.forward l.plan.back l.plan.writes;
  putting : Putting l.shape.words l.shape.width (order_of (length l.images) l.images)
      (whole_of l.initial.file (header_bits l.shape.words) l.initial.held) l.t ((cycles l.shape.words l.shape.width + 63) / 64)
      l.heads l.edges l.places l.file l.held;
}
