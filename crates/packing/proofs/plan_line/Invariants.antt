use Rattle.std.proofs.Common.{length}
use Rattle.images.specs.Images.{order_of}
use Rattle.packing.specs.inner.Plans.{Planned}
use Rattle.packing.proofs.plan_line.Given as goal

abbrev pub invariant-loop-k : goal.invariant-loop-k
invariant-loop-k l = Planned l.w (order_of (length l.images) l.images) l.words l.k l.plan.reads l.plan.forward l.plan.back l.plan.writes
