-- `chain` has chained the words from i on and drawn their edges; `bank` is the bank of word i.
use Rattle.std.proofs.Common.{◌≡◌, ◌%◌, length}
use Rattle.images.specs.Images.{order_of}
use Rattle.generator.specs.inner.Schedule.{Drawn}
use Rattle.generator.proofs.Chains.{Chaining}
use Rattle.generator.proofs.scheduling.chain.Given as goal

abbrev pub invariant-loop-i : goal.invariant-loop-i
invariant-loop-i l = record {
  banked : l.bank ≡ l.i % l.w;
  chaining : Chaining l.n l.w (order_of (length l.images) l.images) l.initial.next l.i l.next l.heads;
  drawn : Drawn l.w l.heads l.edges;
}
