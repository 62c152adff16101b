use Prim.Native.Nat.{◌≤◌}
use Rattle.matching.proofs.Scans.{Skipped}
use Rattle.matching.proofs.ranking.first_port.Given as goal

abbrev pub invariant-loop-left : goal.invariant-loop-left
invariant-loop-left l = Skipped l.ports l.rest l.from l.layout.width l.images l.left × (l.looks ≤ 16)

abbrev pub decreases-loop-left : goal.decreases-loop-left
decreases-loop-left l = l.left
