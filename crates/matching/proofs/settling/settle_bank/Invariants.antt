use Prim.Native.Nat.{ℕ}
use mathlib.Core.Path.{◌≡◌}
use Rattle.limits.specs.Limits.{most_width}
use Rattle.laws.specs.Sum.{sum}
use Rattle.sets.specs.Set.{member}
use Rattle.matching.specs.Graph.{Edge}
use Rattle.matching.specs.inner.Settling.{Settling}
use Rattle.matching.proofs.settling.settle_bank.Given as goal

abbrev pub invariant-loop-seat : goal.invariant-loop-seat
invariant-loop-seat l =
    (l.owner ≡ l.initial.owner)
    × ((w : ℕ) → Settling (Edge l.graph.edges.now) w l.initial.owner l.bank l.vacant l.vacant
    → Settling (Edge l.graph.edges.now) w l.owner l.bank l.vacant l.hopeful)

abbrev pub decreases-loop-seat : goal.decreases-loop-seat
decreases-loop-seat l = sum most_width (member l.hopeful)
