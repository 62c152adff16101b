use Prim.Native.Nat.{ℕ}
use Rattle.matching.specs.Graph.{Edge}
use Rattle.matching.specs.inner.Search.{Ready}
use Rattle.matching.proofs.Augmenting.{Looked}
use Rattle.matching.proofs.search.+augment.Given as goal

abbrev pub decreases-augment : goal.decreases-augment
decreases-augment l = l.unseen

abbrev pub invariant-loop-left : goal.invariant-loop-left
invariant-loop-left l =
    (w : ℕ) → Ready (Edge l.edges) w l.initial.owner l.free l.unseen l.bank
    → Looked (Edge l.edges) w l.initial.owner l.unseen l.owner l.left

abbrev pub decreases-loop-left : goal.decreases-loop-left
decreases-loop-left l = l.left
