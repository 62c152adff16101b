use Rattle.matching.specs.Graph.{Edge}
use Rattle.matching.proofs.Completing.{Filling}
use Rattle.matching.proofs.search.complete.Given as goal

abbrev pub invariant-loop-idle : goal.invariant-loop-idle
invariant-loop-idle l = Filling (Edge l.edges) l.width l.owner l.free l.taken l.idle

abbrev pub decreases-loop-idle : goal.decreases-loop-idle
decreases-loop-idle l = l.idle
