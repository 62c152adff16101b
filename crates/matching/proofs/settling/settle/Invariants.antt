use Rattle.matching.specs.Graph.{Edge}
use Rattle.matching.specs.inner.Settling.{Placed, Unseated}
use Rattle.matching.proofs.settling.settle.Given as goal

abbrev pub invariant-loop-bank : goal.invariant-loop-bank
invariant-loop-bank l =
    Placed (Edge l.graph.edges.now) l.graph.layout.width l.graph.keys.now l.owner l.bank l.vacant × Unseated l.graph.layout.width l.seats l.bank l.unseated
