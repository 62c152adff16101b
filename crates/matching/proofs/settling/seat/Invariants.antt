use Rattle.matching.specs.Graph.{Edge}
use Rattle.matching.specs.inner.Settling.{Seating}
use Rattle.matching.proofs.settling.seat.Given as goal

abbrev pub invariant-loop-bank : goal.invariant-loop-bank
invariant-loop-bank l = Seating (Edge l.graph.edges.now) l.graph.layout.width l.graph.keys.now l.owner l.seats l.bank l.free l.idle
