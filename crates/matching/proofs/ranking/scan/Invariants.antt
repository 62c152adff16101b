use Rattle.matching.proofs.Scans.{Searched}
use Rattle.matching.proofs.ranking.scan.Given as goal

abbrev pub invariant-loop-i : goal.invariant-loop-i
invariant-loop-i l = Searched l.ports l.bank l.layout.width l.layout.per l.graph.images.now l.graph.places.now l.i
