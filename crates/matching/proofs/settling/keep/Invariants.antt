use Rattle.matching.specs.inner.Settling.{Keeping}
use Rattle.matching.proofs.settling.keep.Given as goal

abbrev pub invariant-loop-bank : goal.invariant-loop-bank
invariant-loop-bank l = Keeping l.width l.owner l.seats l.stop l.bank l.vacant
