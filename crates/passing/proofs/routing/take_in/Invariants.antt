use Rattle.passing.specs.inner.Steps.{TakenIn}
use Rattle.passing.proofs.routing.take_in.Given as goal

abbrev pub invariant-loop-j : goal.invariant-loop-j
invariant-loop-j l = TakenIn l.j l.bits l.lines 0 l.upper × TakenIn l.j l.bits l.lines 1 l.lower
