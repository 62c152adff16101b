use Rattle.passing.specs.inner.Steps.{Joined}
use Rattle.passing.proofs.routing.give_out.Given as goal

abbrev pub invariant-loop-j : goal.invariant-loop-j
invariant-loop-j l = Joined l.j l.bits l.from l.upper l.lower l.lines
