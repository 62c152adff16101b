use Rattle.images.proofs.Checks.{Scanned}
use Rattle.images.proofs.check.Given as goal

abbrev pub invariant-loop-i : goal.invariant-loop-i
invariant-loop-i l = Scanned l.images l.n l.seen l.i
