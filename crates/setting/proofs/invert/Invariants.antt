use Rattle.limits.specs.Limits.{most_width}
use Rattle.laws.specs.Inverting.{Inverting}
use Rattle.setting.proofs.invert.Given as goal

abbrev pub invariant-loop-i : goal.invariant-loop-i
invariant-loop-i l = Inverting most_width l.forward l.i l.back
