use Rattle.std.proofs.Common.{◌*◌}
use Rattle.sets.specs.Set.{member}
use Rattle.setting.specs.inner.Steps.{Divided}
use Rattle.setting.proofs.switches.set_inputs.Given as goal

abbrev pub invariant-loop-j : goal.invariant-loop-j
invariant-loop-j l = Divided (λ i. member l.low (2 * i)) 0 l.j l.j l.forward l.initial.bits l.bits l.halves.upper l.halves.lower
