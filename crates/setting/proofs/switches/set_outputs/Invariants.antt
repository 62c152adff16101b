use Rattle.std.proofs.Common.{◌*◌, get_or}
use Rattle.sets.specs.Set.{member}
use Rattle.setting.specs.inner.Steps.{Divided}
use Rattle.setting.proofs.switches.set_outputs.Given as goal

abbrev pub invariant-loop-j : goal.invariant-loop-j
invariant-loop-j l =
    Divided (λ i. member l.low (get_or l.back (2 * i) 0)) l.from l.j l.j l.back l.initial.bits l.bits l.halves.upper l.halves.lower
