use mathlib.Core.Path.{◌≡◌}
use Rattle.matching.specs.First.{key_at}
use Rattle.matching.specs.inner.Settling.{Best}
use Rattle.matching.proofs.settling.least_key.Given as goal

abbrev pub invariant-loop-rest : goal.invariant-loop-rest
invariant-loop-rest l = Best l.keys l.bank l.ports l.rest l.best × (l.key ≡ key_at l.keys l.bank l.best)

abbrev pub decreases-loop-rest : goal.decreases-loop-rest
decreases-loop-rest l = l.rest
