use Rattle.std.proofs.Common.{get_or}
use Rattle.limits.specs.Limits.{most_width}
use Rattle.laws.proofs.Tabulates.{Filling}
use Rattle.setting.proofs.narrow.Given as goal

abbrev pub invariant-loop-i : goal.invariant-loop-i
invariant-loop-i l = Filling (λ x. get_or l.images x 0) most_width l.i l.forward
