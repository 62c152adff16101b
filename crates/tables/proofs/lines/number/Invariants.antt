use Rattle.std.proofs.Common.{◌≡◌, ◌≤◌, ◌-◌, ◌%◌}
use Rattle.limits.specs.Limits.{most_width}
use Rattle.laws.proofs.Tabulates.{Filling}
use Rattle.tables.proofs.Puts.{eight_from}
use Rattle.tables.proofs.lines.number.Given as goal

abbrev pub invariant-loop-x : goal.invariant-loop-x
invariant-loop-x l = (l.x ≤ most_width) × (l.x % 8 ≡ 0) × (l.eight ≡ eight_from l.x) × Filling (λ i. i) most_width l.x l.standing

abbrev pub decreases-loop-x : goal.decreases-loop-x
decreases-loop-x l = l.lines - l.x
