use Rattle.std.proofs.Common.{◌≤◌, ◌-◌}
use Rattle.tables.proofs.Puts.{Spreading}
use Rattle.tables.proofs.lines.spread.Given as goal

abbrev pub invariant-loop-i : goal.invariant-loop-i
invariant-loop-i l = (l.from ≤ l.i) × Spreading l.number l.count l.from l.row (l.i - l.from) l.initial.found l.found

abbrev pub decreases-loop-i : goal.decreases-loop-i
decreases-loop-i l = l.end - l.i
