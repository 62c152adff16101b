use Rattle.tables.proofs.Scans.{Spare}
use Rattle.tables.proofs.lines.spare_used.Given as goal

abbrev pub invariant-loop-y : goal.invariant-loop-y
invariant-loop-y l = Spare l.sources l.width l.y
