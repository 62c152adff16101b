-- `lines::spare_used` meets its contract: a turn meets a line below the width on a spare line, or passes a spare line without one.
use Rattle.tables.proofs.Scans.{spare-met, spare-all}
use Rattle.tables.proofs.lines.spare_used.Goals as goal

pub returns-then-sources-y : goal.returns-then-sources-y
returns-then-sources-y c =
    spare-met c.args.sources.now _ _ _ c.loop-y.invariant.from c.loop-y-test.true c.if-sources-y.true

pub returns : goal.returns
returns c = spare-all _ c.loop-y.invariant c.loop-y-test.false
