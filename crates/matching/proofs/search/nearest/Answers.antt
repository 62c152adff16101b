-- `nearest` meets its contract: what is left to look at is among the ports.
use Rattle.sets.proofs.Members.{without-only}
use Rattle.matching.proofs.search.nearest.Goals as goal

pub loop-rest-preserved : goal.loop-rest-preserved
loop-rest-preserved c k h =
    let l = c.lowest-port in c.loop-rest.invariant k (without-only (c.tail-rest.ensures l.result l.ensures.1 l.ensures.2) k h)
