-- `complete` meets its contract. The loop's invariant: the owners are a matching, and the sets are its free ports, its other ports and the
-- banks that own none.
use Rattle.std.proofs.Common.{arith}
use Rattle.matching.proofs.Completing.{filling-start, filling-all, filling-ready, filling-more, filling-blocked}
use Rattle.matching.proofs.search.complete.Goals as goal

pub loop-idle-init : goal.loop-idle-init
loop-idle-init c =
    filling-start c.requires.width_le_most_width (omega arith) c.requires.partial c.below.ensures c.minus-taken.ensures

pub loop-idle-preserved : goal.loop-idle-preserved
loop-idle-preserved c =
    let F = c.loop-idle.invariant in
    let bank = c.lowest-bank in
    let A = c.in-Ok.ensures c.args.width (filling-ready F bank.result bank.ensures.1) in
    filling-more F bank.result bank.ensures.1 A c.without-free.ensures c.insert-taken.ensures c.without-idle.ensures

pub returns-in-Err : goal.returns-in-Err
returns-in-Err c =
    let F = c.loop-idle.invariant in
    let bank = c.lowest-bank in
    let L = c.in-Err.ensures c.args.width (filling-ready F bank.result bank.ensures.1) in
    rw L.same record { long = F.long; outcome = filling-blocked F bank.result bank.ensures.1 L c.minus-reached.ensures }

pub returns : goal.returns
returns c = let F = c.loop-idle.invariant in record { long = F.long; outcome = filling-all F c.loop-idle-test.false }
