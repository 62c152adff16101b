-- `least_key` meets its contract: of the ports looked at so far `best` has the least key, which is `key`.
use Rattle.std.proofs.Common.{refl, arith}
use Rattle.matching.proofs.Leasts.{best-first, best-same, best-next, best-all}
use Rattle.matching.proofs.settling.least_key.Goals as goal

pub loop-rest-init : goal.loop-rest-init
loop-rest-init c =
    let l = c.lowest-best.ensures in
    (best-first l.0 l.1 (c.tail-rest.ensures c.lowest-best.result l.1 l.2), refl)

pub loop-rest-preserved-then-other-key : goal.loop-rest-preserved-then-other-key
loop-rest-preserved-then-other-key c =
    let l = c.lowest-port.ensures in
    (best-next c.loop-rest.invariant.0 l.0 l.1 (c.tail-rest-in-loop-rest.ensures c.lowest-port.result l.1 l.2) (omega arith), refl)

pub loop-rest-preserved : goal.loop-rest-preserved
loop-rest-preserved c =
    let l = c.lowest-port.ensures in
    let i = c.loop-rest.invariant in
    (best-same i.0 l.0 l.1 (c.tail-rest-in-loop-rest.ensures c.lowest-port.result l.1 l.2) (omega arith), i.1)

pub returns : goal.returns
returns c = let B = c.loop-rest.invariant.0 in (B.few, B.inside, best-all B c.loop-rest-test.false)
