-- `augment` meets its contract. It calls itself with fewer unseen ports. The loop's invariant: the owners are as they were, and the owner of each
-- port that is no longer unseen is closed.
use Rattle.std.proofs.Common.{arith, get_or}
use Rattle.sets.proofs.Members.{and_in, and_none}
use Rattle.matching.proofs.Augmenting.{looked-failed, looked-rival, looked-next, looked-less, looked-more, seated-free, seated-over}
use Rattle.matching.proofs.search.+augment.Goals as goal

pub returns-then-vacant-ne0 : goal.returns-then-vacant-ne0
returns-then-vacant-ne0 t c w R =
    let h = and_in (get_or c.args.edges.now c.args.bank 0) c.args.free c.lowest-port.result c.lowest-port.ensures.1 in
    seated-free R c.lowest-port.result h.1 h.0

pub nearest-port-requires-clause-by_index : goal.nearest-port-requires-clause-by_index
nearest-port-requires-clause-by_index t c k h =
    let R = c.requires in
    let L = c.loop-left.invariant R.0 R.1 in
    omega (arith, looked-rival R.1 L k (and_in (get_or c.args.edges.now c.args.bank 0) c.loop-left.left k h).1, R.1.few)

pub without-requires : goal.without-requires
without-requires t c =
    let h = and_in (get_or c.args.edges.now c.args.bank 0) c.loop-left.left c.nearest-port.result c.nearest-port.ensures.1 in
    (c.nearest-port.ensures.0, h.1)

pub augment-requires : goal.augment-requires
augment-requires t c =
    let R = c.requires in
    let L = c.loop-left.invariant R.0 R.1 in
    let h = and_in (get_or c.args.edges.now c.args.bank 0) c.loop-left.left c.nearest-port.result c.nearest-port.ensures.1 in
    (omega (arith, c.without.ensures.less, L.explored.less, c.decreases), (R.0, looked-next R.1 L c.without.ensures h.1))

pub returns-in-Ok : goal.returns-in-Ok
returns-in-Ok t c w R =
    let L = c.loop-left.invariant w R in
    let h = and_in (get_or c.args.edges.now c.args.bank 0) c.loop-left.left c.nearest-port.result c.nearest-port.ensures.1 in
    seated-over R L c.without.ensures h.1 (c.in-Ok.ensures w (looked-next R L c.without.ensures h.1)) h.0

pub loop-left-smaller : goal.loop-left-smaller
loop-left-smaller t c =
    let R = c.requires in
    let L = c.loop-left.invariant R.0 R.1 in
    let h = and_in (get_or c.args.edges.now c.args.bank 0) c.loop-left.left c.nearest-port.result c.nearest-port.ensures.1 in
    looked-less R.1 L c.without.ensures h.1 (c.in-Err.ensures R.0 (looked-next R.1 L c.without.ensures h.1))

pub loop-left-preserved : goal.loop-left-preserved
loop-left-preserved t c w R =
    let L = c.loop-left.invariant w R in
    let h = and_in (get_or c.args.edges.now c.args.bank 0) c.loop-left.left c.nearest-port.result c.nearest-port.ensures.1 in
    looked-more R L c.without.ensures h.1 (c.in-Err.ensures w (looked-next R L c.without.ensures h.1))

pub returns : goal.returns
returns t c w R =
    let ports = get_or c.args.edges.now c.args.bank 0 in
    looked-failed R (c.loop-left.invariant w R) (and_none ports c.args.free c.if-vacant-ne0.false)
    (and_none ports c.loop-left.left c.loop-left-test.false)
