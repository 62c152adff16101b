-- `seat` meets its contract: each turn seats one bank more, or finds that no port is free to it.
use Rattle.std.proofs.Common.{get_or, arith}
use Rattle.sets.proofs.Members.{and_in, and_none, in_and}
use Rattle.matching.proofs.Seats.{seating-none, seating-idle, seating-more}
use Rattle.matching.proofs.settling.seat.Goals as goal
use Rattle.matching.proofs.settling.seat.Goals.{then-ports-eq0, else-ports-eq0}

pub loop-bank-init : goal.loop-bank-init
loop-bank-init c =
    let r = c.requires in
    seating-none c.args.graph.layout.few (omega arith) (omega arith) r.owner_value r.seats_value c.below-free.ensures

pub least-port-requires-clause-ranks : goal.least-port-requires-clause-ranks
least-port-requires-clause-ranks c = λ m. c.requires.ranked m c.loop-bank.bank _ c.loop-bank-test.true (λ k h.
    let both = and_in (get_or c.args.graph.edges.now c.loop-bank.bank 0) c.loop-bank.free k h in
    ((c.loop-bank.invariant.vacant.inside k both.1).0, both.0))

pub without-free-requires : goal.without-free-requires
without-free-requires c =
    let l = c.loop-bank in
    (c.least-port.ensures.0, (and_in (get_or c.args.graph.edges.now l.bank 0) l.free c.least-port.result c.least-port.ensures.1).1)

pub loop-bank-preserved : goal.loop-bank-preserved
loop-bank-preserved c =
    let l = c.loop-bank in
    let few = c.args.graph.layout.few in
    let edges = get_or c.args.graph.edges.now l.bank 0 in
    elim c.if-ports-eq0.branch [
      | then-ports-eq0 w ↦ rw (w.owner-is, w.seats-is, w.free-is, w.idle-is)
          (seating-idle few c.loop-bank-test.true l.invariant (and_none edges l.free w.if-ports-eq0.true) w.insert-idle.ensures)
      | else-ports-eq0 w ↦
          let h = and_in edges l.free w.least-port.result w.least-port.ensures.1 in
          rw (w.owner-is, w.seats-is, w.free-is, w.idle-is)
          (seating-more few c.loop-bank-test.true l.invariant h.0 h.1
          (λ k e f. w.least-port.ensures.2 k (in_and edges l.free k e f)) w.without-free.ensures)
    ]
