-- `settle_bank` meets its contract. The loop's invariant: the owners are as they were, and what is no longer hopeful is ruled out. Each turn
-- rules one port out at least, so fewer ports are hopeful.
use Rattle.std.proofs.Common.{ℕ, List, get_or, sym, ap, subst, ◌∙◌, arith}
use Rattle.sets.proofs.Members.{and_in, in_and, and_none, without-kept}
use Rattle.matching.specs.Graph.{Edge}
use Rattle.matching.specs.inner.Settling.{Settling, Settled}
use Rattle.matching.proofs.Settles.{chosen-wanted, own-port, hopeful-few, trial, settled-own, candidate-ready, settled-moved}
use Rattle.matching.proofs.Settles.{restored, hopeful-less, settling-less}
use Rattle.matching.proofs.settling.settle_bank.Goals as goal

pub choose-port-requires-clause-fact : goal.choose-port-requires-clause-fact
choose-port-requires-clause-fact c =
    let o = own-port (c.loop-seat.invariant.1 _ c.requires.settling.1) in (
      λ e. and_none (get_or c.args.graph.edges.now c.args.bank 0) c.loop-seat.hopeful e o.0 o.4 o.3,
      c.requires.bank_lt_width.0,
    )

pub choose-port-requires-clause-ranks : goal.choose-port-requires-clause-ranks
choose-port-requires-clause-ranks c =
    let r = c.requires.bank_lt_width in
    let S = c.loop-seat.invariant.1 _ c.requires.settling.1 in
    λ m. c.requires.ranked m c.args.bank _ r.0 (λ k h.
    let both = and_in (get_or c.args.graph.edges.now c.args.bank 0) c.loop-seat.hopeful k h in
    (r.1 k (S.fewer k both.1), both.0))

pub choose-port-requires-clause-preferred : goal.choose-port-requires-clause-preferred
choose-port-requires-clause-preferred c =
    let seat = c.requires.preferred in
    record {
      few = seat.few;
      gone = seat.gone;
      least = λ k h u. seat.least k (and_in (get_or c.args.graph.edges.now c.args.bank 0) c.loop-seat.hopeful k h).0 u;
    }

pub returns-then-rival-own : goal.returns-then-rival-own
returns-then-rival-own c = λ w G.
    let a = c.args in
    let l = c.loop-seat in
    let W = chosen-wanted a.graph.edges.now a.graph.keys.now a.bank l.hopeful c.choose-port.ensures in
    subst (λ (x : List ℕ). Settled (Edge a.graph.edges.now) w a.graph.keys.now x a.bank a.vacant l.owner c.choose-port.result)
    l.invariant.0 (settled-own (l.invariant.1 w G) W c.if-rival-own.true (omega arith))

pub port_of-held-requires : goal.port_of-held-requires
port_of-held-requires c =
    let o = own-port (c.loop-seat.invariant.1 _ c.requires.settling.1) in
    (o.0, in_and (get_or c.args.graph.edges.now c.args.bank 0) c.loop-seat.hopeful o.0 o.4 o.3, o.2)

pub without-requires : goal.without-requires
without-requires c =
    let S = c.loop-seat.invariant.1 _ c.requires.settling.1 in
    let held = hopeful-few S (get_or c.args.graph.edges.now c.args.bank 0) c.port_of-held.result c.port_of-held.ensures.0 in
    held

pub without-others-requires : goal.without-others-requires
without-others-requires c =
    let a = c.args in
    let W = chosen-wanted a.graph.edges.now a.graph.keys.now a.bank c.loop-seat.hopeful c.choose-port.ensures in (
      c.choose-port.ensures.0,
      without-kept c.without.ensures c.choose-port.result W.inside (λ e.
          c.if-rival-own.false (ap (λ (k : ℕ). get_or c.loop-seat.owner k 0) e ∙ c.port_of-held.ensures.1)),
    )

pub bounds-owner-held : goal.bounds-owner-held
bounds-owner-held c =
    let S = c.loop-seat.invariant.1 _ c.requires.settling.1 in
    let held = hopeful-few S (get_or c.args.graph.edges.now c.args.bank 0) c.port_of-held.result c.port_of-held.ensures.0 in
    held.0

pub insert-requires : goal.insert-requires
insert-requires c =
    let S = c.loop-seat.invariant.1 _ c.requires.settling.1 in
    let held = hopeful-few S (get_or c.args.graph.edges.now c.args.bank 0) c.port_of-held.result c.port_of-held.ensures.0 in
    held.0

pub augment-requires : goal.augment-requires
augment-requires c =
    let a = c.args in
    let l = c.loop-seat in
    let S = l.invariant.1 _ c.requires.settling.1 in
    let W = chosen-wanted a.graph.edges.now a.graph.keys.now a.bank l.hopeful c.choose-port.ensures in
    let held = c.port_of-held in
    let h = (hopeful-few S (get_or a.graph.edges.now a.bank 0) held.result held.ensures.0).1 in
    let T = trial S (omega arith) c.if-rival-own.false h held.ensures.1 c.without.ensures c.without-others.ensures c.insert.ensures in
    (_, candidate-ready S W T)

pub returns-in-Ok : goal.returns-in-Ok
returns-in-Ok c = λ w G.
    let a = c.args in
    let l = c.loop-seat in
    let S = l.invariant.1 w G in
    let W = chosen-wanted a.graph.edges.now a.graph.keys.now a.bank l.hopeful c.choose-port.ensures in
    let held = c.port_of-held in
    let h = (hopeful-few S (get_or a.graph.edges.now a.bank 0) held.result held.ensures.0).1 in
    let T = trial S (omega arith) c.if-rival-own.false h held.ensures.1 c.without.ensures c.without-others.ensures c.insert.ensures in
    subst (λ (x : List ℕ). Settled (Edge a.graph.edges.now) w a.graph.keys.now x a.bank a.vacant c.augment.new.owner c.choose-port.result)
    l.invariant.0 (settled-moved S W T (c.in-Ok.ensures w (candidate-ready S W T)))

pub bounds-owner-held-in-Err : goal.bounds-owner-held-in-Err
bounds-owner-held-in-Err c =
    let S = c.loop-seat.invariant.1 _ c.requires.settling.1 in
    let held = hopeful-few S (get_or c.args.graph.edges.now c.args.bank 0) c.port_of-held.result c.port_of-held.ensures.0 in
    held.0

pub insert-hopeful-requires : goal.insert-hopeful-requires
insert-hopeful-requires c =
    let S = c.loop-seat.invariant.1 _ c.requires.settling.1 in
    let held = hopeful-few S (get_or c.args.graph.edges.now c.args.bank 0) c.port_of-held.result c.port_of-held.ensures.0 in
    held.0

pub loop-seat-smaller : goal.loop-seat-smaller
loop-seat-smaller c =
    let a = c.args in
    let l = c.loop-seat in
    let S = l.invariant.1 _ c.requires.settling.1 in
    let W = chosen-wanted a.graph.edges.now a.graph.keys.now a.bank l.hopeful c.choose-port.ensures in
    let held = c.port_of-held in
    let h = (hopeful-few S (get_or a.graph.edges.now a.bank 0) held.result held.ensures.0).1 in
    let T = trial S (omega arith) c.if-rival-own.false h held.ensures.1 c.without.ensures c.without-others.ensures c.insert.ensures in
    hopeful-less S W T (c.in-Err.ensures _ (candidate-ready S W T)) c.insert-hopeful.ensures

pub loop-seat-preserved : goal.loop-seat-preserved
loop-seat-preserved c =
    let back =
    let a = c.args in
    let l = c.loop-seat in
    let S = l.invariant.1 _ c.requires.settling.1 in
    let W = chosen-wanted a.graph.edges.now a.graph.keys.now a.bank l.hopeful c.choose-port.ensures in
    let held = c.port_of-held in
    let h = (hopeful-few S (get_or a.graph.edges.now a.bank 0) held.result held.ensures.0).1 in
    let T = trial S (omega arith) c.if-rival-own.false h held.ensures.1 c.without.ensures c.without-others.ensures c.insert.ensures in
    restored S W T (c.in-Err.ensures _ (candidate-ready S W T))
    in (
      back ∙ c.loop-seat.invariant.0,
      λ w G.
          let a = c.args in
          let l = c.loop-seat in
          let S = l.invariant.1 w G in
          let W = chosen-wanted a.graph.edges.now a.graph.keys.now a.bank l.hopeful c.choose-port.ensures in
          let held = c.port_of-held in
          let h = (hopeful-few S (get_or a.graph.edges.now a.bank 0) held.result held.ensures.0).1 in
          let T = trial S (omega arith) c.if-rival-own.false h held.ensures.1 c.without.ensures c.without-others.ensures c.insert.ensures in
          subst (λ (x : List ℕ). Settling (Edge a.graph.edges.now) w x a.bank a.vacant c.insert-hopeful.result) (sym back)
          (settling-less S W T (c.in-Err.ensures w (candidate-ready S W T)) c.insert-hopeful.ensures),
    )
