-- `settle` meets its contract: each turn settles one bank more.
use Rattle.matching.proofs.Seats.{unseated-more, seats-preferred}
use Rattle.matching.proofs.Settles.{placed-settling, placed-more}
use Rattle.matching.proofs.settling.settle.Goals as goal

pub settle_bank-port-requires-clause-preferred : goal.settle_bank-port-requires-clause-preferred
settle_bank-port-requires-clause-preferred c =
    seats-preferred c.args.seats.now c.loop-bank.bank c.loop-bank.invariant.1 c.insert.ensures c.minus-unseated.ensures
    c.requires.seats_value.0 c.loop-bank-test.true

pub loop-bank-preserved : goal.loop-bank-preserved
loop-bank-preserved c =
    let i = c.loop-bank.invariant in
    let below = c.loop-bank-test.true in
    let S = c.settle_bank-port.ensures c.args.graph.layout.width (placed-settling i.0 below) in (
      placed-more i.0 below S c.without-vacant.ensures,
      unseated-more c.args.seats.now c.loop-bank.bank i.1 c.insert.ensures c.minus-unseated.ensures,
    )
