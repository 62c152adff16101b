-- `keep` meets its contract: each turn finds one bank more that owns its seat.
use Rattle.matching.proofs.Seats.{keeping-more}
use Rattle.matching.proofs.settling.keep.Goals as goal

pub loop-bank-preserved : goal.loop-bank-preserved
loop-bank-preserved c = keeping-more c.loop-bank.invariant c.loop-bank-test.true c.if-owner-seat.false c.without-vacant.ensures
