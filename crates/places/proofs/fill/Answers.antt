-- `fill` meets its contract: each turn fills one bank more.
use Rattle.places.proofs.Fills.{filled_more}
use Rattle.places.proofs.fill.Goals as goal

pub loop-bank-preserved : goal.loop-bank-preserved
loop-bank-preserved c = filled_more c.requires.enough c.loop-bank.invariant c.fill_bank.ensures
