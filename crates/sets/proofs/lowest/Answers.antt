-- `lowest` meets its contract: the digit above the trailing zeros is 1.
use Rattle.sets.proofs.Members.{lowest-in}
use Rattle.sets.proofs.lowest.Goals as goal

pub returns : goal.returns
returns c = lowest-in 64 c.args.set c.requires c.ranges.set.fits
