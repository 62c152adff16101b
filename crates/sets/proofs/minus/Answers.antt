-- `minus` meets its contract, digit by digit.
use Rattle.sets.proofs.Members.{minus-in}
use Rattle.sets.proofs.minus.Goals as goal

pub returns : goal.returns
returns c = minus-in c.args.set c.args.other
