-- `tail` meets its contract.
use Rattle.sets.proofs.Members.{tail-in}
use Rattle.sets.proofs.tail.Goals as goal

pub returns : goal.returns
returns c = tail-in c.args.set
