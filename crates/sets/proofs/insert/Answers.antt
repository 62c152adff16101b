-- `insert` meets its contract: nothing is shifted out, and what is added has its one digit at the number.
use Rattle.std.proofs.Common.{arith}
use Rattle.sets.proofs.Members.{with_in}
use Rattle.sets.proofs.insert.Goals as goal

pub returns : goal.returns
returns c = with_in c.args.set c.args.number 1 c.requires (omega arith)
