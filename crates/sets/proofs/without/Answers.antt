-- `without` meets its contract: of the two sets' digits only the number's is 1 in both.
use Rattle.std.proofs.Common.{arith}
use native.Mathlib.Nat.{one-mul}
use Rattle.sets.proofs.Members.{shifted, without_in}
use Rattle.sets.proofs.without.Goals as goal

pub returns : goal.returns
returns c = rw (shifted 1 c.args.number (omega arith) c.requires.0, one-mul) (without_in c.args.set c.args.number c.requires.1)
