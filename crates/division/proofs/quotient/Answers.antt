-- `quotient` meets its contract: the product of numbers of 16 and 33 bits lies in a word, and its shift is the quotient.
use Rattle.division.proofs.Quotients.{quotient_is}
use Rattle.division.proofs.quotient.Goals as goal

pub returns : goal.returns
returns c = λ w R. quotient_is c.args.number w c.args.reciprocal R c.requires.0
